-- What an execution's end is good for.
pub mod Ends
