-- The entries of a made schedule, from the names of its steps.
pub mod Entries
pub mod Made
