-- Laws of the answers.
pub mod Stops
