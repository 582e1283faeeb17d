-- What the functions of the pair verdict promise one another.
pub mod Codes
