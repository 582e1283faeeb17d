-- What text is written as.
pub mod Digits
pub mod Filling
