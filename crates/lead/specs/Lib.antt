-- What is due.
pub mod Parts
