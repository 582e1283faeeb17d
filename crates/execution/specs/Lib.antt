-- What an execution leaves.
pub mod Parts
