-- What the reader's functions promise one another.
pub mod Parts
