-- What one step takes and leaves.
pub mod Parts
