-- What running a schedule takes and leaves.
pub mod Parts
