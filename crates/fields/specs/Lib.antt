-- What the checks of one action promise one another.
pub mod Parts
