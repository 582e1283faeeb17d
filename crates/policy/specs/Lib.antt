-- The rule of each policy, and what a turn is.
pub mod Parts
