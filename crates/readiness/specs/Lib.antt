-- The ready answer's parts over the arrays.
pub mod Parts
