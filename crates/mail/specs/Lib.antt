-- What the mail's functions do to the arrays.
pub mod Parts
