-- A look at a list, and what a look depends on.
pub mod Looking
pub mod Sees
