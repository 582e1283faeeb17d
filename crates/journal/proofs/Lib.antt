-- The journal in its array.
pub mod Held
