-- Laws of the arrays that belong to no one function.
pub mod Fresh
pub mod Queued
pub mod Stored
