-- What the same verdict asks of its caller, what it promises, and what its functions promise one another.
pub mod Compared
pub mod Judged
pub mod Parts
