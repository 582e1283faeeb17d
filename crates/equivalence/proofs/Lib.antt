-- The proofs of this crate that belong to no one function.
pub mod Below
pub mod Places
pub mod Named
pub mod Latest
pub mod Crossing
pub mod Searching
pub mod Pairs
pub mod Verdict
