-- The proofs of this crate that belong to no one function.
pub mod ByKind
pub mod EveryKind
