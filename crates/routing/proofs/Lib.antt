-- The proofs of this crate that belong to no one function.
pub mod NamePlaces
pub mod TakenOut
pub mod Positions
pub mod Turns
