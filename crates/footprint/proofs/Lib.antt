-- The proofs of this crate that belong to no one function.
pub mod Groups
pub mod Clash
pub mod ClashDepends
pub mod Ranges
pub mod Raised
pub mod Lists
pub mod Passes
pub mod Numbered
