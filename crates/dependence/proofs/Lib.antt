-- The proofs of this crate that belong to no one function.
pub mod SameCode
pub mod CodeTable
pub mod ListTests
pub mod MailKinds
pub mod Asked
pub mod CodeLaw
pub mod CodeRanges
