-- What a reader of this crate's promises has to believe, in the order of document 01: the bytes of a table, the kinds of action, an action
-- decoded, the outcome of reading for every file, and what holds of an accepted table.
pub mod Outcome
pub mod Format
pub mod Kinds
pub mod Decode
pub mod Read
pub mod Promise
pub mod Answer
