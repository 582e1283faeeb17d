-- The lines' texts and lengths.
pub mod Wordings
