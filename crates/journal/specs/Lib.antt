-- What the writers of the journal promise.
pub mod Parts
