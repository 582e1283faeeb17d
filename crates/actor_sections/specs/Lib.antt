-- What the writers of actors and actions promise.
pub mod Parts
