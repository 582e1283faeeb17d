-- What `remainder` goes by of a part.
pub mod Parts
