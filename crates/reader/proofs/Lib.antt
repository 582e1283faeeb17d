-- What the header, the directory and the file's end say of an action's place.
pub mod Room
