-- What the C structs hold for each outcome of a call.
pub mod Fields
