-- What a footprint is, and the latest places by it.
pub mod Resources
pub mod Latest
