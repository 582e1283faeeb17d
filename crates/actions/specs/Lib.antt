-- What an action is, besides its cells.
pub mod Fields
