-- The state in arrays, and the site of the model that the arrays hold.
pub mod Rooms
pub mod State
