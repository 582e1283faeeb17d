-- The mail in arrays and in the model.
pub mod Changes
pub mod Comms
pub mod Ends
pub mod Queues
pub mod Meets
