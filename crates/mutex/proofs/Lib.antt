-- The queues in arrays and in the model.
pub mod Moved
pub mod Entries
pub mod Queues
pub mod Owning
pub mod Steps
