-- The bytes of queues, from the arrays.
pub mod Lists
pub mod Boxes
pub mod Mutexes
