-- Laws of the definitions that belong to no one function.
pub mod Checks
pub mod Readings
pub mod Placed
pub mod Promise
pub mod Decoded
pub mod OtherKinds
