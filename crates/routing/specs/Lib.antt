-- What the route asks of its caller, and what its functions promise one another.
pub mod Routable
pub mod Parts
