-- What the lines' writers promise one another.
pub mod FirstSteps
