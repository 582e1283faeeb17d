-- What writing a report asks.
pub mod Parts
