-- What the calls on two schedules know of them.
pub mod Traces
