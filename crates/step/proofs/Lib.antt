-- One step by its action.
pub mod Steps
pub mod Found
pub mod Taken
