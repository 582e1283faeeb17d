-- What a turn leans on.
pub mod Ranks
pub mod Choices
