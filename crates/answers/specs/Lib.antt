-- What each answer stands for.
pub mod Answers
