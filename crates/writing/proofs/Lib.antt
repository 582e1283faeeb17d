-- Laws of writing one part after another.
pub mod Written
pub mod Loops
pub mod Sections
pub mod Flat
pub mod Texts
