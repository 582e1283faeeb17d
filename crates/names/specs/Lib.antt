-- Step names, in one byte, of a table, and lists of them in bytes.
pub mod InByte
pub mod Steps
pub mod Names
