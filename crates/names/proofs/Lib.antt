-- What holds of step names.
pub mod InByte
pub mod Listed
pub mod NamedBytes
pub mod Steps
