-- What a writer into a lent part promises.
pub mod Written
