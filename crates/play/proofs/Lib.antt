-- A schedule, entry by entry, lent or made.
pub mod Prefix
pub mod Playing
pub mod Next
pub mod Ends
pub mod Masks
pub mod Quiet
pub mod Making
pub mod Leading
