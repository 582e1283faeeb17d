-- The listing by what is known of its checks.
pub mod Outcomes
