-- The outcome of the ready call by what is known of its checks.
pub mod ReadyOutcomes
