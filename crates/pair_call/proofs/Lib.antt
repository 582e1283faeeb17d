-- The outcome of the pair call by what is known of its checks.
pub mod PairOutcomes
