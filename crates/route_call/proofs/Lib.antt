-- The outcome of the route call by what is known of its checks.
pub mod RouteOutcomes
