-- Readiness over the arrays.
pub mod Laws
