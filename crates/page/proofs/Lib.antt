-- The page over the engine's arrays.
pub mod Laws
