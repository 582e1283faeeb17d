-- What the page's writers promise.
pub mod Parts
