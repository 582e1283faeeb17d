-- What the page call leans on.
pub mod Pages
