-- What the run call leans on.
pub mod Reports
