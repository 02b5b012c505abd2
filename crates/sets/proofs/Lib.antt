pub mod SetsLaws
pub mod Operations
