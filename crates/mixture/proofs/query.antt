pub mod QueryLaws
pub mod SolvedLaws
