pub mod Decomposing
pub mod Differences
pub mod LogBranches
