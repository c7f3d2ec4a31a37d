pub mod Blocks
pub mod Inputs
pub mod Refills
