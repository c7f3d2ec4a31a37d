pub mod Columns
pub mod Terms
pub mod Wilson
pub mod Uniquac
pub mod Nrtl
pub mod GroupLists
pub mod Unifac
pub mod Model
