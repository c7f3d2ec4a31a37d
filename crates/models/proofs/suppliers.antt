pub mod FieldEnds
pub mod Turns
pub mod ImportLaws
pub mod WorkedLists
pub mod Spelling
pub mod Rows
