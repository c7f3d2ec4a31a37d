pub mod Words
pub mod GroupLists
pub mod Records
pub mod Calls
pub mod Text
pub mod Run
pub mod WorkedTexts
pub mod Steps
