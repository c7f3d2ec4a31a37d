pub mod TextLaws
pub mod KindLaws
pub mod GroupListLaws
pub mod RecordLaws
pub mod CallLaws
pub mod WorkedTexts
