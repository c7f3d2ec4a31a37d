pub mod History
pub mod AgreeLaws
pub mod CellLaws
pub mod CountLaws
pub mod LoadLaws
pub mod RangeLaws
pub mod StoreLaws
pub mod WrittenBack
