pub mod EasyExp
pub mod Cutting
pub mod Rounding
pub mod NearestLaws
