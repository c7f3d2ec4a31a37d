pub mod ByFields
pub mod Steps
pub mod HalfOff
