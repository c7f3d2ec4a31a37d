pub mod Arguments
pub mod Border
pub mod Unknown
pub mod Host
pub mod Exports
pub mod Version
