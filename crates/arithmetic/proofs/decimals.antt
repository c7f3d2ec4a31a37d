pub mod Texts
pub mod Tens
pub mod Rounds
pub mod NoTie
pub mod Cases
pub mod Forms
pub mod Refusals
