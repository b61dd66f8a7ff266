pub mod Writing
pub mod Rows
pub mod Telling
pub mod Decimal
pub mod Examples
pub mod Unique
