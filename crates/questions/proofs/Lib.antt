-- Laws that several proofs of this crate cite.
pub mod References
pub mod Positions
pub mod WellFormed
pub mod Members
pub mod Passing
pub mod Asking
pub mod Memos
pub mod Unique
pub mod Promises
