-- Laws that several proofs of this crate cite.
pub mod Asking
pub mod Maxima
pub mod Questions
pub mod Unique
pub mod Promises
