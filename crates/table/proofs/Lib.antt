-- Laws that several proofs of this crate cite.
pub mod Giving
pub mod Putting
pub mod Reading
pub mod References
pub mod Told
pub mod Unique
