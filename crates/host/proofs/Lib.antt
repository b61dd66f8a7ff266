-- Laws that several proofs of this crate cite.
pub mod Chosen
pub mod Packs
pub mod Taken
pub mod Several
pub mod Unique
pub mod Promises
pub mod Decoded
pub mod Builds
pub mod Short
pub mod Kept
pub mod Picked
pub mod ShortLists
