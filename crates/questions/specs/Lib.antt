-- What the promises of this crate cite beside canon.
pub mod Gathers
pub mod Means
pub mod Steps
