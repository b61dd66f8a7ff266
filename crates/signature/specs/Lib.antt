-- What the promises of this crate cite beside canon.
pub mod Packs
pub mod Means
pub mod Asked
