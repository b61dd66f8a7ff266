-- What the promises of this crate cite beside canon.
pub mod Lists
pub mod Places
