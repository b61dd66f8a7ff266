-- Laws: what the function proofs cite, what a heading says of the words, and that no second outcome meets a promise.
pub mod Sizes
pub mod Laws
pub mod Unique
