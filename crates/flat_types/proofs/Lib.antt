-- Laws that carry the proofs of the functions; Rows, Trees and Gathering are for callers, Promises carries the promises over words to canon's lists, Unique says that no promise has a second outcome.
pub mod Masks
pub mod Halves
pub mod Copying
pub mod Joining
pub mod Listing
pub mod References
pub mod Rows
pub mod Gathering
pub mod Trees
pub mod Promises
pub mod Unique
