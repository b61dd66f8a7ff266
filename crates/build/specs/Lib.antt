-- What the code does, call by call; proofs/ carries it to canon. A reader of the promises needs built_means and accepted of Means alone.
pub mod Steps
pub mod Kinds
pub mod Means
