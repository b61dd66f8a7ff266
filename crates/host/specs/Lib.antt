-- A reader of the promises needs Numbers, Infos and Bytes. Questions, Short, Picked and Local follow the code; proofs/ carries them to those and to canon.
pub mod Numbers
pub mod Infos
pub mod Bytes
pub mod Questions
pub mod Short
pub mod Picked
pub mod Local
