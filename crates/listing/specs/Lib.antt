-- What the program prints for which bytes. A reader of the promises needs Text; Told follows the code, and proofs/ carries it to Text.
pub mod Text
pub mod Told
