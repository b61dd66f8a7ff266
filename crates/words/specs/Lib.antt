-- Lent bytes as words.
pub mod Words
