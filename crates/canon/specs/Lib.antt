-- The Canonical ABI as mathematics, and what document 01 adds to it: what a reader has to believe. Laws are in proofs/.
pub mod Answer
pub mod Types
pub mod Layout
pub mod Pack
pub mod Flat
pub mod Placement
pub mod Reach
pub mod Row
pub mod Table
pub mod Description
pub mod Question
pub mod Cost
pub mod Gaps
pub mod Signature
pub mod Functype
pub mod Before
