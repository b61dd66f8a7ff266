-- What the contracts cite. Leaves holds 01's answers in canon's words, Means what the code's values stand for: with canon, all that a
-- reader of the promises needs. Extents and States follow the code; laws in proofs/ carry them to Leaves.
pub mod Leaves
pub mod Means
pub mod Extents
pub mod States
