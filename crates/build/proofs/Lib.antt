-- Laws: first those that the function proofs cite, then those that carry the code's steps to canon.
pub mod Wording
pub mod Folding
pub mod LookLaws
pub mod FitLaws
pub mod FoldLaws
pub mod MemberLaws
pub mod CaseLaws
pub mod ElementLaws
pub mod BodyLaws
pub mod DefinitionLaws
pub mod RunLaws
pub mod Accepts
pub mod Unique
pub mod Promises
pub mod Arms
