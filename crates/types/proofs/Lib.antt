-- Laws that carry the code's steps to 01's answers, that no second outcome meets a promise, and demand 3 over the promises.
pub mod RoundLaws
pub mod ExtentLaws
pub mod AnswerLaws
pub mod RecordLaws
pub mod VariantLaws
pub mod Runs
pub mod Told
pub mod Unique
pub mod Promises
