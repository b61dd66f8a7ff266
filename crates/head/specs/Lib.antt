-- What a definition's head says. A reader of the promise needs head_at of Heads.
pub mod Heads
pub mod Means
