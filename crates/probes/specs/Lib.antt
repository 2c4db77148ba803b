pub mod Answers
pub mod Hours
