pub mod CallAnswers
pub mod Version
