pub mod Root
pub mod IsRoot
