-- The job that a struct stands for (`Asked`), and what a run keeps from step to step (`Kept`).
pub mod Asked
pub mod Kept
