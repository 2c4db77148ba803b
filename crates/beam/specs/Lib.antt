pub mod Beam
