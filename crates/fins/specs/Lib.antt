pub mod Fins
