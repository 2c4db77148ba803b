pub mod Weather
