pub mod Receiving
pub mod Flowing
