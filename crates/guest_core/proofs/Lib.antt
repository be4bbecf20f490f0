pub mod Soundness
pub mod Calling
pub mod Sending
