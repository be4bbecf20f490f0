pub mod Soundness
pub mod Checking
pub mod Calling
pub mod Receiving
