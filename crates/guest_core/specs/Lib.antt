pub mod State
pub mod Asks
pub mod Writes
pub mod Calls
pub mod Send
