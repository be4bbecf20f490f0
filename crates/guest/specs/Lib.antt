pub mod Checks
pub mod Event
pub mod Receive
pub mod Flow
