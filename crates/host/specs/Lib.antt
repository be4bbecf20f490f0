pub mod State
pub mod Asks
pub mod Checks
pub mod Event
pub mod Calls
pub mod Receive
