pub mod Listing
pub mod Steps
pub mod Calls
pub mod Reach
pub mod Settled
