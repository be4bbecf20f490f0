pub mod Kept
pub mod Counts
pub mod Cases
pub mod Lines
pub mod Bounds
pub mod Sums
pub mod Settled
