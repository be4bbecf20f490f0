pub mod Record
pub mod Types
