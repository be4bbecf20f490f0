pub mod NumberLaws
pub mod Overlays
pub mod Headers
pub mod Rows
pub mod PartLaws
