pub mod Cases
pub mod TypesCases
