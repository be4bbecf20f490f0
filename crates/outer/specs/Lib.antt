pub mod Outer
pub mod Payloads
