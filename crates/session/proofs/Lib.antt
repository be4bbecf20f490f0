pub mod NextCases
