pub mod Ascending
pub mod GroupChange
pub mod Halves
pub mod KeptLimits
pub mod SameNames
