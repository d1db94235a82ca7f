pub mod Need
pub mod Hold
pub mod Index
