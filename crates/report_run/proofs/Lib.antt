pub mod KeptRuns
pub mod Tellings
