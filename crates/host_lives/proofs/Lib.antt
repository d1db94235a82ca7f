pub mod Lasting
pub mod Requests
pub mod Closes
pub mod Records
pub mod Samples
