pub mod Named
pub mod Carried
pub mod Swept
