pub mod Certify
pub mod Answer
pub mod Audit
pub mod Form
pub mod Laws
