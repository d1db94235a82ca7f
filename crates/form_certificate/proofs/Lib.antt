pub mod Prefixes
pub mod NextMessages
pub mod AuditAnswers
pub mod Certified
pub mod CertifierStreams
pub mod AuditForms
