pub mod Stream
pub mod Turn
pub mod Feed
pub mod Form
pub mod First
pub mod Laws
