pub mod Race
pub mod Work
pub mod Lists
pub mod Form
pub mod SilenceLaws
pub mod Laws
