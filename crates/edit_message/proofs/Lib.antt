pub mod SameMessages
