mod Editing
mod Entries
mod Mirrored
mod Passing
mod Spelled
mod Talking
