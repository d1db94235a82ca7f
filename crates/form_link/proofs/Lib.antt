mod Causes
mod Complete
mod Doors
mod Listing
mod Tellings
