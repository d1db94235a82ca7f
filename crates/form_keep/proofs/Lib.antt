mod StepLines
mod Reading
mod Steps
mod Openings
mod Puts
mod Causes
mod Rows
mod Complete
