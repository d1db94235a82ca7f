mod Lines
mod Readings
