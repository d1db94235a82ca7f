mod Commands
mod PlainCommands
