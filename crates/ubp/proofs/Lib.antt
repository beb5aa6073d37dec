mod Layouts
mod Own
mod OwnCommands
mod Parts
mod Pegs
mod Verdicts
