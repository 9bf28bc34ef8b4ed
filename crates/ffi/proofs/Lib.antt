mod Largest
mod Running
mod Strategies
