mod Alone
mod Buffers
mod FirstLines
mod Stops
