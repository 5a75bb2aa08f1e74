mod Encoded
mod Files
mod Heads
mod Lists
mod Numbers
mod Paths
