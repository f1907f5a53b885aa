mod Listed
mod Passing
