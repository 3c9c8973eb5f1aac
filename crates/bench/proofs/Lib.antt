-- What was read is where the input begins.
mod Stream
