-- The modules of this folder: what the code's copies stand for, and words of private functions.
pub mod Seen
pub mod Copies
pub mod Words
