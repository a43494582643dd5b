-- The modules of this folder: what the code's bits stand for.
pub mod Seen
pub mod Words
