-- The modules of this folder: what the code's places and ends stand for, and words of private functions.
pub mod Seen
pub mod Ends
pub mod Words
