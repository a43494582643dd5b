-- The modules of this folder, in reading order.
pub mod Words
pub mod Kinds
pub mod Written
pub mod Rules
pub mod Places
pub mod Seen
pub mod Reading
