-- The modules of this folder, in reading order.
pub mod Groups
