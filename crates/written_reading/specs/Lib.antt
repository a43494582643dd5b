-- The modules of this folder, in reading order.
pub mod Placeless
pub mod Named
pub mod ReadBack
pub mod Meanings
pub mod Pieces
