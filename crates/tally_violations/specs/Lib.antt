-- The modules of this folder, in reading order.
pub mod Rows
pub mod Numbers
pub mod Violations
pub mod Waivers
pub mod Left
pub mod Groups
pub mod Figures
pub mod Seen
