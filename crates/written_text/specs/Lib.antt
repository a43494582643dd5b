-- The modules of this folder, in reading order.
pub mod Places
pub mod Page
pub mod Instances
pub mod Large
