-- The modules of this folder.
pub mod Texts
pub mod Report
pub mod Reporting
pub mod Spent
pub mod Above
