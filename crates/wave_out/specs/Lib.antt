-- The modules of this folder.
pub mod Texts
pub mod Scopes
pub mod Vcd
pub mod Walk
pub mod Lines
pub mod Ready
pub mod Marks
pub mod Listing
pub mod Changes
pub mod Files
pub mod Shown
pub mod Writing
pub mod Nested
pub mod Laws
