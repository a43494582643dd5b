-- The modules of this folder.
pub mod Language
pub mod Reading
pub mod Reads
pub mod Rule
pub mod Stated
pub mod Exact
pub mod Laws
pub mod Placed
pub mod Depth
pub mod States
pub mod ReadsFrom
pub mod Reach
