-- The modules of this folder.
pub mod Behind
pub mod Width
pub mod WordOfToken
mod Examples
