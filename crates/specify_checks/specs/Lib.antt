-- The modules of this folder: what the code's values stand for, and parts of a text.
pub mod Parts
pub mod Copies
pub mod Seen
pub use Rattle.specify_paths.specs.Seen as SeenOfPaths
