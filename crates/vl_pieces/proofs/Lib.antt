-- The modules of this folder.
pub mod Runs
pub mod NumberLaws
pub mod SizedLaws
pub mod PieceLaws
pub mod ModeLaws
pub mod Examples
