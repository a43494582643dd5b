-- The modules of this folder.
mod Examples
mod Texts
