-- The modules of this folder.
mod Examples
