-- The modules of this folder.
mod Outputs
