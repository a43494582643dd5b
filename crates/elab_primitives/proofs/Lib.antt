-- The modules of this folder.
mod Among
mod Cuts
mod FewDelays
mod SameFaults
mod Tables
mod TooLong
