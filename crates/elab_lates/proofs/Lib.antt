-- The modules of this folder.
mod Tests
mod Adding
mod CheckCopies
mod InOrder
mod Found
