-- The modules of this folder: what is refused of lists of faults, and names that stand twice.
pub mod Again
pub mod After
pub mod Refusals
