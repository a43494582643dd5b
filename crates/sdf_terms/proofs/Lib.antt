-- The modules of this folder.
pub mod Marks
pub mod Starts
pub mod DelayLists
pub mod WordOfToken
pub mod BalancedTokens
