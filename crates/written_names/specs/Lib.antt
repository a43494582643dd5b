-- The modules of this folder, in reading order.
pub mod Netlists
pub mod NamedScopes
