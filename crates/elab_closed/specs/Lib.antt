-- The modules of this folder: the laws.
pub mod NamedNets
pub mod Laws
