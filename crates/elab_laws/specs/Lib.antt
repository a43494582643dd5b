-- The modules of this folder: words in which the laws, and the code, speak of nets by their numbers.
pub mod Words
pub mod Handing
pub mod Given
pub mod Laws
pub mod ElementLaws
pub mod NumberLaws
pub mod LateLaws
