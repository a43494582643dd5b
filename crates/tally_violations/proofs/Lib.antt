-- The modules of this folder.
pub mod Examples
pub mod GroupLaws
pub mod NumberLaws
pub mod RowLaws
pub mod TextLaws
pub mod WordLaws
