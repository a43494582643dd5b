-- The modules of this folder.
pub mod Putting
pub mod Rows
pub mod BitPlaces
pub mod Updates
pub mod Pairs
pub mod Fitting
pub mod BoundRow
pub mod Bindings
pub mod PlacedRow
pub mod Placings
