-- The modules of this folder.
pub mod BoundLaws
pub mod CellSteps
pub mod CheckLaws
pub mod EntrySteps
pub mod FoundPlaces
pub mod KeptLimits
pub mod LimitBounds
pub mod PassSteps
pub mod RowLaws
pub mod ScopeLaws
pub mod TableSteps
pub mod WholeSteps
pub mod StreamedSteps
