-- The modules of this folder.
pub mod Results
pub mod TokenKinds
pub mod Extents
pub mod One
pub mod Mapped
pub mod Placed
pub mod After
pub mod Sequence
pub mod Choice
pub mod Optional
pub mod Many
pub mod Separated
pub mod Named
pub mod Counted
pub mod Stated
pub mod Within
pub mod Deepening
pub mod ManyBy
pub mod Whole
pub mod ReadsFrom
pub mod Reach
pub mod Laws
pub mod Finite
pub mod Steps
pub mod Loops
pub mod LoopsBy
pub mod Printing
pub mod ExampleTokens
pub mod Examples
mod DepthExamples
mod StateExamples
mod PositionExamples
