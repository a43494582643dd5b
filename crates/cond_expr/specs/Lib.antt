-- The modules of this folder.
pub mod AllKinds
pub mod Begun
pub mod Binding
pub mod Codes
pub mod Condition
pub mod Exactness
pub mod Grammar
pub mod Kinds
pub mod Laws
pub mod Same
pub mod ScanSteps
pub mod Token
pub mod Tree
pub mod Values
pub mod Vocabulary
pub mod WordReading
pub mod WordStates
