-- The modules of this folder.
pub mod AnyDepth
pub mod BegunLaws
pub mod Below
pub mod BindingExamples
pub mod BindingLaws
pub mod BoundChain
pub mod Chains
pub mod Cores
pub mod EqualTokens
mod Examples
pub mod JoinedBelow
pub mod JoinedValue
pub mod Levels
pub mod MappedNames
pub mod Outermost
pub mod Scanned
pub mod Scanning
pub mod ValueExamples
pub mod Views
pub mod WholeConditions
mod WordExamples
pub mod WordReading
pub mod WordSteps
pub mod Words
