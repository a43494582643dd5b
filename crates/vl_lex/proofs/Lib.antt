-- The modules of this folder.
pub mod BranchLaws
pub mod MacroLaws
pub mod Splits
pub mod StepLaws
pub mod OneReading
pub mod SomeReading
pub mod PlainFiles
pub mod UntakenText
pub mod MacroUses
pub mod TakenBranches
pub mod SkippedTexts
pub mod Conditionals
pub mod ConditionalExample
pub mod Examples
