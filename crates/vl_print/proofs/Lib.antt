-- The modules of this folder.
pub mod Printed
pub mod ExpressionsPrinted
pub mod ItemsPrinted
pub mod PrimitivesPrinted
pub mod ModulesPrinted
pub mod ConditionsPrinted
pub mod AmountsPrinted
pub mod PathsPrinted
pub mod ChecksPrinted
pub mod SpecifyPrinted
pub mod PutLeft
pub mod WholePrinted
