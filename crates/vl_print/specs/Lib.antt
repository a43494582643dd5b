-- The modules of this folder.
pub mod Printing
pub mod SpecifyPrinting
pub mod ModulesPrinting
pub mod Printed
