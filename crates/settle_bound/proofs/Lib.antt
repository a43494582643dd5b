-- The modules of this folder.
pub mod Numbers
pub mod ReleaseLaws
pub mod OrderLaws
pub mod StartLaws
pub mod PendingTimes
pub mod Deadlines
pub mod RoundTimes
pub mod RunTimes
pub mod ChainLaws
pub mod LongestLaws
pub mod CircuitTimes
pub mod TerminalLaws
pub mod HopLaws
pub mod LinkedLaws
pub mod RingLaws
pub mod SettleLaws
mod Examples
