-- The modules of this folder: the grammar of netlists, its trees, and how the code's trees are seen.
pub mod Tree
pub mod Seen
pub mod CheckNames
pub mod CheckNamesSeen
pub mod Kinds
pub mod Rules
pub mod Expressions
pub mod Items
pub mod Conditions
pub mod Amounts
pub mod Paths
pub mod Checks
pub mod Specify
pub mod Primitives
pub mod Modules
pub use Rattle.vl_token.specs.Seen as SeenOfToken
pub use Rattle.vl_token.specs.Tokens
pub use Rattle.udp_rows.specs.declared.faults.UdpKind
pub use Rattle.udp_rows.specs.Faults
pub use Rattle.udp_rows.specs.Meaning
