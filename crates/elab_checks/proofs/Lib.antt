-- The modules of this folder.
pub mod Shelved
pub mod SoFar
pub mod OwnChecks
pub mod EachModule
pub mod Names
pub mod SoundOperands
pub mod BoundEvents
pub mod MadeChecks
pub mod LatesInOrder
pub mod InstanceChecks
pub mod Counts
pub mod OneByOne
pub mod InstanceTurn
pub use Rattle.elab_paths.proofs.StandingAt
pub use Rattle.elab_paths.proofs.LatesSame
