-- A member of an instance whose module is ready.
use Rattle.std.specs.Prelude.{◌≡◌, ℕ, Some, slice_get}
use Rattle.elab_model.specs.Hierarchy.{Instance}
use Rattle.elab_model.specs.Members.{Member, members}
use Rattle.elab_modules.specs.declared.prepared.Prepared.{Prepared}
use Rattle.elab_modules.specs.Ready.{IsPrepared}

-- an instance of a module that is ready has this as the member of a number
pub record HasMember (s : Instance) (prepared : Prepared) (scope member : ℕ) (x : Member) : Type 0 where
  pub ready : IsPrepared prepared s.step.definition
  pub number : s.step.number ≡ scope
  pub there : slice_get (members s.step.definition) member ≡ Some x
