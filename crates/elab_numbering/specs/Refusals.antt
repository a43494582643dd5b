-- What a refusal for too many nets says.
use Rattle.std.specs.Prelude.{◌≡◌, ℕ, ◌<◌}
use Rattle.sg_text.specs.declared.refusals.Refused.{Refused}
use Rattle.sg_text.specs.declared.refusals.Refused.TheVariants as refused
use Rattle.elab_model.specs.declared.kinds.ElabKind.{ElabKind}
use Rattle.elab_model.specs.declared.kinds.ElabKind.TheVariants.{TooMany}
use Rattle.elab_model.specs.HierarchyFaults.{count_limit, start}

-- there would be so many nets, which are too many, or there was no memory
abbrev pub RefusesCount : ℕ → Refused ElabKind → Type 0
RefusesCount count (refused.Fault kind place) = (kind ≡ TooMany) × (place ≡ start) × (count_limit < count)
RefusesCount count refused.NoMemory = Unit {0}
