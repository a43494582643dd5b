-- What the checks of specify blocks answer.
use Rattle.std.specs.Prelude.{◌≡◌, List, [], Result, MatchResult}
use Rattle.sg_text.specs.declared.refusals.Refused.{Refused}
use Rattle.elab_model.specs.declared.kinds.ElabKind.{ElabKind}
use Rattle.elab_model.specs.Faults.{Fault, RefusesOneOf}

-- there is no fault, or one is told
abbrev pub Tells : {A : Type 0} → List Fault → Result A (Refused ElabKind) → Type 0
Tells fs result = MatchResult result (λ _. fs ≡ []) (RefusesOneOf fs)
