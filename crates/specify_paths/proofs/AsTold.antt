-- What a check of another crate tells.
use Rattle.std.specs.Prelude.{◌≡◌, List, [], Result, Ok, Err, OnOk, IfErr}
use Rattle.std.proofs.Common.{sym, ◌∙◌, subst}
use Rattle.sg_text.specs.declared.refusals.Refused.{Refused}
use Rattle.elab_model.specs.declared.kinds.ElabKind.{ElabKind}
use Rattle.elab_model.specs.Faults.{Fault, RefusesOneOf}
use Rattle.specify_values.specs.Telling.{Tells}

pub as-told : {A : Type 0} (r : Result A (Refused ElabKind)) (fs gs : List Fault) → fs ≡ gs → OnOk r (fs ≡ []) → IfErr r (RefusesOneOf fs) → Tells gs r
as-told (Ok x) fs gs e h g = sym e ∙ h
as-told (Err x) fs gs e h g = subst (λ xs. RefusesOneOf xs x) e g
