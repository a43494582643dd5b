-- What is refused for its number.
use Rattle.std.specs.Prelude.{◌≡◌, ℕ, ◌<◌, ◌≤◌, nat_lt, Bool, true, false, [], ◌∷◌, if◌then◌else◌}
use Rattle.std.specs.List.{IsAmong}
use Rattle.std.proofs.Common.{◌∙◌, ap, arith}
use Rattle.std.proofs.lemmas.Bool.Decides.{nat_tests}
use Rattle.sg_text.specs.declared.refusals.Refused.{Refused}
use Rattle.sg_text.specs.declared.refusals.Refused.TheVariants as refused
use Rattle.elab_model.specs.declared.kinds.ElabKind.{ElabKind}
use Rattle.elab_model.specs.declared.kinds.ElabKind.TheVariants.{TooMany}
use Rattle.elab_model.specs.Faults.{Fault, fault, RefusesOneOf}
use Rattle.elab_model.specs.HierarchyFaults.{count_limit, start}
use Rattle.circuit_model.specs.Faults.{over}
use Rattle.elab_numbering.specs.Refusals.{RefusesCount}

over-among : (n : ℕ) (f : Fault) → f ≡ fault TooMany start → count_limit < n → IsAmong (over n) f
over-among n f e lt = by (nat_lt count_limit n) (let t : nat_lt count_limit n ≡ true = grind (arith, nat_tests) in t)
  where
    by : (b : Bool) → b ≡ true → IsAmong (if b then fault TooMany start ∷ [] else []) f
    by true t = (0, (omega arith, e))
    by false t = cc

pub count-refused : (count n : ℕ) (r : Refused ElabKind) → RefusesCount count r → count ≤ n → RefusesOneOf (over n) r
count-refused count n (refused.Fault kind place) h le =
    let a = h.2 in
    over-among n (fault kind place) (ap (λ k. fault k place) h.0 ∙ ap (fault TooMany) h.1) (omega (arith, a, le))
count-refused count n refused.NoMemory h le = tt
