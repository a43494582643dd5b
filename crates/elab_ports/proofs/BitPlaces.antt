-- The place in the row of a variable's bit.
use Rattle.std.specs.Prelude.{◌≡◌, ℕ, ◌+◌, ◌<◌, List, Some, length, take}
use Rattle.std.proofs.Common.{sym, ◌∙◌, ap, subst, zero-add}
use Rattle.std.proofs.lemmas.List.{get_or_at}
use Rattle.sg_circuit.specs.Closed.{width_of}
use Rattle.elab_model.specs.Names.{Variable}
use Rattle.elab_laws.specs.Handing.{all_bits}
use Rattle.elab_variables.specs.Seen.{place_named, variable_at}
use Rattle.elab_bits.specs.Seen.{bit_at}
use Rattle.elab_bits.proofs.InRow.{blank, place-is}
use Rattle.elab_ports.proofs.Rows.{SplitsFrom, place-below}

found-at : (vs : List Variable) (n : List ℕ) (k : ℕ) (s : SplitsFrom 0 vs n k) → variable_at vs k ≡ s.found
found-at vs n k s = ap (λ us. variable_at us k) s.whole ∙ get_or_at s.before s.found s.after blank k (sym (zero-add (length s.before)) ∙ s.count)

pub bit-place : (vs : List Variable) (n : List ℕ) (k p : ℕ) (s : SplitsFrom 0 vs n k) → place_named vs n ≡ Some k → p < width_of s.found.range → bit_at vs (length (all_bits (take k vs)) + p) ≡ (s.found, p)
bit-place vs n k p s e lt =
    let f : variable_at vs k ≡ s.found = found-at vs n k s in
    place-is vs k p (blank, 0) (place-below vs n k e) (subst (λ v. p < width_of v.range) (sym f) lt) ∙ ap (λ v. (v, p)) f
