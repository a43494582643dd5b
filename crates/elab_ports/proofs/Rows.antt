-- The bits of a variable stand together in the row, behind those of the variables before it.
use Rattle.std.specs.Prelude.{◌≡◌, ℕ, suc, ◌+◌, ◌<◌, ◌≤◌, List, [], ◌∷◌, ◌++◌, Bool, true, false, Some, None, length, take, refl, slice_index_or, bytes_eq, nat_le, if◌then◌else◌}
use Rattle.std.specs.List.{position_from}
use Rattle.std.proofs.Common.{sym, ◌∙◌, ap, arith, length-append, zero-add}
use Rattle.std.proofs.Math.Seq.{take-append_seam}
use Rattle.std.proofs.lemmas.Bool.Decides.{nat_tests}
use Rattle.std.proofs.lemmas.List.Folds.{length-flat_map-take}
use Rattle.std.proofs.lemmas.Slice.Eq.{bytes_eq-Decides}
use Rattle.elab_model.specs.Names.{Variable}
use Rattle.elab_laws.specs.Handing.{variable_bits, all_bits}
use Rattle.elab_variables.specs.Seen.{place_named}
use Rattle.elab_ports.specs.Binding.{room_from, room_at}

-- where a name is found, in a list whose first has place i
pub record SplitsFrom (i : ℕ) (vs : List Variable) (n : List ℕ) (k : ℕ) : Type 0 where
  pub before : List Variable
  pub found : Variable
  pub after : List Variable
  pub whole : vs ≡ before ++ found ∷ after
  pub count : i + length before ≡ k
  pub named : n ≡ found.name

pub split-from : (n : List ℕ) (i : ℕ) (vs : List Variable) (k : ℕ) → position_from (λ v. bytes_eq n v.name) i vs ≡ Some k → SplitsFrom i vs n k
split-from n i [] k e = cc
split-from n i (v ∷ vs) k e = by (bytes_eq n v.name) refl (split-from n (i + 1) vs k)
  where
    by : (b : Bool) → bytes_eq n v.name ≡ b → (position_from (λ v. bytes_eq n v.name) (i + 1) vs ≡ Some k → SplitsFrom (i + 1) vs n k) → SplitsFrom i (v ∷ vs) n k
    by true t f =
        let g : Some i ≡ Some k = rw t at e in
        let h : i ≡ k = cc in
        record { before = []; found = v; after = vs; whole = refl; count = omega arith; named = (bytes_eq-Decides n v.name).0 t }
    by false t f =
        let g : position_from (λ v. bytes_eq n v.name) (i + 1) vs ≡ Some k = rw t at e in
        let r = f g in
        let c : (i + 1) + length r.before ≡ k = r.count in
        record { before = v ∷ r.before; found = r.found; after = r.after; whole = ap (λ xs. v ∷ xs) r.whole; count = omega arith; named = r.named }

pub split-at : (vs : List Variable) (n : List ℕ) (k : ℕ) → place_named vs n ≡ Some k → SplitsFrom 0 vs n k
split-at vs n k e = split-from n 0 vs k e

pub front-is : (vs : List Variable) (n : List ℕ) (k : ℕ) → (s : SplitsFrom 0 vs n k) → take k vs ≡ s.before
front-is vs n k s =
    let c : length s.before ≡ k = sym (zero-add (length s.before)) ∙ s.count in
    ap (λ j. take j vs) (sym c) ∙ ap (take (length s.before)) s.whole ∙ take-append_seam s.before (s.found ∷ s.after)

pub place-below : (vs : List Variable) (n : List ℕ) (k : ℕ) → place_named vs n ≡ Some k → k < length vs
place-below vs n k e =
    let s = split-at vs n k e in
    let c : length s.before ≡ k = sym (zero-add (length s.before)) ∙ s.count in
    let l : length vs ≡ length s.before + suc (length s.after) = ap length s.whole ∙ length-append s.before (s.found ∷ s.after) in
    omega arith

pub start-within : (vs : List Variable) (n : List ℕ) (k start bits : ℕ) → place_named vs n ≡ Some k → start ≡ length (all_bits (take k vs)) → bits ≡ length (all_bits vs) → start ≤ bits
start-within vs n k start bits e s b =
    let v = (split-at vs n k e).found in
    let h : length (all_bits (take k vs)) + length (variable_bits (slice_index_or vs k v)) ≤ length (all_bits vs) = length-flat_map-take variable_bits vs k v (place-below vs n k e) in
    omega arith

pub room-found : (vs : List Variable) (n : List ℕ) (k width start : ℕ) → place_named vs n ≡ Some k → start ≡ length (all_bits (take k vs)) → start + width ≤ length (all_bits vs)
    → Some start ≡ room_at vs n width
room-found vs n k width start e s h =
    let t : nat_le (length (all_bits (take k vs)) + width) (length (all_bits vs)) ≡ true = grind (arith, nat_tests) in
    sym (ap (room_from vs width) e ∙ ap (λ b. if b then Some (length (all_bits (take k vs))) else None) t ∙ ap (λ j. Some j) (sym s))
