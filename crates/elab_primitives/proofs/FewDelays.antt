-- Which delays are refused where fewer than three are the most.
use Rattle.std.specs.Prelude.{◌≡◌, ℕ, ◌≤◌, List, Bool, true, false, ◌||◌, Option, Some, None, IfNone, nat_lt, map, length}
use Rattle.std.specs.List.{list_any}
use Rattle.std.specs.Option.{OnSome}
use Rattle.std.proofs.Common.{sym, ◌∙◌, ap, arith}
use Rattle.std.proofs.lemmas.Bool.{or_parts}
use Rattle.std.proofs.lemmas.Bool.Decides.{nat_tests}
use Rattle.std.proofs.lemmas.List.{length-map}
use Rattle.vl_tree.specs.Seen.{view_mtm}
use Rattle.vl_tree.specs.Tree.{MinTypMax}
use Rattle.vl_tree.specs.declared.expressions.MinTypMax as code
use Rattle.elab_primitives.specs.Delays.{are_refused, is_too_long}

-- the values as ticks
abbrev in_ticks : (MinTypMax → ℕ) → List code.MinTypMax → List ℕ
in_ticks t vs = map t (map view_mtm vs)

counted : (most : ℕ) (t : MinTypMax → ℕ) (vs : List code.MinTypMax) (b : Bool) → nat_lt most (length vs) ≡ b → are_refused most (in_ticks t vs) ≡ (b || list_any is_too_long (in_ticks t vs))
counted most t vs b h =
    let long = list_any is_too_long (in_ticks t vs) in
    ap (λ n. nat_lt most n || long) (length-map (map view_mtm vs) t ∙ length-map vs view_mtm) ∙ ap (λ x. x || long) h

pub many-refused : (most : ℕ) (t : MinTypMax → ℕ) (vs : List code.MinTypMax) → nat_lt most (length vs) ≡ true → are_refused most (in_ticks t vs) ≡ true
many-refused most t vs h = counted most t vs true h

pub few-taken : {A : Type 0} (most : ℕ) (t : MinTypMax → ℕ) (vs : List code.MinTypMax) (result : Option A) → nat_lt most (length vs) ≡ false
    → OnSome result (are_refused 3 (in_ticks t vs) ≡ false) → OnSome result (are_refused most (in_ticks t vs) ≡ false)
few-taken most t vs None few h = tt
few-taken most t vs (Some x) few h =
    let two = or_parts (nat_lt 3 (length (in_ticks t vs))) (list_any is_too_long (in_ticks t vs)) h in
    counted most t vs false few ∙ two.1

pub few-refused : {A : Type 0} (most : ℕ) (t : MinTypMax → ℕ) (vs : List code.MinTypMax) (result : Option A) → most ≤ 3 → nat_lt most (length vs) ≡ false
    → IfNone result (are_refused 3 (in_ticks t vs) ≡ true) → IfNone result (are_refused most (in_ticks t vs) ≡ true)
few-refused most t vs (Some x) le few h = tt
few-refused most t vs None le few h = counted most t vs false few ∙ (sym (counted 3 t vs false (fewer most (length vs) le few)) ∙ h)
  where
    fewer : (most n : ℕ) → most ≤ 3 → nat_lt most n ≡ false → nat_lt 3 n ≡ false
    fewer most n le few = grind (arith, nat_tests)
