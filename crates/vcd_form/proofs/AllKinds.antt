-- The kinds of word in one list, whatever their text, so that what is checked of each holds of all.
use Rattle.std.proofs.Common.{◌≡◌, ℕ, zero, suc, Bool, true, false, List, [], ◌∷◌, Some, refl}
use Rattle.std.specs.Prelude.{◌&&◌, not, slice_get}
use Rattle.std.proofs.lemmas.Bool.{and_parts}
use Rattle.grammar.specs.Exact.{Apart, IsWithin}
use Rattle.grammar.proofs.Finite.{every}
use Rattle.vcd_form.specs.Kinds.{Kind, remark_kind, comment_kind, timescale_kind, scope_kind, upscope_kind, var_kind, definitions_kind, dump_kind, end_kind, time_kind, scalar_kind, vector_kind, real_kind, other_kind}

abbrev all_kinds : List ℕ → List Kind
all_kinds text =
    remark_kind ∷ comment_kind ∷ timescale_kind ∷ scope_kind ∷ upscope_kind ∷ var_kind ∷ definitions_kind ∷ dump_kind ∷ end_kind ∷
    time_kind text ∷ scalar_kind text ∷ vector_kind text ∷ real_kind text ∷ other_kind text ∷ []

abbrev spot : Kind → ℕ
spot remark_kind = 0
spot comment_kind = 1
spot timescale_kind = 2
spot scope_kind = 3
spot upscope_kind = 4
spot var_kind = 5
spot definitions_kind = 6
spot dump_kind = 7
spot end_kind = 8
spot (time_kind text) = 9
spot (scalar_kind text) = 10
spot (vector_kind text) = 11
spot (real_kind text) = 12
spot (other_kind text) = 13

abbrev text_of : Kind → List ℕ
text_of (time_kind text) = text
text_of (scalar_kind text) = text
text_of (vector_kind text) = text
text_of (real_kind text) = text
text_of (other_kind text) = text
text_of _ = []

is_listed : (k : Kind) → slice_get (all_kinds (text_of k)) (spot k) ≡ Some k
is_listed remark_kind = refl
is_listed comment_kind = refl
is_listed timescale_kind = refl
is_listed scope_kind = refl
is_listed upscope_kind = refl
is_listed var_kind = refl
is_listed definitions_kind = refl
is_listed dump_kind = refl
is_listed end_kind = refl
is_listed (time_kind text) = refl
is_listed (scalar_kind text) = refl
is_listed (vector_kind text) = refl
is_listed (real_kind text) = refl
is_listed (other_kind text) = refl

holds_at : (p : Kind → Bool) (ks : List Kind) (n : ℕ) (k : Kind) → slice_get ks n ≡ Some k → every p ks ≡ true → p k ≡ true
holds_at p [] n k e h = absurd cc
holds_at p (j ∷ ks) zero k e h = let same : j ≡ k = cc in rw (← same) (and_parts (p j) (every p ks) h).0
holds_at p (j ∷ ks) (suc n) k e h = holds_at p ks n k e (and_parts (p j) (every p ks) h).1

not_both : (b c : Bool) → not (b && c) ≡ true → b ≡ true → c ≡ true → ⊥
not_both true true h p q = cc
not_both true false h p q = cc
not_both false c h p q = cc

implied : (b c : Bool) → (not (b && not c)) ≡ true → b ≡ true → c ≡ true
implied true true h p = refl
implied true false h p = absurd cc
implied false c h p = absurd cc

-- a test that each kind passes, whatever its text
abbrev pub OfAll : (Kind → Bool) → Type 0
OfAll p = (text : List ℕ) → every p (all_kinds text) ≡ true

holds_of : (p : Kind → Bool) → OfAll p → (k : Kind) → p k ≡ true
holds_of p h k = holds_at p (all_kinds (text_of k)) (spot k) k (is_listed k) (h (text_of k))

-- no kind is of both: one of the two tests, and then the other where that says yes
pub apart : (c d : Kind → Bool) → OfAll (λ k. not (c k && d k)) → Apart c d
apart c d h k p q = not_both (c k) (d k) (holds_of (λ j. not (c j && d j)) h k) p q

pub apart_next : (c d : Kind → Bool) → OfAll (λ k. not (d k && c k)) → Apart c d
apart_next c d h k p q = not_both (d k) (c k) (holds_of (λ j. not (d j && c j)) h k) q p

-- each kind of the one is of the other
pub is_within : (c d : Kind → Bool) → OfAll (λ k. not (c k && not (d k))) → IsWithin c d
is_within c d h k p = implied (c k) (d k) (holds_of (λ j. not (c j && not (d j))) h k) p
