-- A tick is the least precision of the instances' modules.
use Rattle.std.specs.Prelude.{◌≡◌, fold, List, [], ◌∷◌, Bool, true, false, refl, ℤ, ◌≤ℤ◌, int_le, if◌then◌else◌}
use Rattle.std.specs.Int.Signed.{≤ℤ_refl}
use Rattle.std.proofs.Common.{sym, arith, inl, inr, subst}
use Rattle.std.proofs.lemmas.Int.{ints}
use Rattle.elab_model.specs.Delays.{lesser, precision_of}
use Rattle.elab_model.specs.Hierarchy.{Instance}
use Rattle.elab_laws.proofs.Lists.{In}

-- the least precision so far, and of these
abbrev pub least_of : ℤ → List Instance → ℤ
least_of p ss = fold (λ q s. lesser q (precision_of s)) p ss

le-then : (a b c : ℤ) → a ≤ℤ b → b ≤ℤ c → a ≤ℤ c
le-then a b c h k = grind (arith, ints)

yes : (a b : ℤ) → int_le a b ≡ true → a ≤ℤ b
yes a b h = grind (arith, ints)

no : (a b : ℤ) → int_le a b ≡ false → b ≤ℤ a
no a b h = grind (arith, ints)

lesser-left : (a b : ℤ) → lesser a b ≤ℤ a
lesser-left a b = by (int_le a b) refl
  where
    by : (t : Bool) → int_le a b ≡ t → (if t then a else b) ≤ℤ a
    by true h = ≤ℤ_refl a
    by false h = no a b h

lesser-right : (a b : ℤ) → lesser a b ≤ℤ b
lesser-right a b = by (int_le a b) refl
  where
    by : (t : Bool) → int_le a b ≡ t → (if t then a else b) ≤ℤ b
    by true h = yes a b h
    by false h = ≤ℤ_refl b

least-first : (p : ℤ) (ss : List Instance) → least_of p ss ≤ℤ p
least-first p [] = ≤ℤ_refl p
least-first p (s ∷ ss) = le-then (least_of (lesser p (precision_of s)) ss) (lesser p (precision_of s)) p (least-first (lesser p (precision_of s)) ss) (lesser-left p (precision_of s))

-- none is finer
pub least-of_all : (p : ℤ) (s : Instance) (ss : List Instance) → In s ss → least_of p ss ≤ℤ precision_of s
least-of_all p s [] h = absurd h
least-of_all p s (t ∷ ts) (inl e) =
    subst (λ x. least_of (lesser p (precision_of t)) ts ≤ℤ precision_of x) (sym e)
    (le-then (least_of (lesser p (precision_of t)) ts) (lesser p (precision_of t)) (precision_of t) (least-first (lesser p (precision_of t)) ts) (lesser-right p (precision_of t)))
least-of_all p s (t ∷ ts) (inr h) = least-of_all (lesser p (precision_of t)) s ts h
