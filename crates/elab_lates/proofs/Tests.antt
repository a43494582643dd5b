-- What a test finds among the first of each key it finds among all; the code's tests of places are the definition's of bits.
use Rattle.std.specs.Prelude.{◌≡◌, ℕ, ◌<◌, List, [], ◌∷◌, Bool, true, false, ◌&&◌, ◌||◌, is_some, Option, Some, None, nat_eq, find, length, map, refl, cond}
use Rattle.std.specs.List.{AllByRecursion, list_any}
use Rattle.std.specs.Option.{option_eq, option_map}
use Rattle.std.proofs.Common.{sym, ◌∙◌, ap}
use Rattle.sg_text.specs.declared.places.Place.{Place}
use Rattle.vl_tree.specs.Tree.{Module}
use Rattle.elab_ends.specs.Seen.{bit_seen, bits_seen}
use Rattle.elab_ends.proofs.RowBits.{places-apart}
use Rattle.elab_lates.specs.declared.copies.DelayedCopy as code
use Rattle.elab_lates.specs.declared.copies.PlacedCopy.{PlacedCopy}
use Rattle.elab_lates.specs.Seen.{copy_seen, placed_seen, IsPlaceIn, IsCopyInRow}
use Rattle.elab_laws.specs.Handing.{all_bits}
use Rattle.elab_laws.proofs.Copies.{copy_of, copies-told, first_copies-are}
use Rattle.elab_laws.proofs.Ends.{is_one_of, find-first_bits}
use Rattle.elab_laws.proofs.Firsts.{and-both, find-firsts}
use Rattle.elab_model.specs.Ends.{first_bits}
use Rattle.elab_model.specs.Lates.{DelayedCopy, is_same_copy, is_same_name, first_copies}
use Rattle.elab_model.specs.Names.{variables}
use Rattle.elab_model.specs.Terms.{NetBit, is_same_bit}

-- ---- among the first of each

any-found : {A K : Type 0} (key : A → K) (p : K → Bool) (xs : List A) → list_any p (map key xs) ≡ is_some (find (λ x. p (key x)) xs)
any-found key p [] = refl
any-found {A} {K} key p (x ∷ xs) = by (p (key x)) (any-found key p xs)
  where
    by : (b : Bool) → list_any p (map key xs) ≡ is_some (find (λ y. p (key y)) xs) → (b || list_any p (map key xs)) ≡ is_some (cond b (Some x) (find (λ y. p (key y)) xs))
    by true h = refl
    by false h = h

any-same : {A : Type 0} (p : A → Bool) (xs : List A) → list_any p xs ≡ is_some (find p xs)
any-same p [] = refl
any-same {A} p (x ∷ xs) = by (p x) (any-same p xs)
  where
    by : (b : Bool) → list_any p xs ≡ is_some (find p xs) → (b || list_any p xs) ≡ is_some (cond b (Some x) (find p xs))
    by true h = refl
    by false h = h

pub any-first : (k : DelayedCopy) (cs : List (Place × DelayedCopy)) → list_any (is_same_copy k) (map copy_of (first_copies [] cs)) ≡ list_any (is_same_copy k) (map copy_of cs)
any-first k cs =
    any-found copy_of (is_same_copy k) (first_copies [] cs)
    ∙ ap is_some (ap (find (λ c. is_same_copy k (copy_of c))) (first_copies-are [] cs) ∙ find-firsts is_same_copy copies-told copy_of (is_same_copy k) [] cs refl)
    ∙ sym (any-found copy_of (is_same_copy k) cs)

pub any-first_bit : (b : NetBit) (bs : List NetBit) → is_one_of b (first_bits [] bs) ≡ is_one_of b bs
any-first_bit b bs = any-same (is_same_bit b) (first_bits [] bs) ∙ ap is_some (find-first_bits (is_same_bit b) [] bs refl) ∙ sym (any-same (is_same_bit b) bs)

-- a copy that was asked for before has a signal that was
abbrev pub signal_of : Place × DelayedCopy → NetBit
signal_of c = c.1.signal

pub signal-told : (k : DelayedCopy) (cs : List (Place × DelayedCopy)) → list_any (is_same_copy k) (map copy_of cs) ≡ true → is_one_of k.signal (map signal_of cs) ≡ true
signal-told k [] h = cc
signal-told k (c ∷ cs) h = by (is_same_copy k c.1) refl h (signal-told k cs)
  where
    or-right : (x y : Bool) → y ≡ true → (x || y) ≡ true
    or-right true y e = refl
    or-right false y e = e

    by : (b : Bool) → is_same_copy k c.1 ≡ b → (b || list_any (is_same_copy k) (map copy_of cs)) ≡ true → (list_any (is_same_copy k) (map copy_of cs) ≡ true → is_one_of k.signal (map signal_of cs) ≡ true)
        → (is_same_bit k.signal c.1.signal || is_one_of k.signal (map signal_of cs)) ≡ true
    by true e h later = ap (λ x. x || is_one_of k.signal (map signal_of cs)) (and-both (is_same_bit k.signal c.1.signal) (is_same_name k.named c.1.named) e).0
    by false e h later = or-right (is_same_bit k.signal c.1.signal) (is_one_of k.signal (map signal_of cs)) (later h)

-- ---- places and bits

abbrev pub same : code.DelayedCopy → code.DelayedCopy → Bool
same c d = nat_eq c.signal d.signal && option_eq nat_eq c.named d.named

module _ (m : Module) where
  names-same : (a b : Option ℕ) → IsPlaceIn (variables m) a → IsPlaceIn (variables m) b → option_eq nat_eq a b ≡ is_same_name (option_map (bit_seen (variables m)) a) (option_map (bit_seen (variables m)) b)
  names-same None None h g = refl
  names-same None (Some j) h g = refl
  names-same (Some i) None h g = refl
  names-same (Some i) (Some j) h g = sym (places-apart m i j h g)

  pub copies-same : (c d : code.DelayedCopy) → IsCopyInRow (variables m) c → IsCopyInRow (variables m) d → same c d ≡ is_same_copy (copy_seen (variables m) c) (copy_seen (variables m) d)
  copies-same c d h g =
      ap (λ b. b && option_eq nat_eq c.named d.named) (sym (places-apart m c.signal d.signal h.0 g.0))
      ∙ ap (λ b. is_same_bit (bit_seen (variables m) c.signal) (bit_seen (variables m) d.signal) && b) (names-same c.named d.named h.1 g.1)

  pub any-seen : (c : code.DelayedCopy) → IsCopyInRow (variables m) c → (cs : List PlacedCopy) → AllByRecursion (λ d. IsCopyInRow (variables m) d.copy) cs
      → list_any (same c) (map (λ d. d.copy) cs) ≡ list_any (is_same_copy (copy_seen (variables m) c)) (map copy_of (map (placed_seen (variables m)) cs))
  any-seen c h [] g = refl
  any-seen c h (d ∷ cs) g =
      ap (λ b. b || list_any (same c) (map (λ d. d.copy) cs)) (copies-same c d.copy h g.0)
      ∙ ap (λ b. is_same_copy (copy_seen (variables m) c) (copy_seen (variables m) d.copy) || b) (any-seen c h cs g.1)

  pub any-bit : (i : ℕ) → i < length (all_bits (variables m)) → (js : List ℕ) → AllByRecursion (λ j. j < length (all_bits (variables m))) js
      → list_any (nat_eq i) js ≡ is_one_of (bit_seen (variables m) i) (bits_seen (variables m) js)
  any-bit i h [] g = refl
  any-bit i h (j ∷ js) g =
      ap (λ b. b || list_any (nat_eq i) js) (sym (places-apart m i j h g.0)) ∙ ap (λ b. is_same_bit (bit_seen (variables m) i) (bit_seen (variables m) j) || b) (any-bit i h js g.1)
