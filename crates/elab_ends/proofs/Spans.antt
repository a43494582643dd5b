-- Of a list in which the members of a row have their parts one after another, the part of one member, by where the parts begin.
use Rattle.std.specs.Prelude.{◌≡◌, ℕ, ◌+◌, ◌-◌, ◌<◌, ◌≤◌, List, ◌++◌, Some, flat_map, length, map, slice_get, slice_index_or, take, drop, refl}
use Rattle.std.specs.List.{enumerate_from}
use Rattle.std.proofs.Common.{sym, ◌∙◌, ap, arith, subst, append_assoc, length-append, take-append-drop}
use Rattle.std.proofs.lemmas.Grind.{flat_map-append}
use Rattle.std.proofs.lemmas.List.{drop-append-le, drop-map, drop_all, length-map, take-append-le, take-map, take_all}
use Rattle.std.proofs.lemmas.List.FromFn.{get_or-enumerate_from, length-enumerate_from}
use Rattle.std.proofs.lemmas.Option.{get_or_from_slice_get, slice_get_read, slice_get_within}
use Rattle.elab_ends.proofs.InTurn.{flat-more}

-- a number that the code has read
pub read-at : (xs ys : List ℕ) (k x : ℕ) → ys ≡ xs → k < length ys → x ≡ slice_index_or ys k x → slice_get xs k ≡ Some x
read-at xs ys k x e lt is = ap (λ zs. slice_get zs k) (sym e) ∙ slice_get_read ys (length ys) k x refl lt is

cut-out : {A : Type 0} (xs ys zs whole : List A) (first end : ℕ) → whole ≡ (xs ++ ys) ++ zs → first ≡ length xs → end ≡ length (xs ++ ys) → take (end - first) (drop first whole) ≡ ys
cut-out xs ys zs whole first end w f e =
    let l = length-append xs ys in
    let n : end - first ≡ length ys = omega arith in
    ap (λ ws. take (end - first) (drop first ws)) (w ∙ append_assoc xs ys zs) ∙ ap (take (end - first))
    (drop-append-le first xs (ys ++ zs) (omega arith) ∙ ap (λ ws. ws ++ (ys ++ zs)) (drop_all first xs (omega arith)))
    ∙ take-append-le (end - first) ys zs (omega arith) ∙ take_all (end - first) ys (omega arith)

module _ {M A B : Type 0} (f : ℕ × M → List B) (xs : List M) (seen : A → B) (items : List A) (starts : List ℕ) (are : map seen items ≡ flat_map f (enumerate_from 0 xs))
    (begin : (n : ℕ) → n ≤ length xs → slice_get starts n ≡ Some (length (flat_map f (take n (enumerate_from 0 xs))))) (k : ℕ) (x : M) (there : slice_get xs k ≡ Some x) where
  abbrev parts : ℕ → List B
  parts n = flat_map f (take n (enumerate_from 0 xs))

  abbrev behind : List B
  behind = flat_map f (drop (k + 1) (enumerate_from 0 xs))

  below : k < length xs
  below = slice_get_within xs k x there

  next : parts (k + 1) ≡ parts k ++ f (k, x)
  next =
      flat-more f (enumerate_from 0 xs) k (0, x) (subst (λ n. k < n) (sym (length-enumerate_from 0 xs)) below)
      ∙ ap (λ y. parts k ++ f y) (get_or-enumerate_from 0 xs k (0, x) below ∙ ap (λ y. (0 + k, y)) (get_or_from_slice_get xs k x x there) ∙ ap (λ j. (j, x)) (omega arith))

  whole : flat_map f (enumerate_from 0 xs) ≡ (parts k ++ f (k, x)) ++ behind
  whole =
      ap (flat_map f) (sym (take-append-drop (k + 1) (enumerate_from 0 xs))) ∙ flat_map-append f (take (k + 1) (enumerate_from 0 xs)) (drop (k + 1) (enumerate_from 0 xs))
      ∙ ap (λ ys. ys ++ behind) next

  first-is : (first : ℕ) → slice_get starts k ≡ Some first → first ≡ length (parts k)
  first-is first h = let g : Some first ≡ Some (length (parts k)) = sym h ∙ begin k (omega (arith, below)) in cc

  end-is : (end : ℕ) → slice_get starts (k + 1) ≡ Some end → end ≡ length (parts k ++ f (k, x))
  end-is end h = let g : Some end ≡ Some (length (parts (k + 1))) = sym h ∙ begin (k + 1) (omega (arith, below)) in let e : end ≡ length (parts (k + 1)) = cc in e ∙ ap length next

  -- it lies within the list
  pub is-within : (first end : ℕ) → slice_get starts k ≡ Some first → slice_get starts (k + 1) ≡ Some end → (first ≤ end) × (end ≤ length items)
  is-within first end h g =
      let a = first-is first h in
      let b = end-is end g in
      let l = length-append (parts k) (f (k, x)) in
      let n : length items ≡ length ((parts k ++ f (k, x)) ++ behind) = sym (length-map items seen) ∙ ap length (are ∙ whole) in
      let o = length-append (parts k ++ f (k, x)) behind in
      (omega arith, omega arith)

  -- and is the member's
  pub is-part : (first end : ℕ) (part : List A) → slice_get starts k ≡ Some first → slice_get starts (k + 1) ≡ Some end → part ≡ take (end - first) (drop first items) → map seen part ≡ f (k, x)
  is-part first end part h g p =
      ap (map seen) p ∙ sym (take-map seen (end - first) (drop first items)) ∙ ap (take (end - first)) (sym (drop-map seen first items)) ∙ ap (λ ys. take (end - first) (drop first ys)) are
      ∙ cut-out (parts k) (f (k, x)) behind (flat_map f (enumerate_from 0 xs)) first end whole (first-is first h) (end-is end g)
