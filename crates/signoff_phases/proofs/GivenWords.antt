-- The words that are left of the system's.
use Rattle.std.proofs.Common.{◌≡◌, ◌∙◌, sym, ap, refl, List, [], ◌∷◌, ◌++◌, length, drop, append_assoc, arith}
use Rattle.std.proofs.lemmas.List.{append-nil}
use Rattle.std.specs.Prelude.{Option, Some, None}
use Rattle.std.specs.Option.{option_to_list}
use Rattle.std.specs.Vec.Iter.{into_iter_items, into_iter_len, into_iter_steps}
use Rattle.std.specs.declared.vec.IntoIter.{IntoIter}

empty_list : {X : Type 0} (xs : List X) → length xs ≡ 0 → xs ≡ []
empty_list [] e = refl
empty_list (x ∷ xs) e = absurd (omega arith)

-- where none is left
no_items : {X Z : Type 0} (s : IntoIter X Z) → into_iter_len s ≡ 0 → into_iter_items s ≡ []
no_items s e = empty_list (into_iter_items s) (sym s.rest.ok.0 ∙ e)

pub after_first : {X Z : Type 0} (s t : IntoIter X Z) (r : Option X) → into_iter_steps s r t → into_iter_items s ≡ option_to_list r ++ into_iter_items t → into_iter_items t ≡ drop 1 (into_iter_items s)
after_first s t (Some x) h e = sym (ap (drop 1) h.0)
after_first s t None h e = let none : into_iter_items s ≡ [] = no_items s h.0 in sym e ∙ (none ∙ sym (ap (drop 1) none))

pub one_more : {X Z : Type 0} (s t : IntoIter X Z) (words more all : List X) (x : X) → into_iter_steps s (Some x) t → more ≡ words ++ x ∷ [] → words ++ into_iter_items s ≡ all → more ++ into_iter_items t ≡ all
one_more s t words more all x h m e =
    ap (λ l. l ++ into_iter_items t) m ∙ (append_assoc words (x ∷ []) (into_iter_items t) ∙ (ap (λ l. words ++ l) (sym h.0) ∙ e))

pub all_taken : {X Z : Type 0} (s : IntoIter X Z) (words all : List X) → into_iter_len s ≡ 0 → words ++ into_iter_items s ≡ all → words ≡ all
all_taken s words all n e = sym (append-nil words) ∙ (sym (ap (λ l. words ++ l) (no_items s n)) ∙ e)
