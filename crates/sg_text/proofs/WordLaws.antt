-- A text is one of the words of some rows where one of the rows says what it is for; a text without a word's ends is none.
use Rattle.std.proofs.Common.{◌≡◌, ℕ, List, [], ◌∷◌, map, Bool, true, false, ◌||◌, is_some, nat_eq, Option, Some, None, if◌then◌else◌, refl, sym, ◌∙◌, ap, inl, inr}
use Rattle.std.proofs.lemmas.Bool.{cases_Bool, and_parts, eqb-true, both_ways}
use Rattle.std.specs.List.{list_all}
use lib.Pointwise.{pointwise}
use Rattle.sg_text.specs.declared.words.Reserved.{Reserved}
use Rattle.sg_text.specs.Words.{Row, use_in, use_of, is_among, reserved_rows}
use Rattle.sg_text.specs.WordsSeen.{has_ends}

first_use : (b c : Bool) (purpose : Reserved) (later : Option Reserved) → is_some later ≡ c → is_some (if b then Some purpose else later) ≡ (b || c)
first_use true c purpose later same = refl
first_use false c purpose later same = same

pub some_use : (text : List ℕ) (rows : List Row) → is_some (use_in text rows) ≡ is_among text (map (λ r. r.text) rows)
some_use text [] = refl
some_use text (r ∷ rs) = first_use (pointwise nat_eq r.text text) _ r.purpose (use_in text rs) (some_use text rs)

same_text : (xs ys : List ℕ) → pointwise nat_eq xs ys ≡ true → xs ≡ ys
same_text [] [] h = refl
same_text [] (y ∷ ys) h = absurd (cc)
same_text (x ∷ xs) [] h = absurd (cc)
same_text (x ∷ xs) (y ∷ ys) h =
    let q = and_parts (nat_eq x y) (pointwise nat_eq xs ys) h in
    let a : x ≡ y = eqb-true x y q.0 in
    let r : xs ≡ ys = same_text xs ys q.1 in
    rw (a, r) refl

no_row_without : (text : List ℕ) (rows : List Row) → list_all (λ r. has_ends r.text) rows ≡ true → has_ends text ≡ false → use_in text rows ≡ None
no_row_without text [] a h = refl
no_row_without text (r ∷ rs) a h =
    let parts = and_parts (has_ends r.text) (list_all (λ v. has_ends v.text) rs) a in
    elim (cases_Bool (pointwise nat_eq r.text text)) [
      | inl e ↦ absurd (both_ways (has_ends text) h (sym (ap has_ends (same_text r.text text e)) ∙ parts.0))
      | inr e ↦ rw e (no_row_without text rs parts.1 h)
    ]

pub no_word_without : (text : List ℕ) → has_ends text ≡ false → use_of text ≡ None
unfolding reserved_rows
no_word_without text h = no_row_without text reserved_rows refl h
