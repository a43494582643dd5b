-- How a set is taken apart.
use Rattle.std.proofs.Common.{inl, inr, ℕ, ◌≡◌, ◌≢◌, ◌-◌, ◌==◌, List, [], ◌∷◌, ◌++◌, length, map, take, drop, false, refl, sym, ap, ◌∙◌, reverse}
use Rattle.std.specs.Prelude.{Option, Some, None}
use Rattle.std.proofs.lemmas.Bool.{cases_Bool, eqb-true}
use Rattle.std.proofs.lemmas.List.{reverse-append, reverse-reverse, append_assoc, append-nil, map-append}
use Rattle.std.specs.Prelude.{is_some, option_map}
use Rattle.std.specs.List.{list_all}
use Rattle.std.specs.Borrow.{Bor}
use Rattle.stim_read.specs.Sets.{Set, cut, index_from_back, set_in}
use Rattle.stim_read.specs.Forms.{sets_in}
use Rattle.stim_read.specs.Seen.{set_seen}
use Rattle.stim_read.specs.declared.sets.SetText as code_set
use Rattle.stim_read.proofs.Slices.{from-place}

no-bracket-behind : (text back : List ℕ) → reverse text ≡ back → ((front : List ℕ) → text ≢ front ++ 93 ∷ []) → None ≡ index_from_back back
no-bracket-behind text [] e h = refl
no-bracket-behind text (b ∷ bs) e h = elim (cases_Bool (b == 93)) [
  | inl y ↦
      let behind : text ≡ reverse (b ∷ bs) = sym (reverse-reverse text) ∙ ap reverse e in
      let split : reverse (b ∷ bs) ≡ reverse bs ++ 93 ∷ [] = reverse-append (b ∷ []) bs ∙ ap (λ x. reverse bs ++ x ∷ []) (eqb-true b 93 y) in
      absurd (h (reverse bs) (behind ∙ split))
  | inr n ↦ rw n refl
]

pub no_bracket : (text : List ℕ) → ((front : List ℕ) → text ≢ front ++ 93 ∷ []) → None ≡ index_from_back (reverse text)
no_bracket text h = no-bracket-behind text (reverse text) refl h

-- the last `=` stands before a text that has none
pub cut-at : (front behind : List ℕ) → cut behind ≡ None → cut (front ++ 61 ∷ behind) ≡ Some (front, behind)
cut-at [] behind e = rw e refl
cut-at (b ∷ bs) behind e = rw (cut-at bs behind e) refl

pub cut-none : (b : ℕ) (behind : List ℕ) → (b == 61) ≡ false → cut behind ≡ None → cut (b ∷ behind) ≡ None
cut-none b behind n e = rw (e, n) refl

drop-front : {A : Type 0} (xs ys : List A) → drop (length xs) (xs ++ ys) ≡ ys
drop-front [] ys = refl
drop-front (x ∷ xs) ys = drop-front xs ys

pub nothing-behind : {A : Type 0} (word : List A) → drop (length word) word ≡ []
nothing-behind [] = refl
nothing-behind (x ∷ xs) = nothing-behind xs

pub all-before : {A : Type 0} (word : List A) → word ≡ word ++ drop (length word) word
all-before word = rw (nothing-behind word) (sym (append-nil word))

pub one-before : {A : Type 0} (word left front : List A) (last : A) → left ≡ front ++ last ∷ [] → word ≡ left ++ drop (length left) word → word ≡ front ++ last ∷ drop (length left) word
one-before word left front last e whole = whole ∙ ap (λ x. x ++ drop (length left) word) e ∙ append_assoc front (last ∷ []) (drop (length left) word)

pub one-behind : {A : Type 0} (word left front : List A) (last : A) → left ≡ front ++ last ∷ [] → word ≡ left ++ drop (length left) word → drop (length front) word ≡ last ∷ drop (length left) word
one-behind word left front last e whole = ap (drop (length front)) (one-before word left front last e whole) ∙ drop-front front (last ∷ drop (length left) word)

-- one byte less is looked at
pub still-whole : {A : Type 0} (word left front : List A) (last : A) → left ≡ front ++ last ∷ [] → word ≡ left ++ drop (length left) word → word ≡ front ++ drop (length front) word
still-whole word left front last e whole = one-before word left front last e whole ∙ ap (λ x. front ++ x) (sym (one-behind word left front last e whole))

pub none-yet : (word left front : List ℕ) (last : ℕ) → left ≡ front ++ last ∷ [] → word ≡ left ++ drop (length left) word → (last == 61) ≡ false → cut (drop (length left) word) ≡ None → cut (drop (length front) word) ≡ None
none-yet word left front last e whole n none = ap cut (one-behind word left front last e whole) ∙ cut-none last (drop (length left) word) n none

pub found-last : (word left front : List ℕ) (last : ℕ) → left ≡ front ++ last ∷ [] → word ≡ left ++ drop (length left) word → last ≡ 61 → cut (drop (length left) word) ≡ None
    → Some (front, take (length word - length left) (drop (length left) word)) ≡ cut word
found-last word left front last e whole y none =
    let is : word ≡ front ++ 61 ∷ drop (length left) word = one-before word left front last e whole ∙ ap (λ b. front ++ b ∷ drop (length left) word) y in
    ap (λ r. Some (front, r)) (from-place (length left) word) ∙ sym (ap cut is ∙ cut-at front (drop (length left) word) none)

pub found-none : (word left : List ℕ) → left ≡ [] → cut (drop (length left) word) ≡ None → None ≡ cut word
found-none word left e none = sym (ap (λ l. cut (drop (length l) word)) (sym e) ∙ none)

-- words that are sets, one after another
pub sets-next : (w : List ℕ) (ws : List (List ℕ)) (s : Set) → Some s ≡ set_in w → sets_in (w ∷ ws) ≡ option_map (λ ss. s ∷ ss) (sets_in ws)
unfolding sets_in
sets-next w ws s e = elim (cases_Bool (list_all (λ x. is_some (set_in x)) ws)) [
  | inl y ↦ rw (sym e, y) refl
  | inr n ↦ rw (sym e, n) refl
]

pub sets-stop : (w : List ℕ) (ws : List (List ℕ)) → None ≡ set_in w → sets_in (w ∷ ws) ≡ None
unfolding sets_in
sets-stop w ws e = rw (sym e) refl

abbrev pub with_front : List Set → Option (List Set) → Option (List Set)
with_front front o = option_map (λ ss. front ++ ss) o

one-front : (old : List Set) (s : Set) (o : Option (List Set)) → with_front old (option_map (λ ss. s ∷ ss) o) ≡ with_front (old ++ s ∷ []) o
one-front old s None = refl
one-front old s (Some ss) = ap Some (sym (append_assoc old (s ∷ []) ss))

pub set-read : (all : Option (List Set)) (rest more : List (Bor (List ℕ))) (w : Bor (List ℕ)) (new old : List code_set.SetText) (s : code_set.SetText) → rest ≡ w ∷ more → Some (set_seen s) ≡ set_in w.now → new ≡ old ++ s ∷ []
    → all ≡ with_front (map (λ x. set_seen x) old) (sets_in (map (λ x. x.now) rest)) → all ≡ with_front (map (λ x. set_seen x) new) (sets_in (map (λ x. x.now) more))
set-read all rest more w new old s e is push h =
    let pushed : map (λ x. set_seen x) new ≡ map (λ x. set_seen x) old ++ set_seen s ∷ [] = ap (map (λ x. set_seen x)) push ∙ map-append (λ x. set_seen x) old (s ∷ []) in
    h ∙ ap (λ x. with_front (map (λ y. set_seen y) old) (sets_in (map (λ y. y.now) x))) e ∙ ap (with_front (map (λ y. set_seen y) old)) (sets-next w.now (map (λ y. y.now) more) (set_seen s) is)
    ∙ one-front (map (λ y. set_seen y) old) (set_seen s) (sets_in (map (λ y. y.now) more)) ∙ ap (λ x. with_front x (sets_in (map (λ y. y.now) more))) (sym pushed)

pub no-set-read : (all : Option (List Set)) (rest more : List (Bor (List ℕ))) (w : Bor (List ℕ)) (front : List Set) → rest ≡ w ∷ more → None ≡ set_in w.now → all ≡ with_front front (sets_in (map (λ x. x.now) rest)) → None ≡ all
no-set-read all rest more w front e is h =
    sym (h ∙ ap (λ x. with_front front (sets_in (map (λ y. y.now) x))) e ∙ ap (with_front front) (sets-stop w.now (map (λ y. y.now) more) is))

pub sets-read : (all : Option (List Set)) (rest : List (Bor (List ℕ))) (front : List Set) → rest ≡ [] → all ≡ with_front front (sets_in (map (λ x. x.now) rest)) → Some front ≡ all
unfolding sets_in
sets-read all rest front e h = sym (h ∙ ap (λ x. with_front front (sets_in (map (λ y. y.now) x))) e ∙ ap Some (append-nil front))

pub none-read : (words : List (Bor (List ℕ))) (made : List code_set.SetText) → made ≡ [] → sets_in (map (λ x. x.now) words) ≡ with_front (map (λ x. set_seen x) made) (sets_in (map (λ x. x.now) words))
none-read words made e = by made e (sets_in (map (λ x. x.now) words))
  where
    by : (made : List code_set.SetText) → made ≡ [] → (o : Option (List Set)) → o ≡ with_front (map (λ x. set_seen x) made) o
    by [] k None = refl
    by [] k (Some ss) = refl
    by (m ∷ ms) k o = absurd (cc)
