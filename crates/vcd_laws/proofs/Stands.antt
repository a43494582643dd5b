-- Words that stand from a place on, and what they spell by the ways of building a rule.
use Rattle.std.specs.Prelude.{◌≡◌, ℕ, suc, ◌+◌, Bool, true, List, [], ◌∷◌, ◌++◌, length, map, slice_get, Some, refl}
use Rattle.std.specs.List.{AllByRecursion}
use Rattle.std.proofs.Common.{◌∙◌, ap, subst, arith}
use Rattle.std.proofs.lemmas.List.{append_assoc}
use Rattle.grammar.specs.Language.{Language, SpellsMany}
use Rattle.grammar.specs.Rule.{◌∙∙◌, ◌▸◌, ◌◂◌, mapped}
use Rattle.vcd_form.specs.Kinds.{Kind, kind_of_text}
use Rattle.vcd_form.specs.Rules.{Grammar, mark, placed, text, token}
use Rattle.vcd_form.specs.Words.{Word}

-- a word of a text stands at a place
abbrev pub At : List Word → ℕ → List ℕ → Type 0
At ws i p = (byte : ℕ) × (slice_get ws i ≡ Some (record { byte = byte; bytes = p }))

-- words of these texts stand from a place on
abbrev pub Stand : List Word → ℕ → List (List ℕ) → Type 0
Stand ws i [] = Unit {0}
Stand ws i (p ∷ ps) = At ws i p × Stand ws (i + 1) ps

get_behind : (xs : List Word) (w : Word) (ys : List Word) → slice_get (xs ++ w ∷ ys) (length xs) ≡ Some w
get_behind [] w ys = refl
get_behind (x ∷ xs) w ys = get_behind xs w ys

-- all words stand
pub stand_behind : (xs ws : List Word) → Stand (xs ++ ws) (length xs) (map (λ (w : Word). w.bytes) ws)
stand_behind xs [] = tt
stand_behind xs (w ∷ ws) =
    let one : xs ++ w ∷ [] ++ ws ≡ xs ++ w ∷ ws = append_assoc xs (w ∷ []) ws in
    let many : length (xs ++ w ∷ []) ≡ length xs + 1 = longer xs w in
    ((w.byte, get_behind xs w ws), subst (λ n. Stand (xs ++ w ∷ ws) n (map (λ (x : Word). x.bytes) ws)) many (subst (λ us. Stand us (length (xs ++ w ∷ [])) (map (λ (x : Word). x.bytes) ws)) one (stand_behind (xs ++ w ∷ []) ws)))
  where
    longer : (us : List Word) (v : Word) → length (us ++ v ∷ []) ≡ length us + 1
    longer [] v = refl
    longer (u ∷ us) v = ap suc (longer us v) ∙ (let q : suc (length us + 1) ≡ suc (length us) + 1 = omega arith in q)

pub stand_all : (ws : List Word) (ps : List (List ℕ)) → map (λ (w : Word). w.bytes) ws ≡ ps → Stand ws 0 ps
stand_all ws ps e = subst (Stand ws 0) e (stand_behind [] ws)

-- of some of them the first ones, and the others behind them
pub stand_first : (ws : List Word) (i : ℕ) (ps qs : List (List ℕ)) → Stand ws i (ps ++ qs) → Stand ws i ps
stand_first ws i [] qs h = tt
stand_first ws i (p ∷ ps) qs h = (h.0, stand_first ws (i + 1) ps qs h.1)

pub stand_rest : (ws : List Word) (i : ℕ) (ps qs : List (List ℕ)) → Stand ws i (ps ++ qs) → Stand ws (i + length ps) qs
stand_rest ws i [] qs h = subst (λ n. Stand ws n qs) (let q : i ≡ i + 0 = omega arith in q) h
stand_rest ws i (p ∷ ps) qs h = subst (λ n. Stand ws n qs) (let q : i + 1 + length ps ≡ i + suc (length ps) = omega arith in q) (stand_rest ws (i + 1) ps qs h.1)

-- ---- one word

pub spell_token : {A : Type 0} (f : Word → A) (is : Kind → Bool) (ws : List Word) (i : ℕ) (p : List ℕ) (at : At ws i p) → is (kind_of_text p) ≡ true → (token f is).language.Spells ws i (f (record { byte = at.0; bytes = p })) (i + 1)
spell_token f is ws i p at h = (record { byte = at.0; bytes = p }, refl, (at.1, h, refl))

pub spell_mark : (is : Kind → Bool) (ws : List Word) (i : ℕ) (p : List ℕ) → At ws i p → is (kind_of_text p) ≡ true → (mark is).language.Spells ws i tt (i + 1)
spell_mark is ws i p at h = (record { byte = at.0; bytes = p }, refl, (at.1, h, refl))

pub spell_text : (is : Kind → Bool) (ws : List Word) (i : ℕ) (p : List ℕ) → At ws i p → is (kind_of_text p) ≡ true → (text is).language.Spells ws i p (i + 1)
spell_text is ws i p at h = spell_token (λ w. w.bytes) is ws i p at h

-- ---- rules from rules

pub spell_both : {A B : Type 0} (a : Grammar A) (b : Grammar B) (ws : List Word) (i m j : ℕ) (x : A) (y : B) → a.language.Spells ws i x m → b.language.Spells ws m y j → (a ∙∙ b).language.Spells ws i (x, y) j
spell_both a b ws i m j x y p q = (m, p, q)

pub spell_right : {A B : Type 0} (a : Grammar A) (b : Grammar B) (ws : List Word) (i m j : ℕ) (x : A) (y : B) → a.language.Spells ws i x m → b.language.Spells ws m y j → (a ▸ b).language.Spells ws i y j
spell_right a b ws i m j x y p q = ((x, y), refl, (m, p, q))

pub spell_left : {A B : Type 0} (a : Grammar A) (b : Grammar B) (ws : List Word) (i m j : ℕ) (x : A) (y : B) → a.language.Spells ws i x m → b.language.Spells ws m y j → (a ◂ b).language.Spells ws i x j
spell_left a b ws i m j x y p q = ((x, y), refl, (m, p, q))

pub spell_mapped : {A B : Type 0} (f : A → B) (a : Grammar A) (ws : List Word) (i j : ℕ) (x : A) → a.language.Spells ws i x j → (mapped f a).language.Spells ws i (f x) j
spell_mapped f a ws i j x p = (x, refl, p)

pub spell_placed : {A : Type 0} (a : Grammar A) (ws : List Word) (i j : ℕ) (x : A) (p : List ℕ) (at : At ws i p) → a.language.Spells ws i x j → (placed a).language.Spells ws i (at.0, x) j
spell_placed a ws i j x p at s = (record { byte = at.0; bytes = p }, at.1, refl, s)

-- any words up to `$end`
pub spell_marks : (is : Kind → Bool) (ws : List Word) (i : ℕ) (ps : List (List ℕ)) → Stand ws i ps → AllByRecursion (λ (p : List ℕ). is (kind_of_text p) ≡ true) ps → SpellsMany (mark is).language ws i (map (λ (p : List ℕ). tt) ps) (i + length ps)
spell_marks is ws i [] h each = (let q : i + 0 ≡ i = omega arith in q)
spell_marks is ws i (p ∷ ps) h each =
    (i + 1, spell_mark is ws i p h.0 each.0, subst (SpellsMany (mark is).language ws (i + 1) (map (λ (x : List ℕ). tt) ps)) (let q : i + 1 + length ps ≡ i + suc (length ps) = omega arith in q) (spell_marks is ws (i + 1) ps h.1 each.1))

-- repetitions one behind another
pub spell_many_append : {A : Type 0} (a : Language Word A) (ws : List Word) (i m j : ℕ) (xs ys : List A) → SpellsMany a ws i xs m → SpellsMany a ws m ys j → SpellsMany a ws i (xs ++ ys) j
spell_many_append a ws i m j [] ys h k = subst (λ n. SpellsMany a ws n ys j) h k
spell_many_append a ws i m j (x ∷ xs) ys h k = (h.0, h.1, spell_many_append a ws h.0 m j xs ys h.2 k)
