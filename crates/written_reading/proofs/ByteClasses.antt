-- The classes of the bytes of names and numbers, and of those behind words.
use Rattle.std.proofs.Common.{◌≡◌, ℕ, List, [], ◌∷◌, Bool, true, false, refl, sym, ap, ◌∙◌, subst, inl, inr}
use Rattle.std.specs.Prelude.{◌==◌, ◌||◌, Option, None}
use Rattle.std.specs.Char.{is_ascii_digit}
use Rattle.std.proofs.lemmas.Bool.{eqb-true, ne_eqb, or_cases, or_from, or_left}
use Rattle.sg_text.specs.Names.{is_name_byte}
use Rattle.sdf_lex.specs.declared.bytes.ByteClass.{ByteClass}
use Rattle.sdf_lex.specs.declared.bytes.ByteClass.TheVariants as class
use Rattle.sdf_lex.specs.declared.letters.Ends.{Ends}
use Rattle.sdf_lex.specs.Bytes.{class_of, is_word_mark, begins_comment}
use Rattle.sdf_lex.specs.PieceBridge.{next_letter}

pub false_true : false ≡ true → ⊥
false_true e = cc

-- a byte that passes a test isn't one that doesn't
pub differs : (test : ℕ → Bool) (c b : ℕ) → test c ≡ false → test b ≡ true → (b == c) ≡ false
differs test c b n h = ne_eqb b c (λ e. absurd (false_true (sym n ∙ ap test (sym e) ∙ h)))

abbrev pub is_plain : ByteClass → Bool
is_plain class.Plain = true
is_plain _ = false

no_blank : (b : ℕ) → is_name_byte b ≡ true → ((b == 32) || (b == 9) || (b == 10) || (b == 13) || (b == 12)) ≡ false
no_blank b h =
    or_from ((b == 32) || (b == 9) || (b == 10) || (b == 13)) (b == 12)
    (or_from ((b == 32) || (b == 9) || (b == 10)) (b == 13)
    (or_from ((b == 32) || (b == 9)) (b == 10) (or_from (b == 32) (b == 9) (differs is_name_byte 32 b refl h) (differs is_name_byte 9 b refl h)) (differs is_name_byte 10 b refl h))
    (differs is_name_byte 13 b refl h))
    (differs is_name_byte 12 b refl h)

pub name_class : (b : ℕ) → is_name_byte b ≡ true → class_of b ≡ class.Plain
unfolding class_of
name_class b h = rw (no_blank b h, or_left (is_name_byte b) (is_word_mark b) h) refl

pub digit_name : (b : ℕ) → is_ascii_digit b ≡ true → is_name_byte b ≡ true
digit_name b h = rw h refl

pub name_plain : (b : ℕ) → is_name_byte b ≡ true → is_plain (class_of b) ≡ true
name_plain b h = rw (name_class b h) refl

-- ---- what stands behind a word: a blank, the end of a line or a parenthesis

abbrev pub is_stop : ℕ → Bool
is_stop b = (b == 32) || (b == 10) || (b == 41)

abbrev pub IsStopped : List ℕ → Type 0
IsStopped [] = Unit {0}
IsStopped (b ∷ bs) = is_stop b ≡ true

pub stop_is : (P : ℕ → Type 0) → P 32 → P 10 → P 41 → (b : ℕ) → is_stop b ≡ true → P b
stop_is P p q r b h = elim (or_cases ((b == 32) || (b == 10)) (b == 41) h) [
  | inl k ↦ elim (or_cases (b == 32) (b == 10) k) [
    | inl e ↦ subst P (sym (eqb-true b 32 e)) p
    | inr e ↦ subst P (sym (eqb-true b 10 e)) q
  ]
  | inr e ↦ subst P (sym (eqb-true b 41 e)) r
]

pub stopped_next : (after : List ℕ) → IsStopped after → (ends : Option Ends) → next_letter ends after ≡ None
unfolding class_of
stopped_next [] h ends = refl
stopped_next (b ∷ bs) h ends = stop_is (λ x. next_letter ends (x ∷ bs) ≡ None) refl refl refl b h

pub stopped_comment : (after : List ℕ) → IsStopped after → begins_comment after ≡ false
stopped_comment [] h = refl
stopped_comment (b ∷ bs) h = stop_is (λ x. begins_comment (x ∷ bs) ≡ false) refl refl refl b h
