-- The bytes of a netlist's names are good in SDF files.
use Rattle.std.specs.Prelude.{◌≡◌, ◌≢◌, ℕ, ◌==◌, ◌||◌, Bool, true, false, List, [], ◌∷◌, if◌then◌else◌}
use Rattle.std.specs.List.{list_all}
use Rattle.std.specs.Char.{is_ascii_graphic}
use Rattle.std.specs.Int.{is_in_range}
use Rattle.std.proofs.Common.{refl}
use Rattle.std.proofs.lemmas.Bool.{and_from, and_parts, or_left}
use Rattle.std.proofs.lemmas.List.Sums.{AllPass-from_list_all}
use Rattle.sg_text.specs.Names.{is_name_byte, is_name_start}
use Rattle.vl_pieces.specs.Bytes.{is_blank}
use Rattle.sdf_lex.specs.declared.bytes.ByteClass.{ByteClass}
use Rattle.sdf_lex.specs.declared.bytes.ByteClass.TheVariants as class
use Rattle.sdf_lex.specs.Bytes.{class_of, is_good, is_operator_byte, is_sign, is_word_mark}
use Rattle.written_reading.specs.Named.{IsNameText}

good_if : (t : Bool) (x y : ByteClass) → is_good x ≡ true → is_good y ≡ true → is_good (if t then x else y) ≡ true
good_if true x y h k = h
good_if false x y h k = k

good_where : (t : Bool) (x y : ByteClass) → is_good x ≡ true → t ≡ true → is_good (if t then x else y) ≡ true
good_where true x y h e = h
good_where false x y h e = absurd (cc)

pub good_name_byte : (b : ℕ) → is_name_byte b ≡ true → is_good (class_of b) ≡ true
unfolding class_of
good_name_byte b h = good_if (is_blank b) class.Blank _ refl (good_where (is_name_byte b || is_word_mark b) class.Plain _ refl (or_left (is_name_byte b) (is_word_mark b) h))

pub good_graphic : (b : ℕ) → is_ascii_graphic b ≡ true → is_good (class_of b) ≡ true
unfolding class_of
good_graphic b h =
    good_if (is_blank b) class.Blank _ refl
    (good_if (is_name_byte b || is_word_mark b) class.Plain _ refl
    (good_if (b == 47) class.Slash _ refl
    (good_if (is_sign b) class.Sign _ refl
    (good_if (b == 92) class.Backslash _ refl
    (good_if (b == 34) class.Quote _ refl (good_if (is_operator_byte b) class.Operator _ refl (good_where (is_ascii_graphic b) class.Mark class.Bad refl h)))))))

start_is_byte : (b : ℕ) → is_name_start b ≡ true → is_name_byte b ≡ true
start_is_byte b h = by (is_in_range 48 57 b) (is_in_range 65 90 b) (is_in_range 97 122 b) (b == 95) (b == 36) h
  where
    by : (digit upper lower line dollar : Bool) → ((upper || lower) || line) ≡ true → ((((digit || upper) || lower) || line) || dollar) ≡ true
    by true upper lower line dollar e = refl
    by false true lower line dollar e = refl
    by false false true line dollar e = refl
    by false false false true dollar e = refl
    by false false false false dollar e = absurd (let q : false ≡ true = e in cc)

pub good_name_start : (b : ℕ) → is_name_start b ≡ true → is_good (class_of b) ≡ true
good_name_start b h = good_name_byte b (start_is_byte b h)

all_good : (test : ℕ → Bool) → ((b : ℕ) → test b ≡ true → is_good (class_of b) ≡ true) → (bs : List ℕ) → list_all test bs ≡ true → list_all (λ b. is_good (class_of b)) bs ≡ true
all_good test good [] h = refl
all_good test good (b ∷ bs) h = let q = and_parts (test b) (list_all test bs) h in and_from (is_good (class_of b)) (list_all (λ x. is_good (class_of x)) bs) (good b q.0) (all_good test good bs q.1)

some_byte : (b : ℕ) (bs : List ℕ) → b ∷ bs ≢ []
some_byte b bs e = cc

-- bytes of a test that only good ones pass, behind a good one
pub name_of : (test : ℕ → Bool) → ((b : ℕ) → test b ≡ true → is_good (class_of b) ≡ true) → (b : ℕ) (bs : List ℕ) → is_good (class_of b) ≡ true → list_all test bs ≡ true → IsNameText (b ∷ bs)
name_of test good b bs h k = record {
  some = some_byte b bs;
  good = AllPass-from_list_all (λ x. is_good (class_of x)) (b ∷ bs) (and_from (is_good (class_of b)) (list_all (λ x. is_good (class_of x)) bs) h (all_good test good bs k));
}
