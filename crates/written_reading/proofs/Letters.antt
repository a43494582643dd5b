-- The letters of names, indexes and numbers: what they spell, and that they go on a word.
use Rattle.std.proofs.Common.{◌≡◌, ℕ, suc, ◌^◌, ◌<◌, ℤ, pos, negsuc, List, [], ◌∷◌, ◌++◌, length, map, Bool, true, false, refl, ap, ◌∙◌, arith, inl, inr}
use Rattle.std.specs.Prelude.{◌≢◌, ◌==◌, ◌&&◌, Option, Some, None, decimal, if◌then◌else◌}
use Rattle.std.specs.Char.{is_ascii_digit}
use Rattle.std.specs.Fmt.{signed_decimal}
use Rattle.std.specs.List.{list_all, AllByRecursion}
use Rattle.std.proofs.lemmas.Bool.{cases_Bool, and_from, and_parts, not_from_false, or_from, or_left, or_right}
use Rattle.std.proofs.lemmas.List.{append_assoc}
use Rattle.std.proofs.lemmas.List.Folds.{list_all-append}
use Rattle.sg_text.specs.Names.{is_name_byte}
use Rattle.sdf_lex.specs.declared.bytes.ByteClass.{ByteClass}
use Rattle.sdf_lex.specs.declared.bytes.ByteClass.TheVariants as class
use Rattle.sdf_lex.specs.declared.letters.Letter.{Letter}
use Rattle.sdf_lex.specs.declared.letters.Letter.TheVariants.{Plain, Escaped}
use Rattle.sdf_lex.specs.declared.letters.Ends.{Ends}
use Rattle.sdf_lex.specs.Bytes.{class_of, is_good, begins_number, begins_comment}
use Rattle.sdf_lex.specs.Words.{spelled, is_numeric, may_be, may_follow, with_last, Fits}
use Rattle.sdf_lex.proofs.WordLaws.{spelled-append}
use Rattle.written_model.specs.Names.{name_text, index_text}
use Rattle.written_reading.specs.Named.{IsIndex}
use Rattle.written_reading.specs.Pieces.{plain_letters, letter, first_letter, name_letters, index_letters, bit_letters, names_letters}
use Rattle.written_reading.proofs.ByteClasses.{false_true, differs, is_plain, name_plain, digit_name, IsStopped, stopped_comment}
use Rattle.written_reading.proofs.NameTexts.{name_spelled}
use Rattle.written_reading.proofs.NumberTexts.{is_decimal, some_digit}

-- ---- what they spell

pub plain_spelled : (bytes : List ℕ) → spelled (plain_letters bytes) ≡ bytes
plain_spelled [] = refl
plain_spelled (b ∷ bs) = ap (λ xs. b ∷ xs) (plain_spelled bs)

-- a first letter is escaped where it is a digit, and else as the others
pub first_digit : (b : ℕ) → is_ascii_digit b ≡ true → first_letter b ≡ Escaped b
first_digit b y = ap (λ t. if t then Escaped b else letter b) y

pub first_other : (b : ℕ) → is_ascii_digit b ≡ false → first_letter b ≡ letter b
first_other b n = ap (λ t. if t then Escaped b else letter b) n

pub index_spelled : (index : Option ℤ) → spelled (index_letters index) ≡ index_text index
index_spelled None = refl
index_spelled (Some i) = ap (λ xs. 91 ∷ xs) (spelled-append (plain_letters (signed_decimal i)) (Plain 93 ∷ []) ∙ ap (λ xs. xs ++ 93 ∷ []) (plain_spelled (signed_decimal i)))

pub bit_spelled : (name : List ℕ) (index : Option ℤ) → spelled (bit_letters name index) ≡ name_text name ++ index_text index
bit_spelled name index = spelled-append (name_letters name) (index_letters index) ∙ rw (name_spelled name, index_spelled index) refl

-- ---- letters that go on each word

abbrev pub is_safe : Letter → Bool
is_safe (Plain b) = is_plain (class_of b)
is_safe (Escaped b) = is_good (class_of b)

plain_may : (k : ByteClass) (ends : Option Ends) (b : ℕ) (after : List ℕ) → is_plain k ≡ true → may_be k ends b after ≡ true
plain_may class.Blank ends b after h = absurd (false_true h)
plain_may class.Plain ends b after h = refl
plain_may class.Slash ends b after h = absurd (false_true h)
plain_may class.Sign ends b after h = absurd (false_true h)
plain_may class.Backslash ends b after h = absurd (false_true h)
plain_may class.Quote ends b after h = absurd (false_true h)
plain_may class.Operator ends b after h = absurd (false_true h)
plain_may class.Mark ends b after h = absurd (false_true h)
plain_may class.Bad ends b after h = absurd (false_true h)

safe_follows : (ends : Option Ends) (l : Letter) (after : List ℕ) → is_safe l ≡ true → may_follow ends l after ≡ true
safe_follows ends (Plain b) after h = plain_may (class_of b) ends b after h
safe_follows ends (Escaped b) after h = h

pub fits_safe : (ends : Option Ends) (ls : List Letter) (after : List ℕ) → list_all is_safe ls ≡ true → Fits ends ls after
fits_safe ends [] after h = tt
fits_safe ends (l ∷ ls) after h =
    let p = and_parts (is_safe l) (list_all is_safe ls) h in
    (safe_follows ends l (spelled ls ++ after) p.0, fits_safe (Some (with_last ends l)) ls after p.1)

pub fits_front : (ends : Option Ends) (ls ms : List Letter) (after : List ℕ) → list_all is_safe ls ≡ true → ((e : Option Ends) → Fits e ms after) → Fits ends (ls ++ ms) after
fits_front ends [] ms after h f = f ends
fits_front ends (l ∷ ls) ms after h f =
    let p = and_parts (is_safe l) (list_all is_safe ls) h in
    (safe_follows ends l (spelled (ls ++ ms) ++ after) p.0, fits_front (Some (with_last ends l)) ls ms after p.1 f)

-- ---- digits

pub digits_safe : (ds : List ℕ) → list_all is_ascii_digit ds ≡ true → list_all is_safe (plain_letters ds) ≡ true
digits_safe [] h = refl
digits_safe (d ∷ ds) h =
    let p = and_parts (is_ascii_digit d) (list_all is_ascii_digit ds) h in
    and_from (is_plain (class_of d)) (list_all is_safe (plain_letters ds)) (name_plain d (digit_name d p.0)) (digits_safe ds p.1)

pub decimal_safe : (n : ℕ) → n < 10 ^ 18 → list_all is_safe (plain_letters (decimal n)) ≡ true
decimal_safe n l = digits_safe (decimal n) (is_decimal n l).digits

-- a sign begins a number where digits follow
digits_begin : (ds after : List ℕ) → 0 < length ds → list_all is_ascii_digit ds ≡ true → begins_number (spelled (plain_letters ds) ++ after) ≡ true
digits_begin [] after lt h = absurd (omega arith)
digits_begin (d ∷ ds) after lt h = or_left (is_ascii_digit d) (d == 46) (and_parts (is_ascii_digit d) (list_all is_ascii_digit ds) h).0

pub fits_number : (z : ℤ) (after : List ℕ) → IsIndex z → Fits None (plain_letters (signed_decimal z)) after
unfolding class_of
fits_number (pos n) after l = fits_safe None (plain_letters (decimal n)) after (decimal_safe n l)
fits_number (negsuc n) after l =
    let small : suc n < 10 ^ 18 = l in
    (digits_begin (decimal (suc n)) after (some_digit (suc n) small) (is_decimal (suc n) small).digits, fits_safe (Some (with_last None (Plain 45))) (plain_letters (decimal (suc n))) after (decimal_safe (suc n) small))

-- ---- indexes

closing_safe : (n : ℕ) → n < 10 ^ 18 → list_all is_safe (plain_letters (decimal n) ++ Plain 93 ∷ []) ≡ true
unfolding class_of
closing_safe n l = list_all-append is_safe (plain_letters (decimal n)) (Plain 93 ∷ []) ∙ and_from (list_all is_safe (plain_letters (decimal n))) true (decimal_safe n l) refl

behind_bracket : (first : Letter) (z : ℤ) (after : List ℕ) → IsIndex z → Fits (Some (record { first = first; last = Plain 91 })) (plain_letters (signed_decimal z) ++ Plain 93 ∷ []) after
unfolding class_of
behind_bracket first (pos n) after l = fits_safe (Some (record { first = first; last = Plain 91 })) (plain_letters (decimal n) ++ Plain 93 ∷ []) after (closing_safe n l)
behind_bracket first (negsuc n) after l =
    let small : suc n < 10 ^ 18 = l in
    (or_right (is_numeric first && false) true refl, fits_safe (Some (record { first = first; last = Plain 45 })) (plain_letters (decimal (suc n)) ++ Plain 93 ∷ []) after (closing_safe (suc n) small))

abbrev pub IsSomeIndex : Option ℤ → Type 0
IsSomeIndex None = Unit {0}
IsSomeIndex (Some i) = IsIndex i

pub fits_index : (ends : Option Ends) (index : Option ℤ) (after : List ℕ) → IsSomeIndex index → Fits ends (index_letters index) after
unfolding class_of
fits_index ends None after h = tt
fits_index None (Some i) after h = (refl, behind_bracket (Plain 91) i after h)
fits_index (Some ends) (Some i) after h = (refl, behind_bracket ends.first i after h)

-- ---- names

letter_safe : (b : ℕ) → is_good (class_of b) ≡ true → is_safe (letter b) ≡ true
letter_safe b g = elim (cases_Bool (is_name_byte b)) [
  | inl y ↦ rw y (name_plain b y)
  | inr n ↦ rw n g
]

first_safe : (b : ℕ) → is_good (class_of b) ≡ true → is_safe (first_letter b) ≡ true
first_safe b g = elim (cases_Bool (is_ascii_digit b)) [
  | inl y ↦ ap is_safe (first_digit b y) ∙ g
  | inr n ↦ ap is_safe (first_other b n) ∙ letter_safe b g
]

abbrev pub AreGood : List ℕ → Type 0
AreGood bs = AllByRecursion (λ b. is_good (class_of b) ≡ true) bs

letters_safe : (bs : List ℕ) → AreGood bs → list_all is_safe (map letter bs) ≡ true
letters_safe [] g = refl
letters_safe (b ∷ bs) g = and_from (is_safe (letter b)) (list_all is_safe (map letter bs)) (letter_safe b g.0) (letters_safe bs g.1)

pub name_safe : (name : List ℕ) → AreGood name → list_all is_safe (name_letters name) ≡ true
name_safe [] g = refl
name_safe (b ∷ bs) g = and_from (is_safe (first_letter b)) (list_all is_safe (map letter bs)) (first_safe b g.0) (letters_safe bs g.1)

pub fits_bit : (name : List ℕ) (index : Option ℤ) (after : List ℕ) → AreGood name → IsSomeIndex index → Fits None (bit_letters name index) after
fits_bit name index after g h = fits_front None (name_letters name) (index_letters index) after (name_safe name g) (λ e. fits_index e index after h)

-- ---- names with dividers

-- a name begins no comment
letter_begins : (b : ℕ) (ls : List Letter) (after : List ℕ) → begins_comment (spelled (letter b ∷ ls) ++ after) ≡ false
letter_begins b ls after = elim (cases_Bool (is_name_byte b)) [
  | inl y ↦ ap (λ t. begins_comment (spelled ((if t then Plain b else Escaped b) ∷ ls) ++ after)) y ∙ or_from (b == 47) (b == 42) (differs is_name_byte 47 b refl y) (differs is_name_byte 42 b refl y)
  | inr n ↦ ap (λ t. begins_comment (spelled ((if t then Plain b else Escaped b) ∷ ls) ++ after)) n
]

name_begins : (name after : List ℕ) → name ≢ [] → begins_comment (spelled (name_letters name) ++ after) ≡ false
name_begins [] after some = absurd (some refl)
name_begins (b ∷ bs) after some = elim (cases_Bool (is_ascii_digit b)) [
  | inl y ↦ ap (λ l. begins_comment (spelled (l ∷ map letter bs) ++ after)) (first_digit b y)
  | inr n ↦ ap (λ l. begins_comment (spelled (l ∷ map letter bs) ++ after)) (first_other b n) ∙ letter_begins b (map letter bs) after
]

abbrev pub AreNames : List (List ℕ) → Type 0
AreNames names = AllByRecursion (λ n. (n ≢ []) × AreGood n) names

names_begin : (n : List ℕ) (more : List (List ℕ)) (after : List ℕ) → n ≢ [] → begins_comment (spelled (names_letters (n ∷ more)) ++ after) ≡ false
names_begin n [] after some = name_begins n after some
names_begin n (m ∷ more) after some =
    let parts : spelled (names_letters (n ∷ m ∷ more)) ++ after ≡ spelled (name_letters n) ++ (spelled (Plain 47 ∷ names_letters (m ∷ more)) ++ after) =
    ap (λ xs. xs ++ after) (spelled-append (name_letters n) (Plain 47 ∷ names_letters (m ∷ more))) ∙ append_assoc (spelled (name_letters n)) (spelled (Plain 47 ∷ names_letters (m ∷ more))) after in
    ap begins_comment parts ∙ name_begins n (spelled (Plain 47 ∷ names_letters (m ∷ more)) ++ after) some

pub fits_names : (ends : Option Ends) (names : List (List ℕ)) (after : List ℕ) → AreNames names → Fits ends (names_letters names) after
unfolding class_of
fits_names ends [] after h = tt
fits_names ends (n ∷ []) after h = fits_safe ends (name_letters n) after (name_safe n h.0.1)
fits_names ends (n ∷ m ∷ more) after h =
    let behind : (e : Option Ends) → Fits e (Plain 47 ∷ names_letters (m ∷ more)) after =
    λ e. (not_from_false (begins_comment (spelled (names_letters (m ∷ more)) ++ after)) (names_begin m more after h.1.0.0), fits_names (Some (with_last e (Plain 47))) (m ∷ more) after h.1) in
    fits_front ends (name_letters n) (Plain 47 ∷ names_letters (m ∷ more)) after (name_safe n h.0.1) behind

-- the divider alone
pub fits_slash : (after : List ℕ) → IsStopped after → Fits None (Plain 47 ∷ []) after
unfolding class_of
fits_slash after s = (not_from_false (begins_comment after) (stopped_comment after s), tt)
