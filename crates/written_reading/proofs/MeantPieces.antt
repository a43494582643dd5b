-- What the tokens of pieces mean, wherever they stand.
use Rattle.std.proofs.Common.{◌≡◌, ℕ, suc, ◌+◌, ◌^◌, ◌<◌, ◌≤◌, ℤ, pos, negsuc, List, [], ◌∷◌, ◌++◌, length, map, take, drop, Bool, true, false, refl, ap, ◌∙◌, arith, inl, inr}
use Rattle.std.specs.Prelude.{◌==◌, ◌&&◌, not, nat_le, Option, Some, None, decimal, flat_map, neg_ℤ}
use Rattle.std.specs.Char.{is_ascii_digit}
use Rattle.std.specs.Fmt.{signed_decimal}
use Rattle.std.specs.List.{list_all}
use Rattle.std.specs.Option.{option_map}
use Rattle.std.proofs.lemmas.Bool.{cases_Bool, and_from, and_parts, le-leb, not_from_false}
use Rattle.std.proofs.lemmas.Grind.{flat_map-append}
use Rattle.std.proofs.lemmas.List.{append-nil, map-append, drop_at, take_at}
use Rattle.std.proofs.lemmas.List.Folds.{list_all-append}
use Rattle.sg_text.specs.Names.{is_name_byte}
use Rattle.sg_time.specs.Spelling.{number_from}
use Rattle.sdf_lex.specs.declared.letters.Letter.{Letter}
use Rattle.sdf_lex.specs.declared.letters.Letter.TheVariants.{Plain}
use Rattle.sdf_lex.specs.Pieces.{Piece, blank_piece, line_comment, block_comment, open_comment, word_piece, text_piece, open_text, symbol_piece, mark_piece, bad_piece, spelling, select_tokens, word_tokens, tokens_of, tokens}
use Rattle.sdf_lex.specs.Tokens.{Meaning, Lexeme, word_token}
use Rattle.sdf_lex.specs.Words.{spelled, is_bracket, Cut, cut_with, last_cut, is_sized, size_in, size_of, index_of}
use Rattle.sdf_lex.proofs.EndLaws.{run_to}
use Rattle.sdf_lex.proofs.WordLaws.{spelled-append}
use Rattle.written_model.specs.Names.{name_text, index_text, names_text}
use Rattle.written_reading.specs.Meanings.{name_meaning, select_meanings}
use Rattle.written_reading.specs.Named.{IsIndex}
use Rattle.written_reading.specs.Pieces.{plain_letters, letter, name_letters, index_letters, bit_letters, names_letters, word}
use Rattle.written_reading.proofs.ByteClasses.{differs}
use Rattle.written_reading.proofs.Letters.{plain_spelled, bit_spelled, first_digit, first_other, IsSomeIndex}
use Rattle.written_reading.proofs.NameTexts.{name_spelled, names_spelled}
use Rattle.written_reading.proofs.NumberTexts.{is_decimal, some_digit, few_digits}

abbrev pub means : List Lexeme → List Meaning
means ts = map (λ (t : Lexeme). t.meaning) ts

abbrev pub meant : Piece → List Meaning
meant p = means (tokens_of 0 p)

-- ---- places aside

select_free : (at : ℕ) (whole name : List ℕ) (o : Option ℤ) → means (select_tokens at whole name o) ≡ means (select_tokens 0 whole name o)
select_free at whole name None = refl
select_free at whole name (Some n) = refl

word_free : (at : ℕ) (whole : List ℕ) (o : Option Cut) → means (word_tokens at whole o) ≡ means (word_tokens 0 whole o)
word_free at whole None = refl
word_free at whole (Some c) = select_free at whole (spelled c.name) (index_of (spelled c.behind))

place_free : (at : ℕ) (p : Piece) → means (tokens_of at p) ≡ meant p
place_free at (blank_piece b) = refl
place_free at (line_comment inside) = refl
place_free at (block_comment inside) = refl
place_free at (open_comment inside) = refl
place_free at (word_piece ls) = word_free at (spelled ls) (last_cut ls)
place_free at (text_piece inside) = refl
place_free at (open_text inside) = refl
place_free at (symbol_piece bytes) = refl
place_free at (mark_piece b) = refl
place_free at (bad_piece b) = refl

pub means_tokens : (at : ℕ) (ps : List Piece) → means (tokens at ps) ≡ flat_map meant ps
means_tokens at [] = refl
means_tokens at (p ∷ ps) =
    map-append (λ (t : Lexeme). t.meaning) (tokens_of at p) (tokens (at + length (spelling p)) ps)
    ∙ ap (λ xs. xs ++ means (tokens (at + length (spelling p)) ps)) (place_free at p) ∙ ap (λ ys. meant p ++ ys) (means_tokens (at + length (spelling p)) ps)

pub meant_joined : (ps qs : List Piece) {x y : List Meaning} → flat_map meant ps ≡ x → flat_map meant qs ≡ y → flat_map meant (ps ++ qs) ≡ x ++ y
meant_joined ps qs {x} e f = flat_map-append meant ps qs ∙ ap (λ xs. xs ++ flat_map meant qs) e ∙ ap (λ ys. x ++ ys) f

-- ---- words without brackets

abbrev is_unbracketed : Letter → Bool
is_unbracketed l = not (is_bracket l)

from_not : (b : Bool) → not b ≡ true → b ≡ false
from_not true h = absurd cc
from_not false h = refl

cut_none : (ls : List Letter) → list_all is_unbracketed ls ≡ true → last_cut ls ≡ None
cut_none [] h = refl
cut_none (l ∷ ls) h =
    let p = and_parts (is_unbracketed l) (list_all is_unbracketed ls) h in
    rw (cut_none ls p.1, from_not (is_bracket l) p.0) refl

word_by : (ls : List Letter) (whole : List ℕ) (o : Option Cut) → spelled ls ≡ whole → last_cut ls ≡ o → meant (word_piece ls) ≡ means (word_tokens 0 whole o)
word_by ls whole o e f = ap (λ xs. means (word_tokens 0 xs (last_cut ls))) e ∙ ap (λ c. means (word_tokens 0 whole c)) f

pub unbracketed_meant : (text : List ℕ) → list_all is_unbracketed (plain_letters text) ≡ true → meant (word text) ≡ word_token text ∷ []
unbracketed_meant text h = word_by (plain_letters text) text None (plain_spelled text) (cut_none (plain_letters text) h)

digits_unbracketed : (ds : List ℕ) → list_all is_ascii_digit ds ≡ true → list_all is_unbracketed (plain_letters ds) ≡ true
digits_unbracketed [] h = refl
digits_unbracketed (d ∷ ds) h =
    let p = and_parts (is_ascii_digit d) (list_all is_ascii_digit ds) h in
    and_from (not (d == 91)) (list_all is_unbracketed (plain_letters ds)) (not_from_false (d == 91) (differs is_ascii_digit 91 d refl p.0)) (digits_unbracketed ds p.1)

number_unbracketed : (z : ℤ) → IsIndex z → list_all is_unbracketed (plain_letters (signed_decimal z)) ≡ true
number_unbracketed (pos n) l = digits_unbracketed (decimal n) (is_decimal n l).digits
number_unbracketed (negsuc n) l = digits_unbracketed (decimal (suc n)) (is_decimal (suc n) l).digits

pub number_meant : (z : ℤ) → IsIndex z → meant (word (signed_decimal z)) ≡ word_token (signed_decimal z) ∷ []
number_meant z l = unbracketed_meant (signed_decimal z) (number_unbracketed z l)

letter_unbracketed : (b : ℕ) → is_unbracketed (letter b) ≡ true
letter_unbracketed b = elim (cases_Bool (is_name_byte b)) [
  | inl y ↦ rw y (not_from_false (b == 91) (differs is_name_byte 91 b refl y))
  | inr n ↦ rw n refl
]

letters_unbracketed : (bs : List ℕ) → list_all is_unbracketed (map letter bs) ≡ true
letters_unbracketed [] = refl
letters_unbracketed (b ∷ bs) = and_from (is_unbracketed (letter b)) (list_all is_unbracketed (map letter bs)) (letter_unbracketed b) (letters_unbracketed bs)

name_unbracketed : (name : List ℕ) → list_all is_unbracketed (name_letters name) ≡ true
name_unbracketed [] = refl
name_unbracketed (b ∷ bs) = elim (cases_Bool (is_ascii_digit b)) [
  | inl y ↦ ap (λ l. list_all is_unbracketed (l ∷ map letter bs)) (first_digit b y) ∙ letters_unbracketed bs
  | inr n ↦ ap (λ l. list_all is_unbracketed (l ∷ map letter bs)) (first_other b n) ∙ letters_unbracketed (b ∷ bs)
]

names_unbracketed : (names : List (List ℕ)) → list_all is_unbracketed (names_letters names) ≡ true
names_unbracketed [] = refl
names_unbracketed (n ∷ []) = name_unbracketed n
names_unbracketed (n ∷ m ∷ more) =
    list_all-append is_unbracketed (name_letters n) (Plain 47 ∷ names_letters (m ∷ more))
    ∙ and_from (list_all is_unbracketed (name_letters n)) (list_all is_unbracketed (names_letters (m ∷ more))) (name_unbracketed n) (names_unbracketed (m ∷ more))

pub names_meant : (names : List (List ℕ)) → meant (word_piece (names_letters names)) ≡ word_token (names_text names) ∷ []
names_meant names = word_by (names_letters names) (names_text names) None (names_spelled names) (cut_none (names_letters names) (names_unbracketed names))

-- ---- bit selects

size_is : (ds : List ℕ) → 0 < length ds → length ds ≤ 18 → list_all is_ascii_digit ds ≡ true → size_of (ds ++ 93 ∷ []) ≡ Some (number_from 0 ds)
size_is ds some few h =
    let front : take (length ds) (ds ++ 93 ∷ []) ≡ ds = take_at ds (93 ∷ []) (length ds) refl in
    let back : drop (length ds) (ds ++ 93 ∷ []) ≡ 93 ∷ [] = drop_at ds (93 ∷ []) (length ds) refl in
    let sized : is_sized (length ds) (93 ∷ []) ≡ true = and_from (nat_le 1 (length ds) && nat_le (length ds) 18) true (and_from (nat_le 1 (length ds)) (nat_le (length ds) 18) (le-leb 1 (length ds) some) (le-leb (length ds) 18 few)) refl in
    ap (λ n. size_in n (ds ++ 93 ∷ [])) (run_to is_ascii_digit ds 93 [] h refl) ∙ rw (front, back, sized) refl

digits_index : (ds : List ℕ) → 0 < length ds → list_all is_ascii_digit ds ≡ true → index_of (ds ++ 93 ∷ []) ≡ option_map (λ n. pos n) (size_of (ds ++ 93 ∷ []))
digits_index [] some h = absurd (omega arith)
digits_index (d ∷ ds) some h = rw (differs is_ascii_digit 45 d refl (and_parts (is_ascii_digit d) (list_all is_ascii_digit ds) h).0) refl

decimal_size : (n : ℕ) → n < 10 ^ 18 → size_of (decimal n ++ 93 ∷ []) ≡ Some n
decimal_size n l = size_is (decimal n) (some_digit n l) (few_digits n l) (is_decimal n l).digits ∙ ap (λ (m : ℕ). Some m) (is_decimal n l).number

index_is : (z : ℤ) → IsIndex z → index_of (signed_decimal z ++ 93 ∷ []) ≡ Some z
index_is (pos n) l = digits_index (decimal n) (some_digit n l) (is_decimal n l).digits ∙ ap (λ o. option_map (λ m. pos m) o) (decimal_size n l)
index_is (negsuc n) l = ap (λ o. option_map (λ m. neg_ℤ (pos m)) o) (decimal_size (suc n) l)

-- the last bracket of a whole word is that of its last part
cut_front : (ls ms : List Letter) (c : Cut) → last_cut ms ≡ Some c → last_cut (ls ++ ms) ≡ Some (record { name = ls ++ c.name; behind = c.behind })
cut_front [] ms c e = e
cut_front (l ∷ ls) ms c e = ap (λ o. cut_with l (ls ++ ms) o) (cut_front ls ms c e)

abbrev closing : ℤ → List Letter
closing i = plain_letters (signed_decimal i) ++ Plain 93 ∷ []

index_cut : (i : ℤ) → IsIndex i → last_cut (index_letters (Some i)) ≡ Some (record { name = []; behind = closing i })
index_cut i l =
    let none = list_all-append is_unbracketed (plain_letters (signed_decimal i)) (Plain 93 ∷ []) ∙ and_from (list_all is_unbracketed (plain_letters (signed_decimal i))) true (number_unbracketed i l) refl in
    ap (λ o. cut_with (Plain 91) (closing i) o) (cut_none (closing i) none)

bit_cut : (name : List ℕ) (i : ℤ) → IsIndex i → last_cut (bit_letters name (Some i)) ≡ Some (record { name = name_letters name; behind = closing i })
bit_cut name i l =
    cut_front (name_letters name) (index_letters (Some i)) (record { name = []; behind = closing i }) (index_cut i l)
    ∙ ap (λ ls. Some (let c : Cut = record { name = ls; behind = closing i } in c)) (append-nil (name_letters name))

closing_spelled : (i : ℤ) → spelled (closing i) ≡ signed_decimal i ++ 93 ∷ []
closing_spelled i = spelled-append (plain_letters (signed_decimal i)) (Plain 93 ∷ []) ∙ ap (λ xs. xs ++ 93 ∷ []) (plain_spelled (signed_decimal i))

pub bit_meant : (name : List ℕ) (index : Option ℤ) → IsSomeIndex index → meant (word_piece (bit_letters name index)) ≡ name_meaning (name_text name) index ∷ select_meanings index
bit_meant name None h =
    word_by (bit_letters name None) (name_text name) None (bit_spelled name None ∙ append-nil (name_text name)) (ap last_cut (append-nil (name_letters name)) ∙ cut_none (name_letters name) (name_unbracketed name))
bit_meant name (Some i) h =
    let whole = name_text name ++ index_text (Some i) in
    word_by (bit_letters name (Some i)) whole (Some (record { name = name_letters name; behind = closing i })) (bit_spelled name (Some i)) (bit_cut name i h)
    ∙ ap (λ xs. means (select_tokens 0 whole xs (index_of (spelled (closing i))))) (name_spelled name)
    ∙ ap (λ o. means (select_tokens 0 whole (name_text name) o)) (ap index_of (closing_spelled i) ∙ index_is i h)
