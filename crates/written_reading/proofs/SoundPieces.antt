-- Pieces that are the longest in their places, by what stands right behind each.
use Rattle.std.proofs.Common.{◌≡◌, ℕ, ◌+◌, List, [], ◌∷◌, ◌++◌, length, take, Bool, true, false, refl, sym, ap, ◌∙◌, subst, arith, inl, inr}
use Rattle.std.specs.Prelude.{◌==◌, ◌&&◌, ◌||◌, Option, Some, None, nat_le, nat_lt}
use Rattle.std.specs.List.{list_all, prefix_len}
use Rattle.std.proofs.lemmas.Bool.{and_from, eqb-true, le-leb, lt-ltb, or_cases}
use Rattle.std.proofs.lemmas.List.{append-nil, append_assoc, append_cancel_left, length-append, take_at}
use Rattle.cond_expr.specs.declared.tokens.Op.{Op}
use Rattle.cond_expr.specs.declared.tokens.Op.TheVariants as op
use Rattle.sdf_lex.specs.declared.bytes.ByteClass.TheVariants as class
use Rattle.sdf_lex.specs.declared.letters.Letter.{Letter}
use Rattle.sdf_lex.specs.declared.letters.Letter.TheVariants.{Plain, Escaped}
use Rattle.sdf_lex.specs.declared.letters.Ends.{Ends}
use Rattle.sdf_lex.specs.Bytes.{class_of, is_unquoted}
use Rattle.sdf_lex.specs.Words.{spelled, with_last, Fits}
use Rattle.sdf_lex.specs.Operators.{operator_rows, operator_of, is_operator}
use Rattle.sdf_lex.specs.Pieces.{Piece, blank_piece, line_comment, block_comment, open_comment, word_piece, text_piece, open_text, symbol_piece, mark_piece, bad_piece, spelling, IsPiece, spellings, ArePieces, is_bad, first_bad}
use Rattle.sdf_lex.specs.PieceBridge.{run_of, symbol_len, other_piece, word_or, first_piece}
use Rattle.sdf_lex.proofs.EndLaws.{run_to}
use Rattle.sdf_lex.proofs.FirstPieces.{first_found, single_first, blank_single, operator_single, mark_single}
use Rattle.sdf_lex.proofs.OneReading.{first_is}
use Rattle.sdf_lex.proofs.RunLaws.{run_plain, run_escaped, run_end, plain_end}
use Rattle.written_model.specs.Text.{operator_text}
use Rattle.written_reading.specs.Pieces.{plain_letters, word}
use Rattle.written_reading.proofs.ByteClasses.{IsStopped, stopped_next}
use Rattle.written_reading.proofs.Letters.{is_safe, fits_safe}

-- ---- pieces with a form of their own

abbrev pub is_gap : ℕ → Bool
is_gap b = (b == 32) || (b == 10)

abbrev pub is_parenthesis : ℕ → Bool
is_parenthesis b = (b == 40) || (b == 41)

abbrev pub IsWord : List Letter → Type 0
IsWord [] = ⊥
IsWord (l ∷ ls) = (after : List ℕ) → IsStopped after → Fits None (l ∷ ls) after

abbrev pub IsSound : Piece → Type 0
IsSound (blank_piece b) = is_gap b ≡ true
IsSound (word_piece ls) = IsWord ls
IsSound (text_piece inside) = list_all is_unquoted inside ≡ true
IsSound (symbol_piece bytes) = (o : Op) × (bytes ≡ operator_text o)
IsSound (mark_piece b) = is_parenthesis b ≡ true
IsSound _ = ⊥

abbrev pub IsSpaced : List ℕ → Type 0
IsSpaced [] = ⊥
IsSpaced (b ∷ bs) = b ≡ 32

-- what may stand right behind it
abbrev pub MayPrecede : Piece → List ℕ → Type 0
MayPrecede (word_piece ls) after = IsStopped after
MayPrecede (symbol_piece bytes) after = IsSpaced after
MayPrecede _ after = Unit {0}

-- each with its form, before these bytes
abbrev pub AreSound : List ℕ → List Piece → Type 0
AreSound after [] = Unit {0}
AreSound after (p ∷ ps) = IsSound p × MayPrecede p (spellings ps ++ after) × AreSound after ps

pub spellings-append : (ps qs : List Piece) → spellings (ps ++ qs) ≡ spellings ps ++ spellings qs
spellings-append [] qs = refl
spellings-append (p ∷ ps) qs = ap (λ xs. spelling p ++ xs) (spellings-append ps qs) ∙ sym (append_assoc (spelling p) (spellings ps) (spellings qs))

pub sound_append : (after : List ℕ) (ps qs : List Piece) → AreSound (spellings qs ++ after) ps → AreSound after qs → AreSound after (ps ++ qs)
sound_append after [] qs h k = k
sound_append after (p ∷ ps) qs h k =
    let e : spellings ps ++ (spellings qs ++ after) ≡ spellings (ps ++ qs) ++ after = sym (append_assoc (spellings ps) (spellings qs) after) ∙ ap (λ xs. xs ++ after) (sym (spellings-append ps qs)) in
    (h.0, subst (λ xs. MayPrecede p xs) e h.1, sound_append after ps qs h.2 k)

abbrev pub is_keyword : List ℕ → Bool
is_keyword [] = false
is_keyword (b ∷ bs) = list_all is_safe (plain_letters (b ∷ bs))

pub keyword_sound : (text : List ℕ) → is_keyword text ≡ true → IsSound (word text)
keyword_sound [] h = absurd cc
keyword_sound (b ∷ bs) h = λ after s. fits_safe None (plain_letters (b ∷ bs)) after h

-- ---- the first piece of what they begin

piece_is : (p : Piece) (after : List ℕ) (b : ℕ) (bs : List ℕ) → spelling p ++ after ≡ b ∷ bs → first_piece (b ∷ bs) ≡ p → IsPiece p after
piece_is p after b bs e first =
    let f = first_found b bs in
    let same : f.after ≡ after = append_cancel_left (spelling p) f.after after (ap (λ q. spelling q ++ f.after) (sym first) ∙ f.spells ∙ sym e) in
    subst (λ xs. IsPiece p xs) same (subst (λ q. IsPiece q f.after) first (first_is b bs))

-- words

run_exact : (ends : Option Ends) (ls : List Letter) (after : List ℕ) → Fits ends ls after → IsStopped after → run_of ends (spelled ls ++ after) ≡ ls
run_exact ends [] after f s = run_end ends after (stopped_next after s ends)
run_exact ends (Plain b ∷ ls) after f s = run_plain ends b (spelled ls ++ after) f.0 ∙ ap (λ ms. Plain b ∷ ms) (run_exact (Some (with_last ends (Plain b))) ls after f.1 s)
run_exact ends (Escaped c ∷ ls) after f s = run_escaped ends c (spelled ls ++ after) f.0 ∙ ap (λ ms. Escaped c ∷ ms) (run_exact (Some (with_last ends (Escaped c))) ls after f.1 s)

word_stands : (ls : List Letter) (after : List ℕ) → IsWord ls → IsStopped after → IsPiece (word_piece ls) after
word_stands [] after f s = absurd f
word_stands (Plain b ∷ ls) after f s =
    piece_is (word_piece (Plain b ∷ ls)) after b (spelled ls ++ after) refl (ap (λ ms. word_or ms (other_piece b (spelled ls ++ after))) (run_exact None (Plain b ∷ ls) after (f after s) s))
word_stands (Escaped c ∷ ls) after f s =
    piece_is (word_piece (Escaped c ∷ ls)) after 92 (c ∷ (spelled ls ++ after)) refl (ap (λ ms. word_or ms (other_piece 92 (c ∷ (spelled ls ++ after)))) (run_exact None (Escaped c ∷ ls) after (f after s) s))

-- single bytes

blank_stands : (b : ℕ) (after : List ℕ) → class_of b ≡ class.Blank → IsPiece (blank_piece b) after
blank_stands b after e = piece_is (blank_piece b) after b after refl (single_first b after class.Blank e (blank_single after))

gap_class : (b : ℕ) → is_gap b ≡ true → class_of b ≡ class.Blank
unfolding class_of
gap_class b h = elim (or_cases (b == 32) (b == 10) h) [
  | inl e ↦ subst (λ x. class_of x ≡ class.Blank) (sym (eqb-true b 32 e)) refl
  | inr e ↦ subst (λ x. class_of x ≡ class.Blank) (sym (eqb-true b 10 e)) refl
]

mark_stands : (b : ℕ) (after : List ℕ) → class_of b ≡ class.Mark → IsPiece (mark_piece b) after
mark_stands b after e = piece_is (mark_piece b) after b after refl (single_first b after class.Mark e (mark_single after))

parenthesis_class : (b : ℕ) → is_parenthesis b ≡ true → class_of b ≡ class.Mark
unfolding class_of
parenthesis_class b h = elim (or_cases (b == 40) (b == 41) h) [
  | inl e ↦ subst (λ x. class_of x ≡ class.Mark) (sym (eqb-true b 40 e)) refl
  | inr e ↦ subst (λ x. class_of x ≡ class.Mark) (sym (eqb-true b 41 e)) refl
]

-- texts

quote_alone : (xs : List ℕ) → run_of None (34 ∷ xs) ≡ []
unfolding class_of
quote_alone xs = plain_end None 34 xs refl refl

text_first : (inside after : List ℕ) → list_all is_unquoted inside ≡ true → first_piece (34 ∷ (inside ++ 34 ∷ after)) ≡ text_piece inside
text_first inside after h =
    let run : prefix_len is_unquoted (inside ++ 34 ∷ after) ≡ length inside = run_to is_unquoted inside 34 after h refl in
    let less : nat_lt (length inside) (length (inside ++ 34 ∷ after)) ≡ true = lt-ltb (length inside) (length (inside ++ 34 ∷ after)) (omega (arith, length-append inside (34 ∷ after))) in
    quoted (inside ++ 34 ∷ after) run less (take_at inside (34 ∷ after) (length inside) refl)
  where
    quoted : (xs : List ℕ) → prefix_len is_unquoted xs ≡ length inside → nat_lt (length inside) (length xs) ≡ true → take (length inside) xs ≡ inside → first_piece (34 ∷ xs) ≡ text_piece inside
    quoted xs r l t = rw (quote_alone xs, r, l, t) refl

text_stands : (inside after : List ℕ) → list_all is_unquoted inside ≡ true → IsPiece (text_piece inside) after
text_stands inside after h = piece_is (text_piece inside) after 34 (inside ++ 34 ∷ after) (ap (λ xs. 34 ∷ xs) (append_assoc inside (34 ∷ []) after)) (text_first inside after h)

-- operators

and_none : (b c : Bool) → c ≡ false → (b && c) ≡ false
and_none true c h = h
and_none false c h = refl

one_byte : (b : ℕ) (rest : List ℕ) → class_of b ≡ class.Operator → ((xs : List ℕ) → is_operator (b ∷ 32 ∷ xs) ≡ false) → first_piece (b ∷ 32 ∷ rest) ≡ symbol_piece (b ∷ [])
one_byte b rest e h =
    let three = and_none (nat_le 3 (length (b ∷ 32 ∷ rest))) (is_operator (take 3 (b ∷ 32 ∷ rest))) (h (take 1 rest)) in
    let two = and_none (nat_le 2 (length (b ∷ 32 ∷ rest))) (is_operator (take 2 (b ∷ 32 ∷ rest))) (h []) in
    let size : symbol_len (b ∷ 32 ∷ rest) ≡ 1 = rw (three, two) refl in
    single_first b (32 ∷ rest) class.Operator e (operator_single (32 ∷ rest)) ∙ ap (λ n. symbol_piece (take n (b ∷ 32 ∷ rest))) size

two_bytes : (b c : ℕ) (rest : List ℕ) → class_of b ≡ class.Operator → is_operator (b ∷ c ∷ 32 ∷ []) ≡ false → is_operator (b ∷ c ∷ []) ≡ true → first_piece (b ∷ c ∷ 32 ∷ rest) ≡ symbol_piece (b ∷ c ∷ [])
two_bytes b c rest e h k =
    let three = and_none (nat_le 3 (length (b ∷ c ∷ 32 ∷ rest))) (is_operator (take 3 (b ∷ c ∷ 32 ∷ rest))) h in
    let two = and_from (nat_le 2 (length (b ∷ c ∷ 32 ∷ rest))) (is_operator (take 2 (b ∷ c ∷ 32 ∷ rest))) (le-leb 2 (length (b ∷ c ∷ 32 ∷ rest)) (omega arith)) k in
    let size : symbol_len (b ∷ c ∷ 32 ∷ rest) ≡ 2 = rw (three, two) refl in
    single_first b (c ∷ 32 ∷ rest) class.Operator e (operator_single (c ∷ 32 ∷ rest)) ∙ ap (λ n. symbol_piece (take n (b ∷ c ∷ 32 ∷ rest))) size

three_bytes : (b c d : ℕ) (rest : List ℕ) → class_of b ≡ class.Operator → is_operator (b ∷ c ∷ d ∷ []) ≡ true → first_piece (b ∷ c ∷ d ∷ 32 ∷ rest) ≡ symbol_piece (b ∷ c ∷ d ∷ [])
three_bytes b c d rest e k =
    let three = and_from (nat_le 3 (length (b ∷ c ∷ d ∷ 32 ∷ rest))) (is_operator (take 3 (b ∷ c ∷ d ∷ 32 ∷ rest))) (le-leb 3 (length (b ∷ c ∷ d ∷ 32 ∷ rest)) (omega arith)) k in
    let size : symbol_len (b ∷ c ∷ d ∷ 32 ∷ rest) ≡ 3 = rw three refl in
    single_first b (c ∷ d ∷ 32 ∷ rest) class.Operator e (operator_single (c ∷ d ∷ 32 ∷ rest)) ∙ ap (λ n. symbol_piece (take n (b ∷ c ∷ d ∷ 32 ∷ rest))) size

operator_stands : (o : Op) (rest : List ℕ) → IsPiece (symbol_piece (operator_text o)) (32 ∷ rest)
unfolding class_of operator_of operator_rows
operator_stands op.Tilde rest = piece_is (symbol_piece (operator_text op.Tilde)) (32 ∷ rest) 126 (32 ∷ rest) refl (one_byte 126 rest refl (λ xs. refl))
operator_stands op.Bang rest = piece_is (symbol_piece (operator_text op.Bang)) (32 ∷ rest) 33 (32 ∷ rest) refl (one_byte 33 rest refl (λ xs. refl))
operator_stands op.And rest = piece_is (symbol_piece (operator_text op.And)) (32 ∷ rest) 38 (32 ∷ rest) refl (one_byte 38 rest refl (λ xs. refl))
operator_stands op.Or rest = piece_is (symbol_piece (operator_text op.Or)) (32 ∷ rest) 124 (32 ∷ rest) refl (one_byte 124 rest refl (λ xs. refl))
operator_stands op.Xor rest = piece_is (symbol_piece (operator_text op.Xor)) (32 ∷ rest) 94 (32 ∷ rest) refl (one_byte 94 rest refl (λ xs. refl))
operator_stands op.Equal rest = piece_is (symbol_piece (operator_text op.Equal)) (32 ∷ rest) 61 (61 ∷ 32 ∷ rest) refl (two_bytes 61 61 rest refl refl refl)
operator_stands op.Unequal rest = piece_is (symbol_piece (operator_text op.Unequal)) (32 ∷ rest) 33 (61 ∷ 32 ∷ rest) refl (two_bytes 33 61 rest refl refl refl)
operator_stands op.CaseEqual rest = piece_is (symbol_piece (operator_text op.CaseEqual)) (32 ∷ rest) 61 (61 ∷ 61 ∷ 32 ∷ rest) refl (three_bytes 61 61 61 rest refl refl)
operator_stands op.CaseUnequal rest = piece_is (symbol_piece (operator_text op.CaseUnequal)) (32 ∷ rest) 33 (61 ∷ 61 ∷ 32 ∷ rest) refl (three_bytes 33 61 61 rest refl refl)
operator_stands op.TildeXor rest = piece_is (symbol_piece (operator_text op.TildeXor)) (32 ∷ rest) 126 (94 ∷ 32 ∷ rest) refl (two_bytes 126 94 rest refl refl refl)
operator_stands op.XorTilde rest = piece_is (symbol_piece (operator_text op.XorTilde)) (32 ∷ rest) 94 (126 ∷ 32 ∷ rest) refl (two_bytes 94 126 rest refl refl refl)
operator_stands op.AndAnd rest = piece_is (symbol_piece (operator_text op.AndAnd)) (32 ∷ rest) 38 (38 ∷ 32 ∷ rest) refl (two_bytes 38 38 rest refl refl refl)
operator_stands op.OrOr rest = piece_is (symbol_piece (operator_text op.OrOr)) (32 ∷ rest) 124 (124 ∷ 32 ∷ rest) refl (two_bytes 124 124 rest refl refl refl)

symbol_stands : (bytes : List ℕ) (o : Op) (after : List ℕ) → bytes ≡ operator_text o → IsSpaced after → IsPiece (symbol_piece bytes) after
symbol_stands bytes o [] e s = absurd s
symbol_stands bytes o (b ∷ bs) e s = subst (λ xs. IsPiece (symbol_piece xs) (b ∷ bs)) (sym e) (subst (λ x. IsPiece (symbol_piece (operator_text o)) (x ∷ bs)) (sym s) (operator_stands o bs))

-- ---- all of them

sound_stands : (p : Piece) (after : List ℕ) → IsSound p → MayPrecede p after → IsPiece p after
sound_stands (blank_piece b) after h k = blank_stands b after (gap_class b h)
sound_stands (line_comment inside) after h k = absurd h
sound_stands (block_comment inside) after h k = absurd h
sound_stands (open_comment inside) after h k = absurd h
sound_stands (word_piece ls) after h k = word_stands ls after h k
sound_stands (text_piece inside) after h k = text_stands inside after h
sound_stands (open_text inside) after h k = absurd h
sound_stands (symbol_piece bytes) after h k = symbol_stands bytes h.0 after h.1 k
sound_stands (mark_piece b) after h k = mark_stands b after (parenthesis_class b h)
sound_stands (bad_piece b) after h k = absurd h

pub sound_pieces : (ps : List Piece) → AreSound [] ps → ArePieces ps
sound_pieces [] h = tt
sound_pieces (p ∷ ps) h = (sound_stands p (spellings ps) h.0 (subst (λ xs. MayPrecede p xs) (append-nil (spellings ps)) h.1), sound_pieces ps h.2)

sound_good : (p : Piece) → IsSound p → is_bad p ≡ false
sound_good (blank_piece b) h = refl
sound_good (line_comment inside) h = refl
sound_good (block_comment inside) h = refl
sound_good (open_comment inside) h = refl
sound_good (word_piece ls) h = refl
sound_good (text_piece inside) h = refl
sound_good (open_text inside) h = refl
sound_good (symbol_piece bytes) h = refl
sound_good (mark_piece b) h = refl
sound_good (bad_piece b) h = absurd h

-- none of them is bad
pub none_bad : (at : ℕ) (after : List ℕ) (ps : List Piece) → AreSound after ps → first_bad at ps ≡ None
none_bad at after [] h = refl
none_bad at after (p ∷ ps) h = rw (sound_good p h.0) (none_bad (at + length (spelling p)) after ps h.2)
