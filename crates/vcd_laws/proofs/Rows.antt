-- The words of texts that are rows of words, each row a line.
use Rattle.std.specs.Prelude.{◌≡◌, ℕ, suc, ◌+◌, ◌&&◌, Bool, true, false, not, cond, nat_lt, All, List, [], ◌∷◌, ◌++◌, length, map, filter, refl}
use Rattle.std.specs.List.{list_all, slice_split}
use Rattle.std.proofs.Common.{sym, ◌∙◌, ap, subst}
use Rattle.std.proofs.lemmas.Bool.{and_parts}
use Rattle.std.proofs.lemmas.List.{append-nil, append_assoc}
use Rattle.std.proofs.lemmas.List.Elements.{All-cons, All-nil}
use Rattle.std.proofs.lemmas.List.Splits.{slice_split_at}
use Rattle.vcd_form.specs.Words.{is_blank, placed, words, words_from, Word}

abbrev pub is_long : List ℕ → Bool
is_long bytes = nat_lt 0 (length bytes)

-- the words' texts
abbrev pub pieces : List ℕ → List (List ℕ)
pieces text = filter is_long (slice_split is_blank text)

bytes_placed : (start : ℕ) (rows : List (List ℕ)) → map (λ (w : Word). w.bytes) (filter (λ (w : Word). nat_lt 0 (length w.bytes)) (placed start rows)) ≡ filter is_long rows
bytes_placed start [] = refl
bytes_placed start (row ∷ rows) = at (is_long row) (bytes_placed (suc (start + length row)) rows)
  where
    rest : List Word
    rest = filter (λ (w : Word). nat_lt 0 (length w.bytes)) (placed (suc (start + length row)) rows)

    at : (b : Bool) → map (λ (w : Word). w.bytes) rest ≡ filter is_long rows → map (λ (w : Word). w.bytes) (cond b (record { byte = start; bytes = row } ∷ rest) rest) ≡ cond b (row ∷ filter is_long rows) (filter is_long rows)
    at true e = ap (λ xs. row ∷ xs) e
    at false e = e

pub bytes_of_words : (text : List ℕ) → map (λ (w : Word). w.bytes) (words text) ≡ pieces text
unfolding words_from
bytes_of_words text = bytes_placed 0 (slice_split is_blank text)

-- ---- words

-- a word isn't empty and has no blank
abbrev pub is_word : List ℕ → Bool
is_word w = is_long w && list_all (λ b. not (is_blank b)) w

no_blank : (w : List ℕ) → list_all (λ b. not (is_blank b)) w ≡ true → All (λ b. is_blank b ≡ false) w
no_blank [] h = All-nil (λ b. is_blank b ≡ false)
no_blank (b ∷ bs) h =
    let p = and_parts (not (is_blank b)) (list_all (λ x. not (is_blank x)) bs) h in
    All-cons (λ x. is_blank x ≡ false) b bs (un_not (is_blank b) p.0) (no_blank bs p.1)
  where
    un_not : (c : Bool) → not c ≡ true → c ≡ false
    un_not true e = absurd (let q : false ≡ true = e in cc)
    un_not false e = refl

-- a word and the blank behind it
pub piece_first : (w : List ℕ) (b : ℕ) (rest : List ℕ) → is_word w ≡ true → is_blank b ≡ true → pieces (w ++ b ∷ rest) ≡ w ∷ pieces rest
piece_first w b rest h k =
    let p = and_parts (is_long w) (list_all (λ x. not (is_blank x)) w) h in
    ap (filter is_long) (slice_split_at is_blank w b rest (no_blank w p.1) k) ∙ ap (λ t. cond t (w ∷ pieces rest) (pieces rest)) p.0

-- ---- rows

-- words with a space between them, and a line feed behind the last
abbrev pub row : List (List ℕ) → List ℕ
row [] = []
row (w ∷ []) = w ++ 10 ∷ []
row (w ∷ v ∷ ws) = w ++ 32 ∷ row (v ∷ ws)

abbrev pub are_words : List (List ℕ) → Bool
are_words ws = list_all is_word ws

pub pieces_row : (ws : List (List ℕ)) (rest : List ℕ) → are_words ws ≡ true → pieces (row ws ++ rest) ≡ ws ++ pieces rest
pieces_row [] rest h = refl
pieces_row (w ∷ []) rest h =
    let p = and_parts (is_word w) (are_words []) h in
    ap pieces (append_assoc w (10 ∷ []) rest) ∙ piece_first w 10 rest p.0 refl
pieces_row (w ∷ v ∷ ws) rest h =
    let p = and_parts (is_word w) (are_words (v ∷ ws)) h in
    ap pieces (append_assoc w (32 ∷ row (v ∷ ws)) rest) ∙ (piece_first w 32 (row (v ∷ ws) ++ rest) p.0 refl ∙ ap (λ xs. w ∷ xs) (pieces_row (v ∷ ws) rest p.1))

-- a text of such rows: the words that stand before it stay before its words
pub record Spelled (text : List ℕ) (ws : List (List ℕ)) : Type 0 where
  pub before : (rest : List ℕ) → pieces (text ++ rest) ≡ ws ++ pieces rest

pub spelled_row : (ws : List (List ℕ)) → are_words ws ≡ true → Spelled (row ws) ws
spelled_row ws h = record { before = λ rest. pieces_row ws rest h }

pub spelled_none : Spelled [] []
spelled_none = record { before = λ rest. refl }

pub spelled_append : (a b : List ℕ) (ws vs : List (List ℕ)) → Spelled a ws → Spelled b vs → Spelled (a ++ b) (ws ++ vs)
spelled_append a b ws vs h k = record {
  before = λ rest. ap pieces (append_assoc a b rest) ∙ (h.before (b ++ rest) ∙ (ap (λ xs. ws ++ xs) (k.before rest) ∙ sym (append_assoc ws vs (pieces rest))));
}

pub spelled_same : (a b : List ℕ) (ws : List (List ℕ)) → a ≡ b → Spelled b ws → Spelled a ws
spelled_same a b ws e h = subst (λ t. Spelled t ws) (sym e) h

pub spelled_all : (text : List ℕ) (ws : List (List ℕ)) → Spelled text ws → pieces text ≡ ws
spelled_all text ws h = ap pieces (sym (append-nil text)) ∙ (h.before [] ∙ append-nil ws)
