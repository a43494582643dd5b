-- What the tokens of a file mean.
use Rattle.std.proofs.Common.{◌≡◌, ℕ, ◌/◌, ◌%◌, ℤ, pos, List, [], ◌∷◌, ◌++◌, length, Bool, true, false, refl, ap, ◌∙◌}
use Rattle.std.specs.Prelude.{◌==◌, ◌-ℤ◌, nat_abs, codes, flat_map, if◌then◌else◌}
use Rattle.std.specs.List.{range_with_len}
use Rattle.std.proofs.lemmas.List.{append-nil}
use Rattle.sg_circuit.specs.Circuit.{Circuit, scope_at}
use Rattle.sdf_lex.specs.Pieces.{Piece, word_piece, tokens}
use Rattle.sdf_lex.specs.Tokens.{Meaning, word_token, text_token, left_token, right_token}
use Rattle.written_model.specs.Entries.{legs, paths, checks}
use Rattle.written_model.specs.Names.{names_to, names_text}
use Rattle.written_model.specs.Text.{text_below, tick_text}
use Rattle.written_model.specs.Tree.{cell_type_of, delay_entries, check_entries, parts_of}
use Rattle.written_reading.specs.Meanings as meanings
use Rattle.written_reading.specs.Meanings.{around, leg_meanings, path_meanings, check_meanings, delays_meanings, checks_meanings, parts_meanings, instance_meanings, cell_head_meanings, cell_meanings, head_meanings}
use Rattle.written_reading.specs.Pieces.{names_letters, word, line_end, right, leg_pieces, path_pieces, check_pieces, line, delays_pieces, checks_pieces, delay_front, check_front, parts_pieces, instance_pieces, cell_head_pieces, cell_pieces, head_pieces, pieces}
use Rattle.written_reading.proofs.MeantEntries.{one_meant, each_meant, leg_meant, path_meant, check_meant}
use Rattle.written_reading.proofs.MeantPieces.{means, meant, means_tokens, meant_joined, names_meant}
use Rattle.written_reading.proofs.SoundFile.{IsWritable}
use Rattle.written_reading.proofs.Writable.{IsLeg, IsPath, IsCheck}

line_meant : (ps : List Piece) (x : List Meaning) → flat_map meant ps ≡ x → flat_map meant (line ps) ≡ x
line_meant ps x e = meant_joined ps (line_end ∷ []) e refl ∙ append-nil x

around_meant : {A : Type 0} (es : List A) (first last inner : List Piece) {f l i : List Meaning} → flat_map meant first ≡ f → flat_map meant last ≡ l → flat_map meant inner ≡ i
    → flat_map meant (around es first last inner) ≡ around es f l i
around_meant [] first last inner e g h = refl
around_meant (x ∷ xs) first last inner e g h = meant_joined first (inner ++ last) e (meant_joined inner last h g)

-- ---- cells

delays_meant : (c : Circuit) (s : ℕ) → IsWritable c s → flat_map meant (delays_pieces c s) ≡ delays_meanings c s
delays_meant c s h =
    let vs = (scope_at c s).variables in
    meant_joined (flat_map (λ e. line (leg_pieces vs e)) (legs c s)) (flat_map (λ e. line (path_pieces vs e)) (paths c s))
    (each_meant (IsLeg vs) (λ e. line (leg_pieces vs e)) (leg_meanings vs) (legs c s) (λ e k. line_meant (leg_pieces vs e) (leg_meanings vs e) (leg_meant vs e k)) h.legs)
    (each_meant (IsPath vs) (λ e. line (path_pieces vs e)) (path_meanings vs) (paths c s) (λ e k. line_meant (path_pieces vs e) (path_meanings vs e) (path_meant vs e k)) h.paths)

checks_meant : (c : Circuit) (s : ℕ) → IsWritable c s → flat_map meant (checks_pieces c s) ≡ checks_meanings c s
checks_meant c s h =
    let vs = (scope_at c s).variables in
    each_meant (IsCheck vs) (λ e. line (check_pieces vs e)) (check_meanings vs) (checks c s) (λ e k. line_meant (check_pieces vs e) (check_meanings vs e) (check_meant vs e k)) h.checks

parts_meant : (c : Circuit) (s : ℕ) → IsWritable c s → flat_map meant (parts_pieces c s) ≡ parts_meanings c s
parts_meant c s h =
    meant_joined (around (delay_entries c s) delay_front (right ∷ right ∷ line_end ∷ []) (delays_pieces c s)) (around (check_entries c s) check_front (right ∷ line_end ∷ []) (checks_pieces c s))
    (around_meant (delay_entries c s) delay_front (right ∷ right ∷ line_end ∷ []) (delays_pieces c s) refl refl (delays_meant c s h))
    (around_meant (check_entries c s) check_front (right ∷ line_end ∷ []) (checks_pieces c s) refl refl (checks_meant c s h))

instance_meant : (names : List (List ℕ)) → flat_map meant (instance_pieces names ++ right ∷ line_end ∷ []) ≡ instance_meanings names ++ right_token ∷ []
instance_meant [] = refl
instance_meant (n ∷ ns) = one_meant (word_piece (names_letters (n ∷ ns))) (right ∷ line_end ∷ []) (word_token (names_text (n ∷ ns))) (names_meant (n ∷ ns)) refl

head_meant : (module_name : List ℕ) (names : List (List ℕ)) → flat_map meant (cell_head_pieces module_name names) ≡ cell_head_meanings module_name names
head_meant module_name names =
    ap (λ ys. left_token ∷ word_token (codes "CELL") ∷ left_token ∷ word_token (codes "CELLTYPE") ∷ text_token (cell_type_of module_name) ∷ right_token ∷ left_token ∷ word_token (codes "INSTANCE") ∷ ys) (instance_meant names)

cell_meant : (c : Circuit) (s : ℕ) → IsWritable c s → flat_map meant (cell_pieces c s) ≡ cell_meanings c s
cell_meant c s h =
    around_meant (parts_of c s) (cell_head_pieces (scope_at c s).module_name (names_to c s)) (right ∷ line_end ∷ []) (parts_pieces c s) (head_meant (scope_at c s).module_name (names_to c s)) refl (parts_meant c s h)

-- ---- the file

abbrev IsOne : List ℕ → Type 0
IsOne text = meant (word text) ≡ word_token text ∷ []

abbrev unit : (p q r s t : Bool) → List ℕ
unit p q r s t = if p then codes "s" else if q then codes "ms" else if r then codes "us" else if s then codes "ns" else if t then codes "ps" else codes "fs"

tick_meant : (n : ℕ) → meant (word (text_below n)) ≡ word_token (text_below n) ∷ []
tick_meant n = by (n % 3 == 0) (n % 3 == 1) (n / 3 == 0) (n / 3 == 1) (n / 3 == 2) (n / 3 == 3) (n / 3 == 4)
  where
    units : (count : List ℕ) → IsOne (count ++ codes "s") → IsOne (count ++ codes "ms") → IsOne (count ++ codes "us") → IsOne (count ++ codes "ns") → IsOne (count ++ codes "ps") → IsOne (count ++ codes "fs")
        → (p q r s t : Bool) → IsOne (count ++ unit p q r s t)
    units count a b c d e f true q r s t = a
    units count a b c d e f false true r s t = b
    units count a b c d e f false false true s t = c
    units count a b c d e f false false false true t = d
    units count a b c d e f false false false false true = e
    units count a b c d e f false false false false false = f

    by : (h k p q r s t : Bool) → IsOne ((if h then codes "100" else if k then codes "10" else codes "1") ++ unit p q r s t)
    by true k p q r s t = units (codes "100") refl refl refl refl refl refl p q r s t
    by false true p q r s t = units (codes "10") refl refl refl refl refl refl p q r s t
    by false false p q r s t = units (codes "1") refl refl refl refl refl refl p q r s t

first_meant : (tick : ℤ) → flat_map meant (head_pieces tick) ≡ head_meanings tick
first_meant tick =
    ap (λ ys. left_token ∷ word_token (codes "DELAYFILE") ∷ left_token ∷ word_token (codes "SDFVERSION") ∷ text_token (codes "3.0") ∷ right_token ∷ left_token ∷ word_token (codes "DIVIDER") ∷ word_token (codes "/") ∷ right_token ∷ left_token
    ∷ word_token (codes "TIMESCALE") ∷ ys)
    (one_meant (word (tick_text tick)) (right ∷ line_end ∷ []) (word_token (tick_text tick)) (tick_meant (nat_abs (pos 2 -ℤ tick))) refl)

file_meant : (c : Circuit) → ((s : ℕ) → IsWritable c s) → flat_map meant (pieces c) ≡ meanings.meanings c
unfolding pieces meanings.meanings
file_meant c h =
    meant_joined (head_pieces c.tick) (flat_map (cell_pieces c) (range_with_len 0 (length c.scopes)) ++ right ∷ line_end ∷ []) (first_meant c.tick)
    (meant_joined (flat_map (cell_pieces c) (range_with_len 0 (length c.scopes))) (right ∷ line_end ∷ []) (each (range_with_len 0 (length c.scopes))) refl)
  where
    each : (ss : List ℕ) → flat_map meant (flat_map (cell_pieces c) ss) ≡ flat_map (cell_meanings c) ss
    each [] = refl
    each (s ∷ ss) = meant_joined (cell_pieces c s) (flat_map (cell_pieces c) ss) (cell_meant c s (h s)) (each ss)

-- the meanings of the tokens of a circuit's pieces
pub tokens_mean : (c : Circuit) (at : ℕ) → ((s : ℕ) → IsWritable c s) → means (tokens at (pieces c)) ≡ meanings.meanings c
tokens_mean c at h = means_tokens at (pieces c) ∙ file_meant c h
