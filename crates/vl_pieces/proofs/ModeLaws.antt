-- What is found in a mode is a piece of that mode.
use Rattle.std.proofs.Common.{◌≡◌, ℕ, zero, suc, ◌+◌, ◌<◌, ◌≤◌, List, [], ◌∷◌, length, take, drop, true, false, refl, sym, ap, ◌∙◌, arith, inl, inr}
use Rattle.std.specs.Prelude.{Option, Some, None, ◌==◌, ◌&&◌, not, nat_eq, codes}
use Rattle.std.specs.List.{list_all, prefix_len}
use lib.Pointwise.{pointwise}
use Rattle.std.proofs.lemmas.Bool.{cases_Bool, eqb-true, and_parts, false_from_ne_true}
use Rattle.std.proofs.lemmas.List.{length-take, length-take-le}
use Rattle.vl_pieces.specs.Bytes.{is_inline, first_of}
use Rattle.vl_pieces.specs.Pieces.{class_of, where_so, is_alone}
use Rattle.vl_pieces.specs.Modes.{is_value_byte, edge_class, begins_name_byte, is_endtable, cell_of, cell_or, cell_from, table_class, class_in, IsPiece}
use Rattle.vl_pieces.specs.PieceBridge.{slash_piece, piece_of, edge_piece, cell_piece, table_piece, line_piece, piece_in}
use Rattle.vl_pieces.specs.declared.bytes.First.{First}
use Rattle.vl_pieces.specs.declared.bytes.First.TheVariants.{Blank, Letter, Backslash, Dollar, Quote, Tick, Apostrophe, Slash, Paren, Mark, Bad}
use Rattle.vl_pieces.specs.declared.pieces.Class.{Class}
use Rattle.vl_pieces.specs.declared.pieces.Class.TheVariants as class
use Rattle.vl_pieces.specs.declared.modes.Mode.{Mode}
use Rattle.vl_pieces.specs.declared.modes.Mode.TheVariants.{Plain, AfterEdge, Edges, Table, EdgesTable, Line}
use Rattle.vl_pieces.proofs.PieceLaws.{Stands, Makes, piece_under, single, run_stands, not_alone, slash_makes, pointwise_len, piece_at_front}

-- ---- edge lists

edge_same : (a b : ℕ) (bs : List ℕ) → (is_value_byte a && is_value_byte b) ≡ false → (m : ℕ) (after : List ℕ) → edge_class (take m (a ∷ b ∷ bs)) after ≡ class_of (take m (a ∷ b ∷ bs)) after
edge_same a b bs h zero after = refl
edge_same a b bs h (suc zero) after = refl
edge_same a b bs h (suc (suc zero)) after = rw h refl
edge_same a b [] h (suc (suc (suc m))) after = rw h refl
edge_same a b (c ∷ cs) h (suc (suc (suc m))) after = rw h refl

alone_same : (a m : ℕ) (after : List ℕ) → edge_class (take m (a ∷ [])) after ≡ class_of (take m (a ∷ [])) after
alone_same a zero after = refl
alone_same a (suc zero) after = refl
alone_same a (suc (suc m)) after = refl

-- a piece as elsewhere
edge_plain : (text : List ℕ) (n : ℕ) (c : Class) → ((m : ℕ) (after : List ℕ) → edge_class (take m text) after ≡ class_of (take m text) after) → IsPiece Plain text n c → IsPiece Edges text n c
edge_plain text n c same p = record {
  within = p.within;
  form = same n (drop n text) ∙ p.form;
  longest = λ m lt le. same m (drop m text) ∙ p.longest m lt le;
}

pair_longest : (a b : ℕ) (bs : List ℕ) → (is_value_byte a && is_value_byte b) ≡ true → (m : ℕ) → 2 < m → m ≤ length (a ∷ b ∷ bs) → edge_class (take m (a ∷ b ∷ bs)) (drop m (a ∷ b ∷ bs)) ≡ None
pair_longest a b bs y zero lt le = absurd (omega arith)
pair_longest a b bs y (suc zero) lt le = absurd (omega arith)
pair_longest a b bs y (suc (suc zero)) lt le = absurd (omega arith)
pair_longest a b [] y (suc (suc (suc m))) lt le = absurd (omega arith)
pair_longest a b (c ∷ cs) y (suc (suc (suc m))) lt le = rw y refl

edge_front : (text : List ℕ) → 0 < length text → IsPiece Edges text (edge_piece text).1 (edge_piece text).0
edge_front [] lt = absurd (omega arith)
edge_front (a ∷ []) lt = edge_plain (a ∷ []) (piece_of (a ∷ [])).1 (piece_of (a ∷ [])).0 (alone_same a) (piece_at_front (a ∷ []) lt)
edge_front (a ∷ b ∷ bs) lt = elim (cases_Bool (is_value_byte a && is_value_byte b)) [
  | inl y ↦ rw y (record { within = omega arith; form = rw y refl; longest = pair_longest a b bs y })
  | inr n ↦ rw n (edge_plain (a ∷ b ∷ bs) (piece_of (a ∷ b ∷ bs)).1 (piece_of (a ∷ b ∷ bs)).0 (edge_same a b bs n) (piece_at_front (a ∷ b ∷ bs) lt))
]

-- ---- tables

slash_cell : (bs : List ℕ) → Makes (cell_from Slash) bs (cell_of (slash_piece bs).0, (slash_piece bs).1)
slash_cell bs =
    let m = slash_makes bs in
    let s = m.stands in
    record {
      tail = m.tail;
      size = m.size;
      stands = record { within = s.within; form = ap cell_or s.form; longest = λ k lt le. ap cell_or (s.longest k lt le) };
    }

one_cell : (f : First) (bs : List ℕ) → ((xs after : List ℕ) → cell_from f xs after ≡ where_so (is_alone xs) class.Cell) → Makes (cell_from f) bs (class.Cell, 1)
one_cell f bs same = single (cell_from f) bs class.Cell (same []) (λ x xs after. same (x ∷ xs) after)

cell_makes : (f : First) (bs : List ℕ) → Makes (cell_from f) bs (cell_piece f bs)
cell_makes Blank bs = single (cell_from Blank) bs class.Gap (λ after. refl) (λ x xs after. refl)
cell_makes Letter bs = one_cell Letter bs (λ xs after. refl)
cell_makes Backslash bs = one_cell Backslash bs (λ xs after. refl)
cell_makes Dollar bs = one_cell Dollar bs (λ xs after. refl)
cell_makes Quote bs = one_cell Quote bs (λ xs after. refl)
cell_makes Tick bs = one_cell Tick bs (λ xs after. refl)
cell_makes Apostrophe bs = one_cell Apostrophe bs (λ xs after. refl)
cell_makes Slash bs = slash_cell bs
cell_makes Paren bs = one_cell Paren bs (λ xs after. refl)
cell_makes Mark bs = one_cell Mark bs (λ xs after. refl)
cell_makes Bad bs = single (cell_from Bad) bs class.BadByte (λ after. refl) (λ x xs after. refl)

-- the word has eight bytes
eight : (bytes after : List ℕ) → is_endtable bytes after ≡ true → length bytes ≡ 8
eight bytes after h = pointwise_len bytes (codes "endtable") (and_parts (pointwise nat_eq bytes (codes "endtable")) (not (begins_name_byte after)) h).0

not_eight : (bytes after : List ℕ) → (length bytes ≡ 8 → ⊥) → is_endtable bytes after ≡ false
not_eight bytes after ne = false_from_ne_true (is_endtable bytes after) (λ h. ne (eight bytes after h))

nowhere : (text : List ℕ) → is_endtable (take 8 text) (drop 8 text) ≡ false → (m : ℕ) → m ≤ length text → is_endtable (take m text) (drop m text) ≡ false
nowhere text h m le = false_from_ne_true (is_endtable (take m text) (drop m text)) (λ t.
    let e : m ≡ 8 = sym (length-take-le m text le) ∙ eight (take m text) (drop m text) t in
    let f : is_endtable (take 8 text) (drop 8 text) ≡ true = rw e at t in
    let no : true ≡ false = sym f ∙ h in
    cc)

table_cell : (b : ℕ) (bs : List ℕ) (size : ℕ) (c : Class) → is_endtable (take 8 (b ∷ bs)) (drop 8 (b ∷ bs)) ≡ false → (n : ℕ) → size ≡ suc n → Stands (cell_from (first_of b)) bs n c → IsPiece Table (b ∷ bs) size c
table_cell b bs size c h n e s = rw e (record {
  within = let w = s.within in omega arith;
  form = let w = s.within in rw (nowhere (b ∷ bs) h (suc n) (omega arith)) s.form;
  longest = longer;
})
  where
    longer : (m : ℕ) → suc n < m → m ≤ length (b ∷ bs) → table_class (take m (b ∷ bs)) (drop m (b ∷ bs)) ≡ None
    longer zero lt le = absurd (omega arith)
    longer (suc m) lt le = rw (nowhere (b ∷ bs) h (suc m) le) (s.longest m (omega arith) (omega arith))

first_letter : (b : ℕ) (bs after : List ℕ) → is_endtable (b ∷ bs) after ≡ true → b ≡ 101
first_letter b bs after h =
    let word = (and_parts (pointwise nat_eq (b ∷ bs) (codes "endtable")) (not (begins_name_byte after)) h).0 in
    eqb-true b 101 (and_parts (nat_eq b 101) (pointwise nat_eq bs (codes "ndtable")) word).0

word_longest : (b : ℕ) (bs : List ℕ) → b ≡ 101 → (m : ℕ) → 8 < m → m ≤ length (b ∷ bs) → table_class (take m (b ∷ bs)) (drop m (b ∷ bs)) ≡ None
word_longest b bs e zero lt le = absurd (omega arith)
word_longest b bs e (suc m) lt le =
    let size = length-take-le (suc m) (b ∷ bs) le in
    let other : is_endtable (b ∷ take m bs) (drop m bs) ≡ false = not_eight (b ∷ take m bs) (drop m bs) (λ k. omega arith) in
    rw other (rw e (not_alone bs m class.Cell (omega arith) (omega arith)))

table_word : (b : ℕ) (bs : List ℕ) → is_endtable (take 8 (b ∷ bs)) (drop 8 (b ∷ bs)) ≡ true → IsPiece Table (b ∷ bs) 8 class.Name
table_word b bs h =
    let size = eight (take 8 (b ∷ bs)) (drop 8 (b ∷ bs)) h in
    record {
      within = omega (arith, length-take 8 (b ∷ bs));
      form = rw h refl;
      longest = word_longest b bs (first_letter b (take 7 bs) (drop 7 bs) h);
    }

table_front : (text : List ℕ) → 0 < length text → IsPiece Table text (table_piece text).1 (table_piece text).0
table_front [] lt = absurd (omega arith)
table_front (b ∷ bs) lt = elim (cases_Bool (is_endtable (take 8 (b ∷ bs)) (drop 8 (b ∷ bs)))) [
  | inl y ↦ rw y (table_word b bs y)
  | inr n ↦ let m = cell_makes (first_of b) bs in rw n (table_cell b bs (cell_piece (first_of b) bs).1 (cell_piece (first_of b) bs).0 n m.tail m.size m.stands)
]

-- ---- lines

line_front : (text : List ℕ) → 0 < length text → IsPiece Line text (line_piece text).1 (line_piece text).0
line_front [] lt = absurd (omega arith)
line_front (b ∷ bs) lt = elim (cases_Bool (b == 10)) [
  | inl y ↦
      let F : List ℕ → List ℕ → Option Class = λ xs after. where_so (is_alone xs) class.Gap in
      let m : Makes F bs (class.Gap, 1) = single F bs class.Gap (λ after. refl) (λ x xs after. refl) in
      rw y (piece_under Line F b bs m.tail 1 class.Gap (λ xs after. rw y refl) m.size m.stands)
  | inr n ↦
      rw n (piece_under Line (λ xs after. where_so (list_all is_inline xs) class.Line) b bs (prefix_len is_inline bs) (1 + prefix_len is_inline bs) class.Line
      (λ xs after. rw n refl) (omega arith) (run_stands is_inline class.Line bs))
]

pub piece_in_front : (mode : Mode) (text : List ℕ) → 0 < length text → IsPiece mode text (piece_in mode text).1 (piece_in mode text).0
piece_in_front Plain text lt = piece_at_front text lt
piece_in_front AfterEdge text lt = let p = piece_at_front text lt in record { within = p.within; form = p.form; longest = p.longest }
piece_in_front Edges text lt = edge_front text lt
piece_in_front Table text lt = table_front text lt
piece_in_front EdgesTable text lt = let p = table_front text lt in record { within = p.within; form = p.form; longest = p.longest }
piece_in_front Line text lt = line_front text lt

-- nothing has no form, so that a piece has a byte
nothing_in : (mode : Mode) (after : List ℕ) → class_in mode [] after ≡ None
nothing_in Plain after = refl
nothing_in AfterEdge after = refl
nothing_in Edges after = refl
nothing_in Table after = refl
nothing_in EdgesTable after = refl
nothing_in Line after = refl

pub piece_some : (mode : Mode) (text : List ℕ) (n : ℕ) (c : Class) → IsPiece mode text n c → 0 < n
piece_some mode text zero c p = absurd (let h : None ≡ Some c = sym (nothing_in mode text) ∙ p.form in cc)
piece_some mode text (suc n) c p = omega arith
