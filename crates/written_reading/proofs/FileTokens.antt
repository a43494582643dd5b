-- The tokens of a file.
use Rattle.std.specs.Prelude.{◌≡◌, ℕ, ◌+◌, ◌<◌, ◌&&◌, ℤ, pos, negsuc, ◌+ℤ◌, Bool, true, false, List, [], ◌∷◌, ◌++◌, map, length, flat_map, Option, Some, None, codes}
use Rattle.std.specs.List.{AllByRecursion, list_all, range_with_len}
use Rattle.std.proofs.Common.{refl, sym, ap, subst, ◌∙◌, arith, int_eq}
use Rattle.std.proofs.lemmas.Int.{ints}
use Rattle.std.proofs.lemmas.Bool.{and_parts}
use Rattle.std.proofs.lemmas.Bool.Decides.{Decides-int_eq}
use Rattle.std.proofs.lemmas.List.{append_assoc}
use Rattle.std.proofs.lemmas.List.Folds.{list_all_at}
use Rattle.std.proofs.lemmas.List.FromFn.{get_or-range_with_len, length-range_with_len}
use Rattle.grammar.specs.Rule.{◌∙∙◌, ◌▸◌, ◌◂◌, mapped, only_if}
use Rattle.grammar.specs.States.{SpellsBy}
use Rattle.sg_circuit.specs.Circuit.{Circuit, scope_at}
use Rattle.sdf_lex.specs.Tokens.{Meaning, Lexeme, word_token, text_token, left_token, right_token}
use Rattle.sdf_tree.specs.declared.keywords.Keyword.{Keyword}
use Rattle.sdf_tree.specs.declared.keywords.Keyword.TheVariants as keyword
use Rattle.sdf_tree.specs.declared.words.Divider.{Divider}
use Rattle.sdf_tree.specs.declared.words.Divider.TheVariants.{Point, Slash}
use Rattle.sdf_tree.specs.Files.{cell, unit_parts, time_unit, head_parts, head, FileState, divider_after, state_after_part, file_part_parts, file_part, file_parts_parts, file_body, file}
use Rattle.sdf_tree.specs.Keywords.{keyword_of}
use Rattle.sdf_tree.specs.Kinds.{word_kind, is_left, is_right, is_word_that, is_text_word, is_value_word, is_divider, is_scale, is_unit, is_joined, divider_word, scale_word, unit_word, joined_word}
use Rattle.sdf_tree.specs.Rules.{Grammar, token, mark, word, either, optional}
use Rattle.sdf_tree.specs.Values.{text, numbers}
use Rattle.sdf_tree.specs.Written.{Part, Cell, Head, text_head, divider_head, unit_head, value_head, FilePart, a_head, a_cell}
use Rattle.written_model.specs.Names.{names_to}
use Rattle.written_model.specs.Text.{tick_text}
use Rattle.written_model.specs.Tree.{unless_empty, parts_of, cell_type_of, instance_of, cells_of, tree}
use Rattle.written_reading.specs.Meanings.{around, parts_meanings, instance_meanings, cell_head_meanings, cell_meanings, meanings}
use Rattle.written_reading.specs.Named.{IsTick}
use Rattle.written_reading.specs.Placeless as placeless
use Rattle.written_reading.proofs.CellTokens.{IsGoodScope, says_parts, tells_text, cell_words, says_cell}
use Rattle.written_reading.proofs.PortTokens.{tells_word}
use Rattle.written_reading.proofs.Spans.{Spans, split}
use Rattle.written_reading.proofs.Tells.{Tells, Says, tells_token, tells_mark, tells_image, tells_left, tells_right, tells_first, tells_second, tells_same}

file_word : keyword_of (codes "DELAYFILE") ≡ Some keyword.DelayFile
unfolding keyword_of
file_word = refl

version_word : keyword_of (codes "SDFVERSION") ≡ Some keyword.SdfVersion
unfolding keyword_of
version_word = refl

divider_keyword : keyword_of (codes "DIVIDER") ≡ Some keyword.Divider
unfolding keyword_of
divider_keyword = refl

scale_keyword : keyword_of (codes "TIMESCALE") ≡ Some keyword.TimeScale
unfolding keyword_of
scale_keyword = refl

-- ---- heads

abbrev text_heads : Grammar Head
text_heads = mapped (λ _. text_head) (mark (is_word_that is_text_word) ▸ text)

abbrev divider_heads : Grammar Head
divider_heads = mapped divider_head (word keyword.Divider ▸ token (λ t. divider_word t.meaning) is_divider)

abbrev unit_heads : Grammar Head
unit_heads = mapped unit_head (word keyword.TimeScale ▸ time_unit)

abbrev value_heads : Grammar Head
value_heads = mapped value_head (mark (is_word_that is_value_word) ▸ optional numbers)

abbrev version_words : List Meaning
version_words = word_token (codes "SDFVERSION") ∷ text_token (codes "3.0") ∷ []

abbrev divider_words : List Meaning
divider_words = word_token (codes "DIVIDER") ∷ word_token (codes "/") ∷ []

abbrev unit_words : ℤ → List Meaning
unit_words tick = word_token (codes "TIMESCALE") ∷ word_token (tick_text tick) ∷ []

tells_version : Tells head.language (λ h. h ≡ text_head) version_words
unfolding head_parts
tells_version =
    tells_left text_heads.language (either divider_heads (either unit_heads value_heads)).language (λ h. h ≡ text_head) version_words
    (tells_image (λ (x : List ℕ). text_head) (mark (is_word_that is_text_word) ▸ text).language (λ x. x ≡ codes "3.0") (λ h. h ≡ text_head) version_words
    (tells_second (mark (is_word_that is_text_word)).language text.language (λ u. Unit {0}) (λ x. x ≡ codes "3.0") (word_token (codes "SDFVERSION") ∷ []) (text_token (codes "3.0") ∷ [])
    (tells_mark (is_word_that is_text_word) (word_token (codes "SDFVERSION")) (ap (λ (o : Option Keyword). is_word_that is_text_word (word_kind o (codes "SDFVERSION"))) version_word)) (tells_text (codes "3.0")))
    (λ x p. refl))

tells_divider : Tells head.language (λ h. h ≡ divider_head Slash) divider_words
unfolding head_parts
tells_divider =
    tells_right text_heads.language (either divider_heads (either unit_heads value_heads)).language (λ h. h ≡ divider_head Slash) divider_words
    (tells_left divider_heads.language (either unit_heads value_heads).language (λ h. h ≡ divider_head Slash) divider_words
    (tells_image divider_head (word keyword.Divider ▸ token (λ t. divider_word t.meaning) is_divider).language (λ d. d ≡ Slash) (λ h. h ≡ divider_head Slash) divider_words
    (tells_second (word keyword.Divider).language (token (λ t. divider_word t.meaning) is_divider).language (λ u. Unit {0}) (λ d. d ≡ Slash) (word_token (codes "DIVIDER") ∷ []) (word_token (codes "/") ∷ []) (tells_word keyword.Divider (codes "DIVIDER") divider_keyword)
    (tells_token (λ t. divider_word t.meaning) is_divider (λ d. d ≡ Slash) (word_token (codes "/")) refl (λ t e. ap divider_word e)))
    (λ d e. ap (λ (x : Divider). divider_head x) e)))

is_own_unit : ℤ → Bool
is_own_unit tick = is_joined (word_kind None (tick_text tick)) && int_eq (joined_word (word_token (tick_text tick))) tick

passes : (p : ℕ → Bool) (n k : ℕ) → list_all p (range_with_len 0 n) ≡ true → k < n → p k ≡ true
passes p n k all l = by (p k) refl
  where
    by : (b : Bool) → p k ≡ b → b ≡ true
    by true e = refl
    by false e =
        let none = list_all_at p (range_with_len 0 n) k 0 (let lt : k < length (range_with_len 0 n) = omega (arith, l, length-range_with_len 0 n) in lt) (ap p (get_or-range_with_len 0 n k 0 l ∙ (let z : 0 + k ≡ k = omega arith in z)) ∙ e) in
        sym none ∙ all

units_up : list_all (λ k. is_own_unit (pos k)) (range_with_len 0 3) ≡ true
unfolding is_own_unit
units_up = refl

units_down : list_all (λ k. is_own_unit (negsuc k)) (range_with_len 0 15) ≡ true
unfolding is_own_unit
units_down = refl

own_unit : (tick : ℤ) → IsTick tick → is_own_unit tick ≡ true
own_unit (pos k) t = passes (λ k. is_own_unit (pos k)) 3 k units_up (let h = t.greatest in omega (arith, ints, h))
own_unit (negsuc k) t = passes (λ k. is_own_unit (negsuc k)) 15 k units_down (let h = t.least in omega (arith, ints, h))

record IsUnitWord (tick : ℤ) : Type 0 where
  is : is_joined (word_kind None (tick_text tick)) ≡ true
  means : joined_word (word_token (tick_text tick)) ≡ tick

of_units : (tick : ℤ) → IsTick tick → IsUnitWord tick
unfolding is_own_unit
of_units tick t =
    let p = and_parts (is_joined (word_kind None (tick_text tick))) (int_eq (joined_word (word_token (tick_text tick))) tick) (own_unit tick t) in
    record { is = p.0; means = (Decides-int_eq (joined_word (word_token (tick_text tick))) tick).0 p.1 }

tells_unit : (tick : ℤ) → IsTick tick → Tells head.language (λ h. h ≡ unit_head tick) (unit_words tick)
unfolding head_parts unit_parts
tells_unit tick is =
    tells_right text_heads.language (either divider_heads (either unit_heads value_heads)).language (λ h. h ≡ unit_head tick) (unit_words tick)
    (tells_right divider_heads.language (either unit_heads value_heads).language (λ h. h ≡ unit_head tick) (unit_words tick)
    (tells_left unit_heads.language value_heads.language (λ h. h ≡ unit_head tick) (unit_words tick)
    (tells_image unit_head (word keyword.TimeScale ▸ time_unit).language (λ u. u ≡ tick) (λ h. h ≡ unit_head tick) (unit_words tick)
    (tells_second (word keyword.TimeScale).language time_unit.language (λ u. Unit {0}) (λ u. u ≡ tick) (word_token (codes "TIMESCALE") ∷ []) (word_token (tick_text tick) ∷ []) (tells_word keyword.TimeScale (codes "TIMESCALE") scale_keyword)
    (tells_right (mapped (λ (x : ℕ × ℤ). pos x.0 +ℤ x.1) (token (λ t. scale_word t.meaning) is_scale ∙∙ token (λ t. unit_word t.meaning) is_unit)).language (token (λ t. joined_word t.meaning) is_joined).language (λ u. u ≡ tick) (word_token (tick_text tick) ∷ [])
    (tells_token (λ t. joined_word t.meaning) is_joined (λ u. u ≡ tick) (word_token (tick_text tick)) (of_units tick is).is (λ t e. ap joined_word e ∙ (of_units tick is).means))))
    (λ u e. ap (λ (x : ℤ). unit_head x) e))))

-- ---- parts of a file

abbrev heads_and_cells : FileState → Grammar FilePart
heads_and_cells s = either (mapped a_head (only_if s.heads head)) (mapped a_cell (cell true s.divider))

tells_file_part : (s : FileState) (P : FilePart → Type 0) (ms : List Meaning) → Tells (heads_and_cells s).language P ms → Tells (file_part true s).language P (left_token ∷ (ms ++ right_token ∷ []))
unfolding file_part_parts
tells_file_part s P ms t =
    tells_second (mark is_left).language (heads_and_cells s ◂ mark is_right).language (λ u. Unit {0}) P (left_token ∷ []) (ms ++ right_token ∷ []) (tells_mark is_left left_token refl)
    (tells_first (heads_and_cells s).language (mark is_right).language P (λ u. Unit {0}) ms (right_token ∷ []) t (tells_mark is_right right_token refl))

tells_head : (d : Divider) (h : Head) (ms : List Meaning) → Tells head.language (λ x. x ≡ h) ms → Tells (file_part true (record { heads = true; divider = d })).language (λ x. x ≡ a_head h) (left_token ∷ (ms ++ right_token ∷ []))
tells_head d h ms t =
    tells_file_part (record { heads = true; divider = d }) (λ x. x ≡ a_head h) ms
    (tells_left (mapped a_head head).language (mapped a_cell (cell true d)).language (λ x. x ≡ a_head h) ms
    (tells_image a_head head.language (λ x. x ≡ h) (λ x. x ≡ a_head h) ms t (λ x e. ap (λ (y : Head). a_head y) e)))

abbrev IsCellOf : Cell → FilePart → Type 0
IsCellOf made (a_head h) = ⊥
IsCellOf made (a_cell c) = placeless.cell c ≡ made

says_cell_part : (b : Bool) (made : Cell) (ms : List Meaning) → Says (cell true Slash).language placeless.cell made ms → Tells (file_part true (record { heads = b; divider = Slash })).language (IsCellOf made) (left_token ∷ (ms ++ right_token ∷ []))
says_cell_part b made ms t =
    tells_file_part (record { heads = b; divider = Slash }) (IsCellOf made) ms
    (tells_right (mapped a_head (only_if b head)).language (mapped a_cell (cell true Slash)).language (IsCellOf made) ms
    (tells_image a_cell (cell true Slash).language (λ c. placeless.cell c ≡ made) (IsCellOf made) ms t (λ c e. e)))

abbrev Parts : List Lexeme → FileState → ℕ → List FilePart → ℕ → Type 0
Parts ts s i ps j = SpellsBy (λ s. (file_part true s).language) state_after_part ts s i ps j

-- ---- cells, each by its scope

abbrev in_state : Bool → FileState
in_state b = record { heads = b; divider = Slash }

record Cells (ts : List Lexeme) (b : Bool) (made : List FilePart) (i j : ℕ) : Type 0 where
  parts : List FilePart
  spelled : Parts ts (in_state b) i parts j
  are : map placeless.file_part parts ≡ made

module _ (ts : List Lexeme) where
  -- behind one cell
  behind_cell : (b : Bool) (made : Cell) (more : List FilePart) (i m j : ℕ) (x : FilePart) → (file_part true (in_state b)).language.Spells ts i x m → IsCellOf made x → Cells ts false more m j → Cells ts b (a_cell made ∷ more) i j
  behind_cell b made more i m j (a_head h) s is rest = absurd is
  behind_cell b made more i m j (a_cell c) s is rest =
      record { parts = a_cell c ∷ rest.parts; spelled = (m, s, rest.spelled); are = ap (λ (x : Cell). a_cell x ∷ map placeless.file_part rest.parts) is ∙ ap (λ xs. a_cell made ∷ xs) rest.are }

  -- a scope with parts has a cell
  scope_cell : (b : Bool) (cell_of : List Part → Cell) (ps : List Part) (first last inner : List Meaning) → Tells (file_part true (in_state b)).language (IsCellOf (cell_of ps)) (first ++ (inner ++ last)) → (more : List FilePart) (i m j : ℕ)
      → Spans ts i (around ps first last inner) m → ((c : Bool) → Cells ts c more m j) → Cells ts b (unless_empty (λ qs. a_cell (cell_of qs)) ps ++ more) i j
  scope_cell b cell_of [] first last inner t more i m j s rest = subst (λ (k : ℕ). Cells ts b more k j) s (rest b)
  scope_cell b cell_of (p ∷ ps) first last inner t more i m j s rest = let r = t ts i m s in behind_cell b (cell_of (p ∷ ps)) more i m j r.0 r.1 r.2 (rest false)

module _ (c : Circuit) where
  abbrev module_type : ℕ → List ℕ
  module_type s = cell_type_of (scope_at c s).module_name

  abbrev cell_with : ℕ → List Part → Cell
  cell_with s ps = record { cell_type = module_type s; instance = instance_of (names_to c s); parts = ps }

  module _ (s : ℕ) (good : IsGoodScope c s) (b : Bool) where
    abbrev instance_end : List Meaning
    instance_end = instance_meanings (names_to c s) ++ right_token ∷ []

    cell_closed : (instance_end ++ parts_meanings c s) ++ right_token ∷ [] ≡ instance_end ++ (parts_meanings c s ++ right_token ∷ [])
    cell_closed = append_assoc instance_end (parts_meanings c s) (right_token ∷ [])

    abbrev the_words : List Meaning
    the_words = cell_words (module_type s) (names_to c s) good.names (parts_of c s) (parts_meanings c s) (says_parts c s good)

    tells_cell : Tells (file_part true (in_state b)).language (IsCellOf (cell_with s (parts_of c s))) (cell_head_meanings (scope_at c s).module_name (names_to c s) ++ (parts_meanings c s ++ right_token ∷ []))
    tells_cell =
        tells_same (file_part true (in_state b)).language (IsCellOf (cell_with s (parts_of c s))) (left_token ∷ (the_words ++ right_token ∷ [])) (cell_head_meanings (scope_at c s).module_name (names_to c s) ++ (parts_meanings c s ++ right_token ∷ []))
        (ap (λ (xs : List Meaning). left_token ∷ word_token (codes "CELL") ∷ left_token ∷ word_token (codes "CELLTYPE") ∷ text_token (module_type s) ∷ right_token ∷ left_token ∷ word_token (codes "INSTANCE") ∷ xs) cell_closed)
        (says_cell_part b (cell_with s (parts_of c s)) the_words (says_cell (module_type s) (names_to c s) good.names (parts_of c s) (parts_meanings c s) (says_parts c s good)))

  tells_cells : (ts : List Lexeme) (ss : List ℕ) → AllByRecursion (IsGoodScope c) ss → (i j : ℕ) → Spans ts i (flat_map (cell_meanings c) ss) j → (b : Bool) → Cells ts b (flat_map (cells_of c) ss) i j
  tells_cells ts [] good i j s b = record { parts = []; spelled = s; are = refl }
  tells_cells ts (s ∷ ss) good i j h b =
      let d = split ts i (cell_meanings c s) (flat_map (cell_meanings c) ss) j h in
      scope_cell ts b (cell_with s) (parts_of c s) (cell_head_meanings (scope_at c s).module_name (names_to c s)) (right_token ∷ []) (parts_meanings c s) (tells_cell s good.0 b) (flat_map (cells_of c) ss) i d.middle j d.front
      (λ k. tells_cells ts ss good.1 d.middle j d.back k)

-- ---- the file

module _ (c : Circuit) (tick : IsTick c.tick) (good : AllByRecursion (IsGoodScope c) (range_with_len 0 (length c.scopes))) where
  abbrev scopes : List ℕ
  scopes = range_with_len 0 (length c.scopes)

  abbrev made : List FilePart
  made = a_head text_head ∷ a_head (divider_head Slash) ∷ a_head (unit_head c.tick) ∷ flat_map (cells_of c) scopes

  abbrev version_part : List Meaning
  version_part = left_token ∷ (version_words ++ right_token ∷ [])

  abbrev divider_part : List Meaning
  divider_part = left_token ∷ (divider_words ++ right_token ∷ [])

  abbrev unit_part : List Meaning
  unit_part = left_token ∷ (unit_words c.tick ++ right_token ∷ [])

  -- a head, and what is behind it in the state that it leaves
  behind_head : (ts : List Lexeme) (d : Divider) (h : Head) (i m j : ℕ) (x : FilePart) (ps : List FilePart) → (file_part true (record { heads = true; divider = d })).language.Spells ts i x m → x ≡ a_head h
      → Parts ts (record { heads = true; divider = divider_after d h }) m ps j → Parts ts (record { heads = true; divider = d }) i (a_head h ∷ ps) j
  behind_head ts d h i m j x ps s e rest = (m, subst (λ (y : FilePart). (file_part true (record { heads = true; divider = d })).language.Spells ts i y m) e s, rest)

  tells_parts : Tells (file_parts_parts true).language (λ ps. map placeless.file_part ps ≡ made) (version_part ++ (divider_part ++ (unit_part ++ flat_map (cell_meanings c) scopes)))
  unfolding file_parts_parts
  tells_parts ts i j s =
      let d = split ts i version_part (divider_part ++ (unit_part ++ flat_map (cell_meanings c) scopes)) j s in
      let e = split ts d.middle divider_part (unit_part ++ flat_map (cell_meanings c) scopes) j d.back in
      let f = split ts e.middle unit_part (flat_map (cell_meanings c) scopes) j e.back in
      let v = tells_head Point text_head version_words tells_version ts i d.middle d.front in
      let w = tells_head Point (divider_head Slash) divider_words tells_divider ts d.middle e.middle e.front in
      let u = tells_head Slash (unit_head c.tick) (unit_words c.tick) (tells_unit c.tick tick) ts e.middle f.middle f.front in
      let q = tells_cells c ts scopes good f.middle j f.back true in
      let third = behind_head ts Slash (unit_head c.tick) e.middle f.middle j u.0 q.parts u.1 u.2 q.spelled in
      let second = behind_head ts Point (divider_head Slash) d.middle e.middle j w.0 (a_head (unit_head c.tick) ∷ q.parts) w.1 w.2 third in
      let first = behind_head ts Point text_head i d.middle j v.0 (a_head (divider_head Slash) ∷ a_head (unit_head c.tick) ∷ q.parts) v.1 v.2 second in
      (a_head text_head ∷ a_head (divider_head Slash) ∷ a_head (unit_head c.tick) ∷ q.parts, (first, refl), ap (λ (xs : List FilePart). a_head text_head ∷ a_head (divider_head Slash) ∷ a_head (unit_head c.tick) ∷ xs) q.are)

  pub tells_file : Tells (file true).language (λ ps. placeless.placeless ps ≡ tree c) (meanings c)
  unfolding file_body tree meanings
  tells_file =
      tells_second (mark is_left).language (word keyword.DelayFile ▸ (file_parts_parts true ◂ mark is_right)).language (λ u. Unit {0}) (λ ps. map placeless.file_part ps ≡ made) (left_token ∷ []) (word_token (codes "DELAYFILE") ∷ ((version_part ++ (divider_part ++ (unit_part ++ flat_map (cell_meanings c) scopes))) ++ right_token ∷ []))
      (tells_mark is_left left_token refl)
      (tells_second (word keyword.DelayFile).language (file_parts_parts true ◂ mark is_right).language (λ u. Unit {0}) (λ ps. map placeless.file_part ps ≡ made) (word_token (codes "DELAYFILE") ∷ []) ((version_part ++ (divider_part ++ (unit_part ++ flat_map (cell_meanings c) scopes))) ++ right_token ∷ [])
      (tells_word keyword.DelayFile (codes "DELAYFILE") file_word)
      (tells_first (file_parts_parts true).language (mark is_right).language (λ ps. map placeless.file_part ps ≡ made) (λ u. Unit {0}) (version_part ++ (divider_part ++ (unit_part ++ flat_map (cell_meanings c) scopes))) (right_token ∷ []) tells_parts (tells_mark is_right right_token refl)))
