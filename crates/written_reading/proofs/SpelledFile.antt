-- The pieces of a file spell its text.
use Rattle.std.proofs.Common.{◌≡◌, ℕ, ◌<◌, ℤ, List, [], ◌∷◌, ◌++◌, length, map, refl, sym, ap, ◌∙◌, arith}
use Rattle.std.specs.Prelude.{codes, flat_map}
use Rattle.std.specs.List.{range_with_len}
use Rattle.std.proofs.lemmas.List.{append-nil, append_assoc, length-append}
use Rattle.sdf_lex.specs.Pieces.{Piece, spellings}
use Rattle.sdf_lex.specs.Words.{spelled}
use Rattle.sdf_tree.specs.Written.{absolute, delays, checks as checks_part}
use Rattle.sg_circuit.specs.Circuit.{Circuit, scope_at}
use Rattle.written_model.specs.Entries.{legs, paths, checks}
use Rattle.written_model.specs.Names.{names_to}
use Rattle.written_model.specs.Text as text
use Rattle.written_model.specs.Text.{leg_text, path_text, check_text, enclosed, delay_lines, check_lines, parts_text, instance_text, cell_line, cell_text, tick_text, head_line}
use Rattle.written_model.specs.Tree.{leg_entry, path_entry, check_of, unless_empty, delay_entries, check_entries, parts_of, cell_type_of}
use Rattle.written_reading.specs.Meanings.{around}
use Rattle.written_reading.specs.Pieces.{names_letters, line_end, right, leg_pieces, path_pieces, check_pieces, line, delays_pieces, checks_pieces, delay_front, check_front, parts_pieces, instance_pieces, cell_head_pieces, cell_pieces, head_pieces, pieces}
use Rattle.written_reading.proofs.NameTexts.{names_spelled}
use Rattle.written_reading.proofs.SoundFile.{IsWritable}
use Rattle.written_reading.proofs.SpelledEntries.{joined, worded, each_spelled, leg_spelled, path_spelled, check_spelled}
use Rattle.written_reading.proofs.Writable.{IsLeg, IsPath, IsCheck}

-- ---- lists that are enclosed unless they are empty

-- a list and a text that are empty at once
abbrev SameEmpty : {A : Type 0} → List A → List ℕ → Type 0
SameEmpty [] bytes = bytes ≡ []
SameEmpty (e ∷ es) bytes = 0 < length bytes

enclosed_is : {A : Type 0} (es : List A) (first last inner : List ℕ) → SameEmpty es inner → enclosed first last inner ≡ around es first last inner
enclosed_is [] first last inner h = ap (λ bytes. enclosed first last bytes) h
enclosed_is (e ∷ es) first last [] h = absurd (omega arith)
enclosed_is (e ∷ es) first last (b ∷ bs) h = refl

around_spelled : {A : Type 0} (es : List A) (first last inner : List Piece) {f l i : List ℕ} → spellings first ≡ f → spellings last ≡ l → spellings inner ≡ i → spellings (around es first last inner) ≡ around es f l i
around_spelled [] first last inner e g h = refl
around_spelled (x ∷ xs) first last inner e g h = joined first (inner ++ last) e (joined inner last h g)

enclosed_spelled : {A : Type 0} (es : List A) (first last inner : List Piece) {f l i : List ℕ} → spellings first ≡ f → spellings last ≡ l → spellings inner ≡ i → SameEmpty es i
    → spellings (around es first last inner) ≡ enclosed f l i
enclosed_spelled es first last inner {f} {l} {i} e g h same = around_spelled es first last inner e g h ∙ sym (enclosed_is es f l i same)

-- a line has a byte
lines_same : {A B : Type 0} (f : A → B) (t : A → List ℕ) (xs : List A) → SameEmpty (map f xs) (flat_map (λ x. text.line (t x)) xs)
lines_same f t [] = refl
lines_same f t (x ∷ xs) = omega (arith, length-append (t x ++ 10 ∷ []) (flat_map (λ y. text.line (t y)) xs), length-append (t x) (10 ∷ []))

two_lines_same : {A B C : Type 0} (f : A → C) (g : B → C) (t : A → List ℕ) (u : B → List ℕ) (xs : List A) (ys : List B)
    → SameEmpty (map f xs ++ map g ys) (flat_map (λ x. text.line (t x)) xs ++ flat_map (λ y. text.line (u y)) ys)
two_lines_same f g t u [] ys = lines_same g u ys
two_lines_same f g t u (x ∷ xs) ys =
    let front = lines_same f t (x ∷ xs) in
    omega (arith, length-append (flat_map (λ y. text.line (t y)) (x ∷ xs)) (flat_map (λ y. text.line (u y)) ys))

around_some : {A : Type 0} (e : A) (es : List A) (first inner : List ℕ) (b : ℕ) (bs : List ℕ) → 0 < length (around (e ∷ es) first (b ∷ bs) inner)
around_some e es first inner b bs = omega (arith, length-append first (inner ++ b ∷ bs), length-append inner (b ∷ bs))

two_around_same : {A B C : Type 0} (f : List A → C) (g : List B → C) (xs : List A) (ys : List B) (first second inner other : List ℕ) (b c : ℕ) (bs cs : List ℕ)
    → SameEmpty (unless_empty f xs ++ unless_empty g ys) (around xs first (b ∷ bs) inner ++ around ys second (c ∷ cs) other)
two_around_same f g [] [] first second inner other b c bs cs = refl
two_around_same f g [] (y ∷ ys) first second inner other b c bs cs = around_some y ys second other c cs
two_around_same f g (x ∷ xs) ys first second inner other b c bs cs =
    let front = around_some x xs first inner b bs in
    omega (arith, length-append (around (x ∷ xs) first (b ∷ bs) inner) (around ys second (c ∷ cs) other))

-- ---- parts

line_spelled : (ps : List Piece) (x : List ℕ) → spellings ps ≡ x → spellings (line ps) ≡ text.line x
line_spelled ps x e = joined ps (line_end ∷ []) e refl

delays_spelled : (c : Circuit) (s : ℕ) → IsWritable c s → spellings (delays_pieces c s) ≡ delay_lines c s
delays_spelled c s h =
    let vs = (scope_at c s).variables in
    joined (flat_map (λ e. line (leg_pieces vs e)) (legs c s)) (flat_map (λ e. line (path_pieces vs e)) (paths c s))
    (each_spelled (IsLeg vs) (λ e. line (leg_pieces vs e)) (λ e. text.line (leg_text vs e)) (legs c s) (λ e k. line_spelled (leg_pieces vs e) (leg_text vs e) (leg_spelled vs e)) h.legs)
    (each_spelled (IsPath vs) (λ e. line (path_pieces vs e)) (λ e. text.line (path_text vs e)) (paths c s) (λ e k. line_spelled (path_pieces vs e) (path_text vs e) (path_spelled vs e k.condition)) h.paths)

checks_spelled : (c : Circuit) (s : ℕ) → IsWritable c s → spellings (checks_pieces c s) ≡ check_lines c s
checks_spelled c s h =
    let vs = (scope_at c s).variables in
    each_spelled (IsCheck vs) (λ e. line (check_pieces vs e)) (λ e. text.line (check_text vs e)) (checks c s) (λ e k. line_spelled (check_pieces vs e) (check_text vs e) (check_spelled vs e k)) h.checks

delays_same : (c : Circuit) (s : ℕ) → SameEmpty (delay_entries c s) (delay_lines c s)
delays_same c s =
    let vs = (scope_at c s).variables in
    two_lines_same (leg_entry vs) (path_entry vs) (leg_text vs) (path_text vs) (legs c s) (paths c s)

checks_same : (c : Circuit) (s : ℕ) → SameEmpty (check_entries c s) (check_lines c s)
checks_same c s = let vs = (scope_at c s).variables in lines_same (check_of vs) (check_text vs) (checks c s)

parts_spelled : (c : Circuit) (s : ℕ) → IsWritable c s → spellings (parts_pieces c s) ≡ parts_text c s
parts_spelled c s h =
    joined (around (delay_entries c s) delay_front (right ∷ right ∷ line_end ∷ []) (delays_pieces c s)) (around (check_entries c s) check_front (right ∷ line_end ∷ []) (checks_pieces c s))
    (enclosed_spelled (delay_entries c s) delay_front (right ∷ right ∷ line_end ∷ []) (delays_pieces c s) refl refl (delays_spelled c s h) (delays_same c s))
    (enclosed_spelled (check_entries c s) check_front (right ∷ line_end ∷ []) (checks_pieces c s) refl refl (checks_spelled c s h) (checks_same c s))

parts_same : (c : Circuit) (s : ℕ) → SameEmpty (parts_of c s) (parts_text c s)
parts_same c s =
    let one = enclosed_is (delay_entries c s) (codes "(DELAY (ABSOLUTE" ++ 10 ∷ []) (codes "))" ++ 10 ∷ []) (delay_lines c s) (delays_same c s) in
    let two = enclosed_is (check_entries c s) (codes "(TIMINGCHECK" ++ 10 ∷ []) (codes ")" ++ 10 ∷ []) (check_lines c s) (checks_same c s) in
    rw (one, two) (two_around_same (λ es. delays (absolute es ∷ [])) (λ es. checks_part es) (delay_entries c s) (check_entries c s) (codes "(DELAY (ABSOLUTE" ++ 10 ∷ []) (codes "(TIMINGCHECK" ++ 10 ∷ []) (delay_lines c s) (check_lines c s) 41 41 (41 ∷ 10 ∷ []) (10 ∷ []))

-- ---- cells

instance_spelled : (names : List (List ℕ)) → spellings (instance_pieces names) ≡ instance_text names
instance_spelled [] = refl
instance_spelled (n ∷ ns) = ap (λ xs. 32 ∷ xs) (append-nil (spelled (names_letters (n ∷ ns))) ∙ names_spelled (n ∷ ns))

regrouped : (kind q names : List ℕ) → (kind ++ 34 ∷ []) ++ (q ++ (names ++ 41 ∷ 10 ∷ [])) ≡ (kind ++ (34 ∷ (q ++ (names ++ 41 ∷ [])))) ++ 10 ∷ []
regrouped kind q names = simp append_assoc

cell_head_spelled : (module_name : List ℕ) (names : List (List ℕ))
    → spellings (cell_head_pieces module_name names) ≡ text.line (codes "(CELL (CELLTYPE \"" ++ (cell_type_of module_name ++ (codes "\") (INSTANCE" ++ (instance_text names ++ codes ")"))))
cell_head_spelled module_name names =
    let kind = cell_type_of module_name in
    let last : spellings (instance_pieces names ++ right ∷ line_end ∷ []) ≡ instance_text names ++ 41 ∷ 10 ∷ [] = joined (instance_pieces names) (right ∷ line_end ∷ []) (instance_spelled names) refl in
    ap (λ xs. codes "(CELL (CELLTYPE \"" ++ ((kind ++ 34 ∷ []) ++ (codes ") (INSTANCE" ++ xs))) last ∙ ap (λ xs. codes "(CELL (CELLTYPE \"" ++ xs) (regrouped kind (codes ") (INSTANCE") (instance_text names))

cell_spelled : (c : Circuit) (s : ℕ) → IsWritable c s → spellings (cell_pieces c s) ≡ cell_text c s
cell_spelled c s h =
    enclosed_spelled (parts_of c s) (cell_head_pieces (scope_at c s).module_name (names_to c s)) (right ∷ line_end ∷ []) (parts_pieces c s) (cell_head_spelled (scope_at c s).module_name (names_to c s)) refl (parts_spelled c s h) (parts_same c s)

-- ---- the file

head_spelled : (tick : ℤ) → spellings (head_pieces tick) ≡ head_line tick
head_spelled tick =
    ap (λ xs. codes "(DELAYFILE (SDFVERSION \"3.0\") (DIVIDER /) (TIMESCALE " ++ xs) (worded (tick_text tick) (right ∷ line_end ∷ []) refl ∙ sym (append_assoc (tick_text tick) (41 ∷ []) (10 ∷ [])))

pub file_spelled : (c : Circuit) → ((s : ℕ) → IsWritable c s) → spellings (pieces c) ≡ text.text c
unfolding pieces text.text
file_spelled c h =
    joined (head_pieces c.tick) (flat_map (cell_pieces c) (range_with_len 0 (length c.scopes)) ++ right ∷ line_end ∷ []) (head_spelled c.tick)
    (joined (flat_map (cell_pieces c) (range_with_len 0 (length c.scopes))) (right ∷ line_end ∷ []) (each (range_with_len 0 (length c.scopes))) refl)
  where
    each : (ss : List ℕ) → spellings (flat_map (cell_pieces c) ss) ≡ flat_map (cell_text c) ss
    each [] = refl
    each (s ∷ ss) = joined (cell_pieces c s) (flat_map (cell_pieces c) ss) (cell_spelled c s (h s)) (each ss)
