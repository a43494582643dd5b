-- A file is read part by part.
use Rattle.std.proofs.Common.{◌≡◌, ◌∙◌, ℕ, ℤ, ◌^◌, ◌≤◌, Bool, true, false, List, [], ◌∷◌, ◌++◌, length, neg_ℤ, pos, refl, sym, ap, subst}
use Rattle.std.specs.Prelude.{Ok, nat_lt}
use Rattle.std.specs.List.{flat_map}
use Rattle.std.proofs.lemmas.Bool.{le-ltb}
use Rattle.std.proofs.lemmas.List.{append-nil, append_assoc}
use Rattle.grammar.specs.Rule.{◌▸◌, ◌◂◌}
use Rattle.grammar.specs.States.{SpellsBy, state_after}
use Rattle.sdf_lex.specs.Lexes.{Lexes, LexesFrom}
use Rattle.sdf_lex.specs.Tokens.{Lexeme}
use Rattle.sdf_lex.proofs.OneReading.{reads_end}
use Rattle.sdf_tree.specs.declared.keywords.Keyword.TheVariants as keyword
use Rattle.sdf_tree.specs.declared.words.Divider.{Divider}
use Rattle.sdf_tree.specs.declared.words.Divider.TheVariants.{Point}
use Rattle.sdf_tree.specs.Faults.{file_crossings, file_numbers}
use Rattle.sdf_tree.specs.Files.{FileState, file, file_body, file_part, file_parts_parts, first_state, head, state_after_part}
use Rattle.sdf_tree.specs.Kinds.{is_left, is_right, is_word, kind_of}
use Rattle.sdf_tree.specs.Meant.{Cell, cell_of, cells_in, dividers_in, last_or, sdf_of, units_in}
use Rattle.sdf_tree.specs.Rules.{mark}
use Rattle.sdf_tree.specs.Written.{FilePart, Head, a_cell, a_head, divider_head, text_head, unit_head, value_head}
use Rattle.sdf_tree.proofs.Building as exact
use Rattle.sdf_tree.proofs.FilesExact.{file_parts-exact}
use Rattle.sdf_windows.specs.Movable.{Says}
use Rattle.sdf_windows.proofs.Building as moves
use Rattle.sdf_windows.proofs.Files.{file_part_moves}
use Rattle.sdf_windows.proofs.Joining.{joined_before, joined_behind, mark_says, more_by}
use Rattle.sdf_read.specs.Depth.{AreShallow, depth_from}
use Rattle.sdf_read.specs.Outcomes.{is_spelled, meaning_of}
use Rattle.sdf_read.specs.Phases.{AreRead}
use Rattle.sdf_read.specs.Reads.{Reads, has_tokens}
use Rattle.sdf_stream.specs.Scans.{AreFine, IsCell}
use Rattle.sdf_stream.specs.Streams.{AreParts, EndsText, IsAmid, IsBegun, IsBehind, IsHead, IsOpened, IsTellable, with_head}
use Rattle.sdf_stream.specs.Told.{Told, told_in}
use Rattle.sdf_stream.specs.Windows.{Begins, HasMore, IsOne, Opened, Passed, seen}
use Rattle.sdf_stream.specs.declared.streams.Stream.{Stream}
use Rattle.sdf_stream.specs.declared.window.Window.{Window}
use Rattle.sdf_stream.proofs.Joined.{head_part_says}
use Rattle.sdf_stream.proofs.Passing.{depth_more, from_none, none_deep, shallow_more}
use Rattle.sdf_stream.proofs.Scanning.{fine_more, flat_last}

-- ---- places of a text

pub behind_on : (text : List ℕ) (before ts : List Lexeme) (a b : Window) → IsBehind text before a → Passed a b ts → IsBehind text (before ++ ts) b
behind_on text before ts a b p q = record {
  few = p.few;
  goes_on = λ o h. p.goes_on o (q.goes_on before o h);
  depth = q.depth ∙ (ap (λ (d : ℕ). depth_from d ts) p.depth ∙ sym (depth_more 0 before ts));
  shallow = shallow_more 0 before ts p.shallow (subst (λ (d : ℕ). AreShallow d ts) p.depth q.shallow);
}

pub begun : (text : List ℕ) (a b : Window) → a.at ≡ 0 → a.rest.now ≡ text → a.depth ≡ 0 → length text ≤ 2 ^ 28 → {more : Bool} → Opened a b more → Begins keyword.DelayFile (seen b) → IsBegun text b
begun text a b at rest depth few o w = record {
  left = w.0;
  word = w.1;
  tokens = w.2;
  opens = w.3;
  begins = w.4;
  behind = subst (λ (ts : List Lexeme). IsBehind text ts b) w.2 (behind_on text [] (seen b) a b start o.passed);
}
  where
    start : IsBehind text [] a
    start = record { few = few; goes_on = λ p h. subst (λ (n : ℕ). LexesFrom [] n text p) at (subst (λ (xs : List ℕ). LexesFrom [] a.at xs p) rest h); depth = depth; shallow = tt }

-- a head that was read whole
pub head_is : (a b : Window) (h : Head) → IsOne (mark is_left ▸ (head ◂ mark is_right)) a b h → AreFine (file_numbers (a_head h)) (file_crossings (a_head h)) → IsHead a b h
head_is a b h one fine = record { more = one.more; passed = one.passed; says = λ divider. head_part_says divider (seen a ++ one.more) h one.says; fine = fine }

-- ---- what parts say

last_more : {A : Type 0} (a : A) (xs ys : List A) → last_or a (xs ++ ys) ≡ last_or (last_or a xs) ys
last_more a [] ys = refl
last_more a (x ∷ xs) ys = last_more x xs ys

state_last : {S A : Type 0} (next : S → A → S) (s : S) (xs : List A) (x : A) → state_after next s (xs ++ x ∷ []) ≡ next (state_after next s xs) x
state_last next s [] x = refl
state_last next s (y ∷ ys) x = state_last next (next s y) ys x

module _ (ps : List FilePart) (p : FilePart) where
  unit_more : (sdf_of (ps ++ p ∷ [])).unit ≡ last_or (sdf_of ps).unit (units_in p)
  unit_more = ap (last_or (neg_ℤ (pos 9))) (flat_last units_in ps p) ∙ last_more (neg_ℤ (pos 9)) (flat_map units_in ps) (units_in p)

  divider_more : (sdf_of (ps ++ p ∷ [])).divider ≡ last_or (sdf_of ps).divider (dividers_in p)
  divider_more = ap (last_or Point) (flat_last dividers_in ps p) ∙ last_more Point (flat_map dividers_in ps) (dividers_in p)

  pub cells_more : (sdf_of (ps ++ p ∷ [])).cells ≡ (sdf_of ps).cells ++ cells_in p
  cells_more = flat_last cells_in ps p

  parts_fine : AreFine (flat_map file_numbers ps) (flat_map file_crossings ps) → AreFine (file_numbers p) (file_crossings p) → AreFine (flat_map file_numbers (ps ++ p ∷ [])) (flat_map file_crossings (ps ++ p ∷ []))
  parts_fine f g = rw (flat_last file_numbers ps p, flat_last file_crossings ps p) (fine_more (flat_map file_numbers ps) (file_numbers p) (flat_map file_crossings ps) (file_crossings p) f g)

-- ---- one more part

regrouped : (ts us vs ws : List Lexeme) → ((ts ++ us) ++ vs) ++ ws ≡ (ts ++ (us ++ vs)) ++ ws
regrouped ts us vs ws = ap (λ (xs : List Lexeme). xs ++ ws) (append_assoc ts us vs)

module _ (text : List ℕ) where
  -- none yet
  pub no_parts : (a b : Window) (more : Bool) → IsBegun text a → Opened a b more → AreParts text (seen b) b true (neg_ℤ (pos 9)) Point []
  no_parts a b more g o = record {
    left = g.left;
    word = g.word;
    tokens = [];
    opens = g.opens;
    begins = g.begins;
    behind = behind_on text (g.left ∷ g.word ∷ []) (seen b) a b g.behind o.passed;
    spelled = refl;
    state = refl;
    fine = record { numbers = refl; crossings = refl };
    unit_is = refl;
    divider_is = refl;
  }

  spelled_more : (ts us : List Lexeme) (ps : List FilePart) (p : FilePart) → SpellsBy (λ s. (file_part true s).language) state_after_part ts first_state 0 ps (length ts)
      → Says (file_part true (state_after state_after_part first_state ps)) us p → SpellsBy (λ s. (file_part true s).language) state_after_part (ts ++ us) first_state 0 (ps ++ p ∷ []) (length (ts ++ us))
  unfolding file_parts_parts
  spelled_more ts us ps p s t = more_by kind_of (file_part true) state_after_part first_state is_left (file_parts-exact true) (file_part_moves true) ts us ps p s t

  module _ (a b d : Window) (more heads : Bool) (unit : ℤ) (divider : Divider) (ps : List FilePart) (r : AreParts text (seen a) a heads unit divider ps) (us : List Lexeme) (q : Passed a b us) (o : Opened b d more) (p : FilePart) where
    part_more : Says (file_part true (record { heads = heads; divider = divider })) (seen a ++ us) p → AreFine (file_numbers p) (file_crossings p)
        → (after : FileState) → state_after_part (record { heads = heads; divider = divider }) p ≡ after → (u : ℤ) → last_or unit (units_in p) ≡ u → last_or divider (dividers_in p) ≡ after.divider
        → AreParts text (seen d) d after.heads u after.divider (ps ++ p ∷ [])
    part_more says fine after st u un di = record {
      left = r.left;
      word = r.word;
      tokens = r.tokens ++ (seen a ++ us);
      opens = r.opens;
      begins = r.begins;
      behind = subst (λ (ts : List Lexeme). IsBehind text (r.left ∷ r.word ∷ ts) d) (regrouped r.tokens (seen a) us (seen d))
          (behind_on text (r.left ∷ r.word ∷ ((r.tokens ++ seen a) ++ us)) (seen d) b d (behind_on text (r.left ∷ r.word ∷ (r.tokens ++ seen a)) us a b r.behind q) o.passed);
      spelled = spelled_more r.tokens (seen a ++ us) ps p r.spelled (subst (λ (s : FileState). Says (file_part true s) (seen a ++ us) p) (sym r.state) says);
      state = state_last state_after_part first_state ps p ∙ (ap (λ (s : FileState). state_after_part s p) r.state ∙ st);
      fine = parts_fine ps p r.fine fine;
      unit_is = unit_more ps p ∙ (ap (λ (n : ℤ). last_or n (units_in p)) r.unit_is ∙ un);
      divider_is = divider_more ps p ∙ (ap (λ (x : Divider). last_or x (dividers_in p)) r.divider_is ∙ di);
    }

  pub head_more : (a b d : Window) (more : Bool) (unit : ℤ) (divider : Divider) (ps : List FilePart) (h : Head) → AreParts text (seen a) a true unit divider ps → IsHead a b h → Opened b d more
      → AreParts text (seen d) d true (with_head unit divider h).0 (with_head unit divider h).1 (ps ++ a_head h ∷ [])
  head_more a b d more unit divider ps h r q o =
      part_more a b d more true unit divider ps r q.more q.passed o (a_head h) (q.says divider) q.fine (record { heads = true; divider = (with_head unit divider h).1 }) (state_is h) (with_head unit divider h).0 (unit_is h) (divider_is h)
    where
      state_is : (h : Head) → state_after_part (record { heads = true; divider = divider }) (a_head h) ≡ record { heads = true; divider = (with_head unit divider h).1 }
      state_is text_head = refl
      state_is (divider_head d) = refl
      state_is (unit_head u) = refl
      state_is (value_head v) = refl

      unit_is : (h : Head) → last_or unit (units_in (a_head h)) ≡ (with_head unit divider h).0
      unit_is text_head = refl
      unit_is (divider_head d) = refl
      unit_is (unit_head u) = refl
      unit_is (value_head v) = refl

      divider_is : (h : Head) → last_or divider (dividers_in (a_head h)) ≡ (with_head unit divider h).1
      divider_is text_head = refl
      divider_is (divider_head d) = refl
      divider_is (unit_head u) = refl
      divider_is (value_head v) = refl

  pub no_cells_more : (ps : List FilePart) (h : Head) → (sdf_of ps).cells ≡ [] → (sdf_of (ps ++ a_head h ∷ [])).cells ≡ []
  no_cells_more ps h e = cells_more ps (a_head h) ∙ (append-nil (sdf_of ps).cells ∙ e)

  -- no cell yet
  pub opened_amid : (s : Stream) (Came : List Told → Type 0) → Came [] → IsOpened text s → IsAmid text s.unit.power s.divider Came s.window s.more
  opened_amid s Came none o = record { parts = o.parts; heads = true; read = o.read; closes = o.closes; came = subst (λ (cells : List Cell). Came (flat_map told_in cells)) (sym o.no_cells) none }

  -- a cell more, and what was told
  pub cell_more : (Came One All : List Told → Type 0) (a b d : Window) (more : Bool) (unit : ℤ) (divider : Divider) → ((xs ys : List Told) → Came xs → One ys → All (xs ++ ys))
      → (m : Bool) → IsAmid text unit divider Came a m → IsCell divider One a b → Opened b d more → IsAmid text unit divider All d more
  cell_more Came One All a b d more unit divider on m r q o = record {
    parts = r.parts ++ a_cell q.cell ∷ [];
    heads = false;
    read = part_more a b d more r.heads unit divider r.parts r.read q.more q.passed o (a_cell q.cell) (q.says r.heads) q.fine (record { heads = false; divider = divider }) refl unit refl refl;
    closes = o.closes;
    came = subst All (sym told_is) (on (flat_map told_in (sdf_of r.parts).cells) (told_in (cell_of q.cell)) r.came q.came);
  }
    where
      told_is : flat_map told_in (sdf_of (r.parts ++ a_cell q.cell ∷ [])).cells ≡ flat_map told_in (sdf_of r.parts).cells ++ told_in (cell_of q.cell)
      told_is = ap (flat_map told_in) (cells_more r.parts (a_cell q.cell)) ∙ flat_last told_in (sdf_of r.parts).cells (cell_of q.cell)

  -- ---- the end

  file_says : (t u : Lexeme) (ts rs : List Lexeme) (ps : List FilePart) → is_left (kind_of t) ≡ true → is_word keyword.DelayFile (kind_of u) ≡ true
      → SpellsBy (λ s. (file_part true s).language) state_after_part ts first_state 0 ps (length ts) → Says (mark is_right) rs tt → Says (file true) (t ∷ u ∷ (ts ++ rs)) ps
  unfolding file_body file_parts_parts
  file_says t u ts rs ps left word s right =
      let parts_move = moves.by_state is_left (file_part true) state_after_part (λ s. true) (file_part_moves true) first_state in
      let inside = joined_before kind_of (file_parts-exact true) (moves.the_mark is_right) ts rs ps tt (s, refl) right in
      let behind = joined_behind kind_of (exact.the_word keyword.DelayFile) (moves.before parts_move (moves.the_mark is_right)) (u ∷ []) (ts ++ rs) tt ps (mark_says kind_of (is_word keyword.DelayFile) u word) inside in
      joined_behind kind_of (exact.the_mark is_left) (moves.behind (moves.the_word keyword.DelayFile) (moves.before parts_move (moves.the_mark is_right))) (t ∷ []) (u ∷ (ts ++ rs)) tt ps (mark_says kind_of is_left t left) behind

  pub ends_text : (a c d : Window) → Passed a c [] → seen c ≡ [] → HasMore c d false → EndsText a
  ends_text a c d p none h = λ before.
      (from_none a c d p none h.grown).goes_on before (Ok before) (rw (no_token (seen d) ((h.none refl).1 ∙ ap length none), append-nil before, no_byte d.rest.now (h.none refl).0) (reads_end before d.at))
    where
      no_token : (ts : List Lexeme) → length ts ≡ 0 → ts ≡ []
      no_token [] e = refl
      no_token (t ∷ ts) e = absurd cc

      no_byte : (bs : List ℕ) → length bs ≡ 0 → bs ≡ []
      no_byte [] e = refl
      no_byte (b ∷ bs) e = absurd cc

  lexed : (before : List Lexeme) (a : Window) → IsBehind text before a → EndsText a → Lexes text (Ok before)
  lexed before a p ends =
      let small : nat_lt (2 ^ 28) (length text) ≡ false = le-ltb (2 ^ 28) (length text) p.few in
      rw small (p.goes_on (Ok before) (ends before))

  pub told_all : (Came : List Told → Type 0) (a : Window) (unit : ℤ) (divider : Divider) {more : Bool} → IsAmid text unit divider Came a more → more ≡ false → EndsText a → IsTellable text unit divider Came
  told_all Came a unit divider r done ends = record {
    parts = r.parts;
    read = (
      p.left ∷ p.word ∷ (p.tokens ++ seen a),
      lexed (p.left ∷ p.word ∷ (p.tokens ++ seen a)) a p.behind ends,
      (none_deep (p.left ∷ p.word ∷ (p.tokens ++ seen a)) p.behind.shallow, file_says p.left p.word p.tokens (seen a) r.parts p.opens p.begins p.spelled (r.closes done)),
    );
    fine = rw (p.fine.numbers, p.fine.crossings) refl;
    unit_is = p.unit_is;
    divider_is = p.divider_is;
    came = r.came;
  }
    where
      p : AreParts text (seen a) a r.heads unit divider r.parts
      p = r.read

-- what such parts mean is what the file is
pub reads_parts : (text : List ℕ) (ps : List FilePart) → AreRead text ps → meaning_of ps ≡ Ok (sdf_of ps) → Reads text (Ok (sdf_of ps))
reads_parts text ps (ts, l, s) m = has_tokens ts l (is_spelled s.0 ps s.1 (sym m))
