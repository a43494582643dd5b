-- What a parenthesis, a word, parts and a parenthesis spell, one behind the other.
use Rattle.std.proofs.Common.{◌≡◌, ℕ, Bool, true, List, [], ◌∷◌, ◌++◌, length, refl, ap, inl, inr}
use Rattle.grammar.specs.Rule.{◌∙∙◌, ◌▸◌, ◌◂◌, mapped, only_if}
use Rattle.sdf_lex.specs.Tokens.{Lexeme}
use Rattle.sdf_tree.specs.declared.keywords.Keyword.{Keyword}
use Rattle.sdf_tree.specs.declared.keywords.Keyword.TheVariants as keyword
use Rattle.sdf_tree.specs.declared.words.Divider.{Divider}
use Rattle.sdf_tree.specs.Checks.{check}
use Rattle.sdf_tree.specs.Entries.{GroupBody, absolute_body, entry, group, group_body, group_body_parts, group_of, group_parts, increment_body}
use Rattle.sdf_tree.specs.Files.{PartBody, cell, cell_parts, cell_type, checks_body, delays_body, file_part, file_part_parts, head, instance, part, part_body, part_body_parts, part_of, part_parts}
use Rattle.sdf_tree.specs.Kinds.{is_left, is_right, is_word, kind_of}
use Rattle.sdf_tree.specs.Rules.{Grammar, either, many, mark}
use Rattle.sdf_tree.specs.Written.{Cell, Check, Entry, Group, Head, Instance, Part, a_cell, a_head, absolute, checks, delays, increment}
use Rattle.sdf_tree.proofs.Building as exact
use Rattle.sdf_tree.proofs.EntriesExact.{group_body-exact}
use Rattle.sdf_tree.proofs.FilesExact.{cell-exact, cell_type-exact, head-exact, instance-exact, part_body-exact}
use Rattle.sdf_tree.proofs.AllKinds.{apart}
use Rattle.sdf_windows.specs.Movable.{Moves, Says}
use Rattle.sdf_windows.proofs.Building as moves
use Rattle.sdf_windows.proofs.Checks.{check_moves}
use Rattle.sdf_windows.proofs.Entries.{entry_moves, group_body_moves, group_moves}
use Rattle.sdf_windows.proofs.Files.{cell_moves, cell_type_moves, head_moves, instance_moves, part_body_moves, part_moves}
use Rattle.sdf_windows.proofs.Joining.{at_end, in_front, joined, joined_before, joined_behind, mark_says, placed_says}

-- a word and what stands behind it
word_says : {A : Type 0} {r : Grammar A} → Moves r → (w : Keyword) (u : Lexeme) (ts : List Lexeme) (x : A) → is_word w (kind_of u) ≡ true → Says r ts x → Says (mark (is_word w) ▸ r) (u ∷ ts) x
word_says mr w u ts x e s = joined_behind kind_of (exact.the_word w) mr (u ∷ []) ts tt x (mark_says kind_of (is_word w) u e) s

-- in parentheses
inside_says : {A : Type 0} {r : Grammar A} → exact.IsExact r → Moves r → (t : Lexeme) (ts rs : List Lexeme) (x : A) → is_left (kind_of t) ≡ true → Says r ts x → Says (mark is_right) rs tt
    → Says (mark is_left ▸ (r ◂ mark is_right)) (t ∷ (ts ++ rs)) x
inside_says er mr t ts rs x left s right =
    joined_behind kind_of (exact.the_mark is_left) (moves.before mr (moves.the_mark is_right)) (t ∷ []) (ts ++ rs) tt x (mark_says kind_of is_left t left) (joined_before kind_of er (moves.the_mark is_right) ts rs x tt s right)

module _ (divider : Divider) (t u : Lexeme) (ts rs : List Lexeme) (left : is_left (kind_of t) ≡ true) (right : Says (mark is_right) rs tt) where
  -- ---- groups

  body_group : (b : GroupBody) → Says (group_body true divider) (u ∷ ts) b → Says (group true divider) (t ∷ u ∷ (ts ++ rs)) (group_of t.place b)
  unfolding group_parts
  body_group b s =
      ((t.place, b), refl, placed_says kind_of (λ (t : Lexeme). t.place) (mark is_left ▸ (group_body true divider ◂ mark is_right)) t (u ∷ (ts ++ rs)) b (inside_says (group_body-exact true divider) (group_body_moves true divider) t (u ∷ ts) rs b left s right))

  absolute_body_says : (xs : List Entry) → is_word keyword.Absolute (kind_of u) ≡ true → Says (many (entry true divider)) ts xs → Says (group_body true divider) (u ∷ ts) (absolute_body xs)
  unfolding group_body_parts
  absolute_body_says xs e s = inl (xs, refl, word_says (moves.repeated (entry_moves true divider)) keyword.Absolute u ts xs e s)

  increment_body_says : (xs : List Entry) → is_word keyword.Increment (kind_of u) ≡ true → Says (many (entry true divider)) ts xs → Says (group_body true divider) (u ∷ ts) (increment_body xs)
  unfolding group_body_parts
  increment_body_says xs e s = inr (inl (xs, refl, word_says (moves.repeated (entry_moves true divider)) keyword.Increment u ts xs e s))

  pub absolute_says : (xs : List Entry) → is_word keyword.Absolute (kind_of u) ≡ true → Says (many (entry true divider)) ts xs → Says (group true divider) (t ∷ u ∷ (ts ++ rs)) (absolute xs)
  absolute_says xs e s = body_group (absolute_body xs) (absolute_body_says xs e s)

  pub increment_says : (xs : List Entry) → is_word keyword.Increment (kind_of u) ≡ true → Says (many (entry true divider)) ts xs → Says (group true divider) (t ∷ u ∷ (ts ++ rs)) (increment xs)
  increment_says xs e s = body_group (increment_body xs) (increment_body_says xs e s)

  -- ---- parts of cells

  body_part : (b : PartBody) → Says (part_body true divider) (u ∷ ts) b → Says (part true divider) (t ∷ u ∷ (ts ++ rs)) (part_of t.place b)
  unfolding part_parts
  body_part b s =
      ((t.place, b), refl, placed_says kind_of (λ (t : Lexeme). t.place) (mark is_left ▸ (part_body true divider ◂ mark is_right)) t (u ∷ (ts ++ rs)) b (inside_says (part_body-exact true divider) (part_body_moves true divider) t (u ∷ ts) rs b left s right))

  delays_body_says : (xs : List Group) → is_word keyword.Delay (kind_of u) ≡ true → Says (many (group true divider)) ts xs → Says (part_body true divider) (u ∷ ts) (delays_body xs)
  unfolding part_body_parts
  delays_body_says xs e s = inl (xs, refl, word_says (moves.repeated (group_moves true divider)) keyword.Delay u ts xs e s)

  checks_body_says : (xs : List Check) → is_word keyword.TimingCheck (kind_of u) ≡ true → Says (many (check divider)) ts xs → Says (part_body true divider) (u ∷ ts) (checks_body xs)
  unfolding part_body_parts
  checks_body_says xs e s = inr (inl (xs, refl, word_says (moves.repeated (check_moves divider)) keyword.TimingCheck u ts xs e s))

  pub delays_says : (xs : List Group) → is_word keyword.Delay (kind_of u) ≡ true → Says (many (group true divider)) ts xs → Says (part true divider) (t ∷ u ∷ (ts ++ rs)) (delays xs)
  delays_says xs e s = body_part (delays_body xs) (delays_body_says xs e s)

  pub checks_says : (xs : List Check) → is_word keyword.TimingCheck (kind_of u) ≡ true → Says (many (check divider)) ts xs → Says (part true divider) (t ∷ u ∷ (ts ++ rs)) (checks xs)
  checks_says xs e s = body_part (checks_body xs) (checks_body_says xs e s)

-- ---- parts of files

-- a head, or a cell, is what stands in the parentheses of a part of a file
module _ (heads : Bool) (divider : Divider) (t : Lexeme) (ts rs : List Lexeme) (left : is_left (kind_of t) ≡ true) (right : Says (mark is_right) rs tt) where
  pub cell_part_says : (c : Cell) → Says (cell true divider) ts c → Says (file_part true (record { heads = heads; divider = divider })) (t ∷ (ts ++ rs)) (a_cell c)
  unfolding file_part_parts
  cell_part_says c s =
      let there = in_front kind_of (cell-exact true divider) ts rs c s in
      let inside : Says (either (mapped a_head (only_if heads head)) (mapped a_cell (cell true divider)) ◂ mark is_right) (ts ++ rs) (a_cell c) = ((a_cell c, tt), refl, (length ts, inr (c, refl, there), at_end (moves.the_mark is_right) ts rs tt right)) in
      joined_behind kind_of (exact.the_mark is_left) (moves.before (moves.or (moves.made a_head (moves.where_so heads head_moves)) (moves.made a_cell (cell_moves true divider))) (moves.the_mark is_right)) (t ∷ []) (ts ++ rs) tt (a_cell c) (mark_says kind_of is_left t left) inside

pub closed_head-exact : exact.IsExact (mark is_left ▸ (head ◂ mark is_right))
closed_head-exact = exact.behind (exact.the_mark is_left) (exact.before head-exact (exact.the_mark is_right) (apart _ _ (λ _ _. refl))) (exact.closed _)

-- a head in parentheses is a part of a file where heads may come
pub head_part_says : (divider : Divider) (ts : List Lexeme) (h : Head) → Says (mark is_left ▸ (head ◂ mark is_right)) ts h → Says (file_part true (record { heads = true; divider = divider })) ts (a_head h)
unfolding file_part_parts
head_part_says divider ts h (p, e, (m, opened, (q, f, (n, inside, behind)))) = ((p.0, a_head p.1), ap a_head e, (m, opened, ((a_head q.0, q.1), ap a_head f, (n, inl (q.0, refl, inside), behind))))

-- a cell from its parts
pub cell_says : (divider : Divider) (u : Lexeme) (ts us vs : List Lexeme) (cell_type_is : List ℕ) (instance_is : Instance) (ps : List Part) → is_word keyword.Cell (kind_of u) ≡ true
    → Says cell_type ts cell_type_is → Says (instance divider) us instance_is → Says (many (part true divider)) vs ps
    → Says (cell true divider) (u ∷ (ts ++ (us ++ vs))) (record { cell_type = cell_type_is; instance = instance_is; parts = ps })
unfolding cell_parts
cell_says divider u ts us vs ct i ps e s t v =
    let behind : Says (instance divider ∙∙ many (part true divider)) (us ++ vs) (i, ps) = joined kind_of (instance-exact divider) (moves.repeated (part_moves true divider)) us vs i ps t v in
    let all : Says (cell_type ∙∙ (instance divider ∙∙ many (part true divider))) (ts ++ (us ++ vs)) (ct, (i, ps)) =
    joined kind_of cell_type-exact (moves.then (instance_moves divider) (moves.repeated (part_moves true divider))) ts (us ++ vs) ct (i, ps) s behind
    in
    ((ct, (i, ps)), refl, word_says (moves.then cell_type_moves (moves.then (instance_moves divider) (moves.repeated (part_moves true divider)))) keyword.Cell u (ts ++ (us ++ vs)) (ct, (i, ps)) e all)
