-- Each rule of heads, cells and files is read exactly.
use Rattle.std.proofs.Common.{◌≡◌, Bool, true, false, refl}
use Rattle.std.specs.Prelude.{◌&&◌, ◌||◌, not, is_some}
use Rattle.std.proofs.lemmas.Bool.{and_parts, and_right}
use Rattle.grammar.specs.Exact.{Apart}
use Rattle.grammar.proofs.Laws.{only_if-exact, many_by-exact}
use Rattle.sdf_tree.specs.declared.keywords.Keyword.TheVariants as keyword
use Rattle.sdf_tree.specs.declared.words.Divider.{Divider}
use Rattle.sdf_tree.specs.Files.{is_skipped_part, part_body_parts, part_body, part_parts, part, cell_type_parts, cell_type, instance_path, instance_parts, instance, cell_parts, cell, unit_parts, time_unit, head_parts, head_starts, head, FileState, state_after_part, file_part_parts, file_part, first_state, file_parts_parts, file_body, file}
use Rattle.sdf_tree.specs.Kinds.{word_kind, kind_of, is_left, is_right, is_star, is_select, is_word, is_word_that, is_text_word, is_value_word, is_instance, is_divider, is_scale, is_unit, is_joined}
use Rattle.sdf_tree.specs.Values.{balanced_parts, numbers_continue}
use Rattle.sdf_tree.specs.Words.{scale_power, joined_power}
use Rattle.sdf_tree.proofs.AllKinds.{apart, apart_next, is_within, is_covered}
use Rattle.sdf_tree.proofs.Building.{IsExact, the_token, the_mark, the_word, then, made, behind, before, called, with_place, or, perhaps, repeated, closed, same}
use Rattle.sdf_tree.proofs.ChecksExact.{check-exact}
use Rattle.sdf_tree.proofs.EntriesExact.{group-exact}
use Rattle.sdf_tree.proofs.ValuesExact.{text-exact, numbers-exact, balanced-exact}

-- ---- cells

pub part_body-exact : (limited : Bool) (divider : Divider) → IsExact (part_body limited divider)
unfolding part_body_parts balanced_parts
part_body-exact limited divider =
    let delays = behind (the_word keyword.Delay) (repeated (group-exact limited divider) refl (closed _)) (closed _) in
    let checks = behind (the_word keyword.TimingCheck) (repeated (check-exact divider) refl (closed _)) (closed _) in
    let skipped = before (the_token _ is_skipped_part) balanced-exact (closed _) in
    let others = or (made _ checks) (made _ skipped) refl refl (apart _ _ (λ _ _. refl)) in
    called _ _ (or (made _ delays) others refl refl (apart _ _ (λ _ _. refl))) refl (same _) (is_covered _ _ (λ _ _. refl))

pub part-exact : (limited : Bool) (divider : Divider) → IsExact (part limited divider)
unfolding part_parts
part-exact limited divider = called _ _ (made _ (with_place (behind (the_mark is_left) (before (part_body-exact limited divider) (the_mark is_right) (apart_next _ _ (λ _ _. refl))) (closed _)) refl)) refl (same _) (same _)

pub cell_type-exact : IsExact cell_type
unfolding cell_type_parts
cell_type-exact = called _ _ (behind (the_mark is_left) (behind (the_word keyword.CellType) (before text-exact (the_mark is_right) (closed _)) (closed _)) (closed _)) refl (same _) (same _)

pub instance_path-exact : (divider : Divider) → IsExact (instance_path divider)
instance_path-exact divider = made _ (before (the_token _ (is_instance divider)) (perhaps (the_mark is_select) refl) (closed _))

pub instance-exact : (divider : Divider) → IsExact (instance divider)
unfolding instance_parts
instance-exact divider =
    let which = or (made _ (the_mark is_star)) (instance_path-exact divider) refl refl (apart _ _ (λ _ _. refl)) in
    let inside = behind (the_word keyword.Instance) (before (perhaps which refl) (the_mark is_right) (apart_next _ _ (λ _ _. refl))) (closed _) in
    called _ _ (made _ (behind (the_mark is_left) inside (closed _))) refl (same _) (same _)

pub cell-exact : (limited : Bool) (divider : Divider) → IsExact (cell limited divider)
unfolding cell_parts
cell-exact limited divider =
    let parts = repeated (part-exact limited divider) refl (closed _) in
    let inside = then cell_type-exact (then (instance-exact divider) parts (closed _)) (closed _) in
    called _ _ (made _ (behind (the_word keyword.Cell) inside (closed _))) refl (same _) (is_within _ _ (λ _ _. refl))

-- ---- heads

not_joined : (b c : Bool) → b ≡ true → (not b && c) ≡ true → ⊥
not_joined true c p q = cc
not_joined false c p q = cc

scale_apart : Apart is_scale is_joined
scale_apart (word_kind o text) p q = not_joined (is_some (scale_power text)) (is_some (joined_power text)) p q
scale_apart _ p q = absurd cc

pub time_unit-exact : IsExact time_unit
unfolding unit_parts
time_unit-exact =
    let apart_words = then (the_token _ is_scale) (the_token _ is_unit) (closed _) in
    called _ _ (or (made _ apart_words) (the_token _ is_joined) refl refl scale_apart) refl (same _) (is_within _ _ (λ _ _. refl))

pub head-exact : IsExact head
unfolding head_parts
head-exact =
    let of_text = behind (the_mark (is_word_that is_text_word)) text-exact (closed _) in
    let divider = behind (the_word keyword.Divider) (the_token _ is_divider) (closed _) in
    let unit = behind (the_word keyword.TimeScale) time_unit-exact (closed _) in
    let value = behind (the_mark (is_word_that is_value_word)) (perhaps numbers-exact refl) (closed _) in
    let others = or (made _ divider) (or (made _ unit) (made _ value) refl refl (apart _ _ (λ _ _. refl))) refl refl (apart _ _ (λ _ _. refl)) in
    called _ _ (or (made _ of_text) others refl refl (apart _ _ (λ _ _. refl))) refl (same _) (is_covered _ _ (λ _ _. refl))

-- ---- files

heads_apart : (b : Bool) → Apart (λ k. b && head_starts k) (is_word keyword.Cell)
heads_apart b k p q = apart head_starts (is_word keyword.Cell) (λ _ _. refl) k (and_parts b (head_starts k) p).1 q

pub file_part-exact : (limited : Bool) (s : FileState) → IsExact (file_part limited s)
unfolding file_part_parts
file_part-exact limited s =
    let heads = made _ (only_if-exact kind_of s.heads _ head-exact) in
    let inside = or heads (made _ (cell-exact limited s.divider)) (and_right s.heads false refl) refl (heads_apart s.heads) in
    called _ _ (behind (the_mark is_left) (before inside (the_mark is_right) (inside_closed s.heads)) (closed _)) refl (same _) (same _)
  where
    inside_closed : (b : Bool) → Apart (λ k. (b && numbers_continue k) || is_left k) is_right
    inside_closed true = apart_next _ _ (λ _ _. refl)
    inside_closed false = apart_next _ _ (λ _ _. refl)

pub file_parts-exact : (limited : Bool) → IsExact (file_parts_parts limited)
unfolding file_parts_parts
file_parts-exact limited = many_by-exact kind_of is_left (file_part limited) state_after_part (λ s. true) (file_part-exact limited) (λ s. refl) (λ s x k p q. absurd cc) (λ s e k p. p) (λ s k p. absurd cc) first_state

pub file-exact : (limited : Bool) → IsExact (file limited)
unfolding file_body file_parts_parts
file-exact limited = called _ _ (behind (the_mark is_left) (behind (the_word keyword.DelayFile) (before (file_parts-exact limited) (the_mark is_right) (apart _ _ (λ _ _. refl))) (closed _)) (closed _)) refl (same _) (same _)
