-- Each rule of the timing checks of cells is read exactly.
use Rattle.std.proofs.Common.{refl}
use Rattle.sdf_tree.specs.declared.words.Divider.{Divider}
use Rattle.sdf_tree.specs.Checks.{terminal_rest_parts, terminal_rest, terminal_parts, terminal, is_pair, is_window, is_single, is_skipped_check, two_terminals_parts, two_terminals, check_body_parts, check_body, check_parts, check}
use Rattle.sdf_tree.specs.Kinds.{is_left, is_right}
use Rattle.sdf_tree.specs.Values.{balanced_parts}
use Rattle.sdf_tree.proofs.AllKinds.{apart, apart_next, is_within, is_covered}
use Rattle.sdf_tree.proofs.Building.{IsExact, the_token, the_mark, then, made, behind, before, called, with_place, or, closed, same}
use Rattle.sdf_tree.proofs.EntriesExact.{spec-exact, cond-exact}
use Rattle.sdf_tree.proofs.ValuesExact.{value-exact, port-exact, edge_word-exact, balanced-exact}

pub terminal_rest-exact : (divider : Divider) → IsExact (terminal_rest divider)
unfolding terminal_rest_parts
terminal_rest-exact divider =
    let with_edge = then edge_word-exact (before (port-exact divider) (the_mark is_right) (apart _ _ (λ _ _. refl))) (closed _) in
    let conditional = then cond-exact (before (spec-exact divider) (the_mark is_right) (apart _ _ (λ _ _. refl))) (apart _ _ (λ _ _. refl)) in
    called _ _ (or (made _ with_edge) (made _ conditional) refl refl (apart _ _ (λ _ _. refl))) refl (same _) (is_within _ _ (λ _ _. refl))

pub terminal-exact : (divider : Divider) → IsExact (terminal divider)
unfolding terminal_parts
terminal-exact divider =
    let inside = behind (the_mark is_left) (terminal_rest-exact divider) (closed _) in
    called _ _ (or (made _ (port-exact divider)) inside refl refl (apart_next _ _ (λ _ _. refl))) refl (same _) (is_within _ _ (λ _ _. refl))

pub two_terminals-exact : (divider : Divider) → IsExact (two_terminals divider)
unfolding two_terminals_parts
two_terminals-exact divider =
    let one = terminal-exact divider in
    called _ _ (then one (then one value-exact (apart _ _ (λ _ _. refl))) (apart _ _ (λ _ _. refl))) refl (same _) (is_within _ _ (λ _ _. refl))

pub check_body-exact : (divider : Divider) → IsExact (check_body divider)
unfolding check_body_parts balanced_parts
check_body-exact divider =
    let two = two_terminals-exact divider in
    let pair = then (the_token _ is_pair) two (closed _) in
    let window = then (the_token _ is_window) (then two value-exact (closed _)) (closed _) in
    let single = then (the_token _ is_single) (then (terminal-exact divider) value-exact (apart _ _ (λ _ _. refl))) (closed _) in
    let skipped = before (the_token _ is_skipped_check) balanced-exact (closed _) in
    let others = or (made _ window) (or (made _ single) (made _ skipped) refl refl (apart _ _ (λ _ _. refl))) refl refl (apart _ _ (λ _ _. refl)) in
    called _ _ (or (made _ pair) others refl refl (apart _ _ (λ _ _. refl))) refl (same _) (is_covered _ _ (λ _ _. refl))

pub check-exact : (divider : Divider) → IsExact (check divider)
unfolding check_parts
check-exact divider = called _ _ (made _ (with_place (behind (the_mark is_left) (before (check_body-exact divider) (the_mark is_right) (apart_next _ _ (λ _ _. refl))) (closed _)) refl)) refl (same _) (same _)
