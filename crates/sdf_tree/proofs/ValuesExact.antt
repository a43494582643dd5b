-- Each rule of values, lists, ports and tokens that are passed over is read exactly.
use Rattle.std.proofs.Common.{◌≡◌, ℕ, suc, Bool, true, false, refl}
use Rattle.std.specs.Prelude.{not, ◌==◌, ◌||◌, ◌&&◌}
use Rattle.std.proofs.lemmas.Bool.{and_parts, and_right}
use Rattle.grammar.specs.Rule.{only_if, one}
use Rattle.grammar.proofs.Laws.{one-exact, only_if-exact, many_by-exact}
use Rattle.sdf_tree.specs.declared.words.Divider.{Divider}
use Rattle.sdf_tree.specs.Kinds.{Kind, kind_of, is_left, is_right, is_colon, is_text, is_select, is_number, is_port, is_plain}
use Rattle.sdf_tree.specs.Values.{text_parts, text, number_parts, number, others_parts, others, numbers_parts, numbers, value_parts, value, delay_rest_parts, delay_rest, delay_parts, delay, may_end, may_come, list_parts, list, port_parts, port, is_edge, edge_parts, edge_word, is_inside, unclosed_after, balanced_continue, balanced_parts, balanced}
use Rattle.sdf_tree.proofs.AllKinds.{apart, apart_next, is_within, is_covered}
use Rattle.sdf_tree.proofs.Building.{IsExact, the_token, the_mark, then, made, behind, before, called, with_place, or, perhaps, closed, same}

pub text-exact : IsExact text
unfolding text_parts
text-exact = called _ _ (the_token _ is_text) refl (same _) (same _)

pub number-exact : IsExact number
unfolding number_parts
number-exact = called _ _ (before (the_token _ is_number) (perhaps (the_mark is_select) refl) (closed _)) refl (same _) (is_within _ _ (λ _ _. refl))

pub others-exact : IsExact others
unfolding others_parts
others-exact =
    let maybe = perhaps number-exact refl in
    called _ _ (behind (the_mark is_colon) (then maybe (behind (the_mark is_colon) maybe (closed _)) (apart_next _ _ (λ _ _. refl))) (closed _)) refl (same _) (is_covered _ _ (λ _ _. refl))

pub numbers-exact : IsExact numbers
unfolding numbers_parts
numbers-exact =
    let first = made _ (then number-exact (perhaps others-exact refl) (apart _ _ (λ _ _. refl))) in
    called _ _ (or first (made _ others-exact) refl refl (apart_next _ _ (λ _ _. refl))) refl (same _) (is_covered _ _ (λ _ _. refl))

pub value-exact : IsExact value
unfolding value_parts
value-exact =
    let inside = before (perhaps numbers-exact refl) (the_mark is_right) (apart_next _ _ (λ _ _. refl)) in
    called _ _ (made _ (behind (the_mark is_left) inside (closed _))) refl (same _) (same _)

-- ---- delays

pub delay_rest-exact : IsExact delay_rest
unfolding delay_rest_parts
delay_rest-exact =
    let error = before (perhaps value-exact refl) (the_mark is_right) (apart _ _ (λ _ _. refl)) in
    let with_limits = then value-exact (then value-exact error (closed _)) (closed _) in
    let alone = before (perhaps numbers-exact refl) (the_mark is_right) (apart_next _ _ (λ _ _. refl)) in
    called _ _ (or (made _ with_limits) (made _ alone) refl refl (apart _ _ (λ _ _. refl))) refl (same _) (is_within _ _ (λ _ _. refl))

pub delay-exact : IsExact delay
unfolding delay_parts
delay-exact = called _ _ (made _ (with_place (behind (the_mark is_left) delay_rest-exact (closed _)) refl)) refl (same _) (same _)

pub next_delay-exact : (limited : Bool) (n : ℕ) → IsExact (only_if (may_come limited n) delay)
next_delay-exact limited n = only_if-exact kind_of (may_come limited n) _ delay-exact

pub next_delay-full : (limited : Bool) (n : ℕ) → (only_if (may_come limited n) delay).empty ≡ false
next_delay-full limited n = and_right (may_come limited n) false refl

never : (b : Bool) → (b && false) ≡ true → ⊥
never true h = cc
never false h = cc

pub list_parts-exact : (limited : Bool) → IsExact (list_parts limited)
unfolding list_parts
list_parts-exact limited = many_by-exact kind_of is_left (λ n. only_if (may_come limited n) delay) (λ n _. suc n) (may_end limited) (next_delay-exact limited) (next_delay-full limited)
    (λ n x k p q. never (may_come limited n) p)
    (λ n e k p. (and_parts (may_come limited n) (is_left k) p).1)
    (λ n k p. absurd (never (may_come limited n) p)) 0

pub list-exact : (limited : Bool) → IsExact (list limited)
unfolding list_parts
list-exact limited = called _ _ (list_parts-exact limited) refl (λ k p. (and_parts (may_come limited 0) (is_left k) p).1) (same _)

-- ---- ports

pub port-exact : (divider : Divider) → IsExact (port divider)
unfolding port_parts
port-exact divider = called _ _ (made _ (then (the_token _ (is_port divider)) (perhaps (the_token _ is_select) refl) (closed _))) refl (same _) (is_within _ _ (λ _ _. refl))

pub edge_word-exact : IsExact edge_word
unfolding edge_parts
edge_word-exact = called _ _ (the_token _ is_edge) refl (same _) (same _)

-- ---- what is passed over

pub balanced_parts-exact : IsExact balanced_parts
unfolding balanced_parts
balanced_parts-exact = many_by-exact kind_of balanced_continue (λ n. one kind_of (is_inside n)) unclosed_after (λ n. n == 0) (λ n. one-exact kind_of (is_inside n)) (λ n. refl)
    (λ n x k p q. absurd cc)
    outside
    (λ n k p. absurd cc) 0
  where
    outside : (n : ℕ) → (n == 0) ≡ true → (k : Kind) → is_inside n k ≡ true → balanced_continue k ≡ true
    outside n e k p = let q : (is_plain k || (is_left k || (not true && is_right k))) ≡ true = rw e at p in done (is_plain k) (is_left k) q
      where
        done : (b c : Bool) → (b || (c || (false && is_right k))) ≡ true → (b || c) ≡ true
        done true c h = refl
        done false true h = refl
        done false false h = absurd cc

pub balanced-exact : IsExact balanced
balanced-exact = made _ balanced_parts-exact
