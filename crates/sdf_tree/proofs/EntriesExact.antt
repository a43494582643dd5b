-- Each rule of the delays of cells is read exactly.
use Rattle.std.proofs.Common.{◌≡◌, ℕ, Bool, true, false, refl}
use Rattle.std.specs.Prelude.{◌==◌, ◌&&◌, ◌||◌}
use Rattle.std.proofs.lemmas.Bool.{and_parts, and_right}
use Rattle.grammar.specs.Exact.{Apart}
use Rattle.grammar.proofs.Laws.{only_if-exact, many_by-exact}
use Rattle.sdf_tree.specs.declared.keywords.Keyword.TheVariants as keyword
use Rattle.sdf_tree.specs.declared.words.Divider.{Divider}
use Rattle.sdf_tree.specs.Entries.{spec_parts, spec, cond_parts, cond, tail_rest_parts, tail_part, count_after, tail_parts, tail, path_parts, path, inner_path_parts, inner_path, net_body_parts, net_body, body_parts, body, entry_parts, entry, is_pulse, pulse_parts, pulse, group_body_parts, group_body, group_parts, group}
use Rattle.sdf_tree.specs.Kinds.{kind_of, is_left, is_right, is_word}
use Rattle.sdf_tree.specs.Values.{may_come, may_end, delay_rest_starts}
use Rattle.sdf_tree.proofs.AllKinds.{apart, apart_next, is_within}
use Rattle.sdf_tree.proofs.Building.{IsExact, the_token, the_mark, the_word, then, made, behind, before, called, with_place, or, perhaps, repeated, closed, same}
use Rattle.sdf_tree.proofs.ConditionsExact.{condition-exact}
use Rattle.sdf_tree.proofs.ValuesExact.{text-exact, value-exact, delay_rest-exact, list-exact, port-exact, edge_word-exact}

pub spec-exact : (divider : Divider) → IsExact (spec divider)
unfolding spec_parts
spec-exact divider =
    let port = port-exact divider in
    let with_edge = behind (the_mark is_left) (then edge_word-exact (before port (the_mark is_right) (apart _ _ (λ _ _. refl))) (closed _)) (closed _) in
    called _ _ (or (made _ port) (made _ with_edge) refl refl (apart_next _ _ (λ _ _. refl))) refl (same _) (is_within _ _ (λ _ _. refl))

pub cond-exact : IsExact cond
unfolding cond_parts
cond-exact = called _ _ (behind (the_word keyword.Cond) (behind (perhaps text-exact refl) condition-exact (apart _ _ (λ _ _. refl))) (closed _)) refl (same _) (same _)

-- ---- paths

retain_apart : (n : ℕ) → Apart (λ k. (n == 0) && is_word keyword.Retain k) delay_rest_starts
retain_apart n k p q = apart (is_word keyword.Retain) delay_rest_starts (λ _ _. refl) k (and_parts (n == 0) (is_word keyword.Retain k) p).1 q

pub tail_rest-exact : (limited : Bool) (n : ℕ) → IsExact (tail_rest_parts limited n)
unfolding tail_rest_parts
tail_rest-exact limited n =
    let retain = behind (the_word keyword.Retain) (before (list-exact limited) (the_mark is_right) (apart _ _ (λ _ _. refl))) (closed _) in
    or (made _ (only_if-exact kind_of (n == 0) _ retain)) (made _ delay_rest-exact) (and_right (n == 0) false refl) refl (retain_apart n)

pub tail_part-exact : (limited : Bool) (n : ℕ) → IsExact (tail_part limited n)
unfolding tail_rest_parts
tail_part-exact limited n = only_if-exact kind_of (may_come limited n) _ (made _ (with_place (behind (the_mark is_left) (tail_rest-exact limited n) (closed _)) refl))

pub tail_part-full : (limited : Bool) (n : ℕ) → (tail_part limited n).empty ≡ false
unfolding tail_rest_parts
tail_part-full limited n = and_right (may_come limited n) false refl

continues_none : (a b : Bool) → (a && (b && false || false)) ≡ true → ⊥
continues_none true true h = cc
continues_none true false h = cc
continues_none false b h = cc

pub tail_parts-exact : (limited : Bool) → IsExact (tail_parts limited)
unfolding tail_parts tail_rest_parts
tail_parts-exact limited = many_by-exact kind_of is_left (tail_part limited) count_after (may_end limited) (tail_part-exact limited) (tail_part-full limited)
    (λ n x k p q. continues_none (may_come limited n) (n == 0) p)
    (λ n e k p. (and_parts (may_come limited n) (is_left k) p).1)
    (λ n k p. absurd (continues_none (may_come limited n) (n == 0) p)) 0

pub tail-exact : (limited : Bool) → IsExact (tail limited)
unfolding tail_parts tail_rest_parts
tail-exact limited = called _ _ (made _ (tail_parts-exact limited)) refl (λ k p. (and_parts (may_come limited 0) (is_left k) p).1) (same _)

pub path-exact : (limited : Bool) (divider : Divider) → IsExact (path limited divider)
unfolding path_parts
path-exact limited divider =
    let ends = then (port-exact divider) (tail-exact limited) (apart _ _ (λ _ _. refl)) in
    called _ _ (behind (the_word keyword.IoPath) (then (spec-exact divider) ends (apart _ _ (λ _ _. refl))) (closed _)) refl (same _) (same _)

pub inner_path-exact : (limited : Bool) (divider : Divider) → IsExact (inner_path limited divider)
unfolding inner_path_parts
inner_path-exact limited divider = called _ _ (behind (the_mark is_left) (before (path-exact limited divider) (the_mark is_right) (apart _ _ (λ _ _. refl))) (closed _)) refl (same _) (same _)

-- ---- entries

pub net_body-exact : (limited : Bool) (divider : Divider) → IsExact (net_body limited divider)
unfolding net_body_parts
net_body-exact limited divider =
    let port = port-exact divider in
    let delays = list-exact limited in
    let port_and_list = then port delays (apart _ _ (λ _ _. refl)) in
    let to_port = behind (the_word keyword.Port) port_and_list (closed _) in
    let between = behind (the_word keyword.Interconnect) (then port port_and_list (apart _ _ (λ _ _. refl))) (closed _) in
    let device = behind (the_word keyword.Device) (then (perhaps port refl) delays (apart_next _ _ (λ _ _. refl))) (closed _) in
    let net = behind (the_word keyword.NetDelay) port_and_list (closed _) in
    let last = or (made _ device) (made _ net) refl refl (apart _ _ (λ _ _. refl)) in
    let others = or (made _ between) last refl refl (apart _ _ (λ _ _. refl)) in
    called _ _ (or (made _ to_port) others refl refl (apart _ _ (λ _ _. refl))) refl (same _) (is_within _ _ (λ _ _. refl))

pub body-exact : (limited : Bool) (divider : Divider) → IsExact (body limited divider)
unfolding body_parts
body-exact limited divider =
    let inner = inner_path-exact limited divider in
    let conditional = then cond-exact inner (apart_next _ _ (λ _ _. refl)) in
    let otherwise = behind (the_word keyword.CondElse) inner (closed _) in
    let last = or (made _ otherwise) (net_body-exact limited divider) refl refl (apart _ _ (λ _ _. refl)) in
    let others = or (made _ conditional) last refl refl (apart _ _ (λ _ _. refl)) in
    called _ _ (or (made _ (path-exact limited divider)) others refl refl (apart _ _ (λ _ _. refl))) refl (same _) (is_within _ _ (λ _ _. refl))

pub entry-exact : (limited : Bool) (divider : Divider) → IsExact (entry limited divider)
unfolding entry_parts
entry-exact limited divider = called _ _ (made _ (with_place (behind (the_mark is_left) (before (body-exact limited divider) (the_mark is_right) (apart _ _ (λ _ _. refl))) (closed _)) refl)) refl (same _) (same _)

-- ---- groups

pub pulse-exact : (divider : Divider) → IsExact (pulse divider)
unfolding pulse_parts
pulse-exact divider =
    let port = port-exact divider in
    let ports = perhaps (then port port (apart _ _ (λ _ _. refl))) refl in
    let values = then value-exact (perhaps value-exact refl) (closed _) in
    called _ _ (then (the_token _ is_pulse) (then ports values (apart_next _ _ (λ _ _. refl))) (closed _)) refl (same _) (is_within _ _ (λ _ _. refl))

pub group_body-exact : (limited : Bool) (divider : Divider) → IsExact (group_body limited divider)
unfolding group_body_parts
group_body-exact limited divider =
    let entries = repeated (entry-exact limited divider) refl (closed _) in
    let first = behind (the_word keyword.Absolute) entries (closed _) in
    let second = behind (the_word keyword.Increment) entries (closed _) in
    let others = or (made _ second) (made _ (pulse-exact divider)) refl refl (apart _ _ (λ _ _. refl)) in
    called _ _ (or (made _ first) others refl refl (apart _ _ (λ _ _. refl))) refl (same _) (is_within _ _ (λ _ _. refl))

pub group-exact : (limited : Bool) (divider : Divider) → IsExact (group limited divider)
unfolding group_parts
group-exact limited divider = called _ _ (made _ (with_place (behind (the_mark is_left) (before (group_body-exact limited divider) (the_mark is_right) (apart _ _ (λ _ _. refl))) (closed _)) refl)) refl (same _) (same _)
