-- The bits of a variable are a part of those of all.
use Rattle.std.specs.Prelude.{◌≡◌, ℕ, ◌+◌, ◌<◌, List, ◌++◌, length, map, take, drop}
use Rattle.std.proofs.Common.{sym, ◌∙◌, ap}
use Rattle.std.proofs.lemmas.Grind.{flat_map-append}
use Rattle.std.proofs.lemmas.List.{take-append-drop, drop_more, drop_at, take_at, length-map, map-append}
use Rattle.sg_circuit.specs.Closed.{width_of}
use Rattle.vl_tree.specs.Tree.{Source}
use Rattle.elab_model.specs.Hierarchy.{Instance}
use Rattle.elab_model.specs.Names.{Variable}
use Rattle.elab_model.specs.Nets.{OwnNet}
use Rattle.elab_laws.specs.Handing.{variable_bits, all_bits, number_at}
use Rattle.elab_variables.specs.Seen.{variable_at}
use Rattle.elab_bits.proofs.InRow.{blank, width-is}
use Rattle.elab_nets.specs.Rows.{part_of}
use Rattle.elab_scopes.specs.declared.here.Here.{Here}
use Rattle.elab_scopes.specs.Here.{IsHere}

all-split : (vs : List Variable) (i : ℕ) → i < length vs → all_bits vs ≡ all_bits (take i vs) ++ (variable_bits (variable_at vs i) ++ all_bits (drop (i + 1) vs))
all-split vs i lt =
    ap all_bits (sym (take-append-drop i vs)) ∙ flat_map-append variable_bits (take i vs) (drop i vs)
    ∙ ap (λ ws. all_bits (take i vs) ++ all_bits ws) (drop_more vs i blank lt)

part-at : {A : Type 0} (xs ys zs : List A) (a b : ℕ) → length xs ≡ a → length ys ≡ b → part_of (xs ++ (ys ++ zs)) a b ≡ ys
part-at xs ys zs a b e g = ap (take b) (drop_at xs (ys ++ zs) a e) ∙ take_at ys zs b g

map-parts : {A B : Type 0} (f : A → B) (xs ys zs : List A) → map f (xs ++ (ys ++ zs)) ≡ map f xs ++ (map f ys ++ map f zs)
map-parts f xs ys zs = map-append f xs (ys ++ zs) ∙ ap (λ ws. map f xs ++ ws) (map-append f ys zs)

part-is : (f : Variable × ℕ → ℕ) (vs : List Variable) (i : ℕ) → i < length vs
    → part_of (map f (all_bits vs)) (length (all_bits (take i vs))) (width_of (variable_at vs i).range) ≡ map f (variable_bits (variable_at vs i))
part-is f vs i lt =
    let start = length (all_bits (take i vs)) in
    let width = width_of (variable_at vs i).range in
    let front = all_bits (take i vs) in
    let own = variable_bits (variable_at vs i) in
    let rest = all_bits (drop (i + 1) vs) in
    ap (λ bs. part_of (map f bs) start width) (all-split vs i lt) ∙ ap (λ ns. part_of ns start width) (map-parts f front own rest)
    ∙ part-at (map f front) (map f own) (map f rest) start width (length-map front f) (length-map own f ∙ width-is (variable_at vs i))

-- what the code cuts out
pub bits-here : (all : List OwnNet) (source : Source) (s : Instance) (h : Here) (i start width : ℕ) (nets : List ℕ) → i < length h.prepared.now.table → nets ≡ part_of h.row.now start width
    → start ≡ length (all_bits (take i h.prepared.now.table)) → width ≡ width_of (variable_at h.prepared.now.table i).range → IsHere all source s h
    → nets ≡ map (number_at all source s) (variable_bits (variable_at h.prepared.now.table i))
bits-here all source s h i start width nets lt n a b is =
    let f = number_at all source s in
    n ∙ ap (λ k. part_of h.row.now k width) a ∙ ap (part_of h.row.now (length (all_bits (take i h.prepared.now.table)))) b
    ∙ ap (λ ns. part_of ns (length (all_bits (take i h.prepared.now.table))) (width_of (variable_at h.prepared.now.table i).range)) (is.row ∙ ap (λ vs. map f (all_bits vs)) (sym is.prepared.table))
    ∙ part-is f h.prepared.now.table i lt
