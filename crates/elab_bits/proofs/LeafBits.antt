-- What is added for a name or a select is the bits of the leaf.
use Rattle.std.specs.Prelude.{◌≡◌, ℕ, ◌+◌, ◌<◌, List, [], ◌∷◌, ◌++◌, Some, None, map, length, take, refl}
use Rattle.std.specs.List.{AllByRecursion, range_with_len}
use Rattle.std.proofs.Common.{sym, ◌∙◌, ap, arith}
use Rattle.std.proofs.lemmas.List.{append-nil, map-append}
use Rattle.sg_circuit.specs.Closed.{width_of}
use Rattle.vl_tree.specs.Tree.{Named}
use Rattle.vl_tree.specs.declared.expressions.Select.{Select}
use Rattle.elab_model.specs.Bits.{net, leaf_bits, whole_bits, part_bits, positions_between}
use Rattle.elab_model.specs.Leaves.{whole, part}
use Rattle.elab_model.specs.Names.{Variable}
use Rattle.elab_variables.proofs.Lists.{all-range}
use Rattle.elab_variables.proofs.Places.{between-below}
use Rattle.elab_variables.specs.Handing.{all_bits}
use Rattle.elab_variables.specs.Seen.{variable_at, place_named}
use Rattle.elab_bits.specs.declared.bits.Bit as code_bit
use Rattle.elab_bits.specs.Seen.{view_bit, bit_at}
use Rattle.elab_bits.specs.Words.{ends, net_from}
use Rattle.elab_bits.proofs.InRow.{place-is}
use Rattle.elab_bits.proofs.NamedAt.{IsNamedAt, named-at, not-named}
use Rattle.elab_bits.proofs.Selects.{ends-below, select-is, select-none}

seen-bit : (vs : List Variable) (n : List ℕ) (i start p : ℕ) → IsNamedAt vs n i → start ≡ length (all_bits (take i vs)) → p < width_of (variable_at vs i).range
    → view_bit vs (net_from start p) ≡ net n p
seen-bit vs n i start p at s lt =
    let e : bit_at vs (start + p) ≡ (variable_at vs i, p) = ap (λ k. bit_at vs (k + p)) s ∙ place-is vs i p _ at.below lt in
    ap (λ (b : Variable × ℕ). net b.0.name b.1) e ∙ ap (λ m. net m p) at.name

seen-bits : (vs : List Variable) (n : List ℕ) (i start : ℕ) (ps : List ℕ) → IsNamedAt vs n i → start ≡ length (all_bits (take i vs)) → AllByRecursion (λ p. p < width_of (variable_at vs i).range) ps
    → map (view_bit vs) (map (net_from start) ps) ≡ map (net n) ps
seen-bits vs n i start [] at s h = refl
seen-bits vs n i start (p ∷ ps) at s h = rw (seen-bit vs n i start p at s h.0) (ap (λ bs. net n p ∷ bs) (seen-bits vs n i start ps at s h.1))

added : (vs : List Variable) (n : List ℕ) (i start : ℕ) (ps : List ℕ) (old new : List code_bit.Bit) → IsNamedAt vs n i → start ≡ length (all_bits (take i vs))
    → AllByRecursion (λ p. p < width_of (variable_at vs i).range) ps → new ≡ old ++ map (net_from start) ps → map (view_bit vs) new ≡ map (view_bit vs) old ++ map (net n) ps
added vs n i start ps old new at s h e =
    ap (map (view_bit vs)) e ∙ map-append (view_bit vs) old (map (net_from start) ps) ∙ ap (λ bs. map (view_bit vs) old ++ bs) (seen-bits vs n i start ps at s h)

pub variable-added : (vs : List Variable) (n : Named) (i start width : ℕ) (old new : List code_bit.Bit) → Some i ≡ place_named vs n.text → start ≡ length (all_bits (take i vs))
    → width ≡ width_of (variable_at vs i).range → new ≡ old ++ map (net_from start) (range_with_len 0 width) → map (view_bit vs) new ≡ map (view_bit vs) old ++ leaf_bits vs (whole n)
variable-added vs n i start width old new f s w e =
    let at = named-at vs n.text i f in
    let below = all-range (width_of (variable_at vs i).range) 0 width (omega arith) in
    added vs n.text i start (range_with_len 0 width) old new at s below e
    ∙ ap (λ k. map (view_bit vs) old ++ map (net n.text) (range_with_len 0 k)) w
    ∙ ap (λ o. map (view_bit vs) old ++ whole_bits n.text o) (sym at.found)

pub part-added : (vs : List Variable) (n : Named) (s : Select) (i start : ℕ) (x : ℕ × ℕ) (old new : List code_bit.Bit) → Some i ≡ place_named vs n.text → Some x ≡ ends (variable_at vs i).range s
    → start ≡ length (all_bits (take i vs)) → new ≡ old ++ map (net_from start) (positions_between x.0 x.1) → map (view_bit vs) new ≡ map (view_bit vs) old ++ leaf_bits vs (part n s)
part-added vs n s i start x old new f g h e =
    let at = named-at vs n.text i f in
    let r = (variable_at vs i).range in
    let lt = ends-below r s x g in
    added vs n.text i start (positions_between x.0 x.1) old new at h (between-below (width_of r) x.0 x.1 lt.0 lt.1) e
    ∙ ap (λ bs. map (view_bit vs) old ++ bs) (sym (select-is n.text r s x g))
    ∙ ap (λ o. map (view_bit vs) old ++ part_bits n.text s o) (sym at.found)

-- ---- nothing is added

pub unknown-whole : (vs : List Variable) (n : Named) (old : List code_bit.Bit) → None ≡ place_named vs n.text → map (view_bit vs) old ≡ map (view_bit vs) old ++ leaf_bits vs (whole n)
unknown-whole vs n old f = sym (append-nil (map (view_bit vs) old)) ∙ ap (λ o. map (view_bit vs) old ++ whole_bits n.text o) (sym (not-named vs n.text f))

pub unknown-part : (vs : List Variable) (n : Named) (s : Select) (old : List code_bit.Bit) → None ≡ place_named vs n.text → map (view_bit vs) old ≡ map (view_bit vs) old ++ leaf_bits vs (part n s)
unknown-part vs n s old f = sym (append-nil (map (view_bit vs) old)) ∙ ap (λ o. map (view_bit vs) old ++ part_bits n.text s o) (sym (not-named vs n.text f))

pub part-outside : (vs : List Variable) (n : Named) (s : Select) (i : ℕ) (old : List code_bit.Bit) → Some i ≡ place_named vs n.text → None ≡ ends (variable_at vs i).range s
    → map (view_bit vs) old ≡ map (view_bit vs) old ++ leaf_bits vs (part n s)
part-outside vs n s i old f g =
    sym (append-nil (map (view_bit vs) old)) ∙ ap (λ bs. map (view_bit vs) old ++ bs) (sym (select-none n.text (variable_at vs i).range s g))
    ∙ ap (λ o. map (view_bit vs) old ++ part_bits n.text s o) (sym (named-at vs n.text i f).found)
