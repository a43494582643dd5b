-- What is written outside an instance is what lies outside it.
use Rattle.std.specs.Prelude.{◌≡◌, ℕ, ◌+◌, List, ◌++◌, Bool, false, Option, map, length}
use Rattle.std.proofs.Common.{sym, ◌∙◌, ap, subst, append-nil, length-append}
use Rattle.std.proofs.lemmas.List.{length-map}
use Rattle.std.proofs.lemmas.List.FromFn.{length-map-range_with_len}
use Rattle.std.proofs.lemmas.Simd.{map-map}
use Rattle.sg_circuit.specs.declared.nets.Net.{Net}
use Rattle.vl_tree.specs.Tree.{Source}
use Rattle.vl_tree.specs.declared.items.Instance as code
use Rattle.elab_model.specs.Hierarchy.{Instance}
use Rattle.elab_model.specs.Names.{Variable, variables}
use Rattle.elab_model.specs.Nets.{OwnNet}
use Rattle.elab_laws.specs.Handing.{all_bits, number_at}
use Rattle.elab_bits.specs.Seen.{bit_at}
use Rattle.elab_bits.specs.declared.bits.Bit as code_bit
use Rattle.elab_modules.specs.declared.prepared.Prepared.{Prepared}
use Rattle.elab_ports.specs.declared.constants.PortConstant as code_constant
use Rattle.elab_nets.specs.Inputs.{bound_at, number_in}
use Rattle.elab_nets.specs.Outside.{outer_number, outside_nets, IsChild}
use Rattle.elab_nets.specs.Own.{net_at}
use Rattle.elab_model.specs.Numbered.{undriven}
use Rattle.elab_nets.specs.Written.{IsWritten}
use Rattle.elab_nets.proofs.OutsideNets.{net_outside, input_places, no-outside}
use Rattle.elab_nets.proofs.OuterNumbers.{HasBound, bound_row}
use Rattle.elab_nets.proofs.InputPlaces.{IsLeafIn, leaf-nets, leaf-row, inner-row}

-- ---- the row that is added

pub row-added : (row : List ℕ) (bits seen : List (Option code_bit.Bit)) (n count : ℕ) (old items : List (Option ℕ)) → items ≡ old ++ bound_row row seen count → count ≡ n → seen ≡ bits
    → items ≡ old ++ bound_row row bits n
row-added row bits seen n count old items e c b = e ∙ ap (λ n. old ++ bound_row row seen n) c ∙ ap (λ bits. old ++ bound_row row bits n) b

pub row-length : (row : List ℕ) (bits : List (Option code_bit.Bit)) (n : ℕ) → length (bound_row row bits n) ≡ n
row-length row bits n = length-map-range_with_len (λ i. number_in row (bound_at bits i)) 0 n

pub added-length : (row : List ℕ) (bits : List (Option code_bit.Bit)) (n : ℕ) (old items : List (Option ℕ)) → items ≡ old ++ bound_row row bits n → length items ≡ length old + n
added-length row bits n old items e = ap length e ∙ length-append old (bound_row row bits n) ∙ ap (λ k. length old + k) (row-length row bits n)

row-is : (all : List OwnNet) (source : Source) (s c : Instance) (table : List Variable) (row : List ℕ) (child : Prepared) (text : code.Instance) (leaf : Bool) (scope next : ℕ)
    → IsChild all source s c table row child text leaf scope next → row ≡ map (number_at all source s) (all_bits (variables s.step.definition))
row-is all source s c table row child text leaf scope next k = k.numbers.numbers ∙ ap (λ vs. map (number_at all source s) (all_bits vs)) k.numbers.table

bound-row_is : (all : List OwnNet) (source : Source) (s c : Instance) (table : List Variable) (row : List ℕ) (child : Prepared) (text : code.Instance) (leaf : Bool) (scope next : ℕ)
    → IsChild all source s c table row child text leaf scope next → (bits : List (Option code_bit.Bit))
    → bound_row row bits (length (all_bits child.table)) ≡ bound_row (map (number_at all source s) (all_bits (variables s.step.definition))) bits (length (all_bits (variables c.step.definition)))
bound-row_is all source s c table row child text leaf scope next k bits =
    ap (λ vs. bound_row row bits (length (all_bits vs))) k.prepared.table
    ∙ ap (λ r. bound_row r bits (length (all_bits (variables c.step.definition)))) (row-is all source s c table row child text leaf scope next k)

-- ---- an instance that has children

pub inner-outer : (all : List OwnNet) (source : Source) (s c : Instance) (table : List Variable) (row : List ℕ) (child : Prepared) (text : code.Instance) (leaf : Bool) (scope next : ℕ)
    → IsChild all source s c table row child text leaf scope next → leaf ≡ false → (bits : List (Option code_bit.Bit)) → HasBound s c bits
    → bound_row row bits (length (all_bits child.table)) ≡ map (outer_number all source c.step c.above) (all_bits child.table)
inner-outer all source s c table row child text leaf scope next k is bits bound =
    bound-row_is all source s c table row child text leaf scope next k bits ∙ inner-row all source s c bits bound (k.is_leaf ∙ is)
    ∙ ap (λ vs. map (outer_number all source c.step c.above) (all_bits vs)) (sym k.prepared.table)

pub inner-nets : (all : List OwnNet) (source : Source) (s c : Instance) (table : List Variable) (row : List ℕ) (child : Prepared) (text : code.Instance) (leaf : Bool) (scope next : ℕ)
    → IsChild all source s c table row child text leaf scope next → leaf ≡ false → (nets : List Net) → nets ≡ nets ++ map undriven (outside_nets source s c)
inner-nets all source s c table row child text leaf scope next k is nets = sym (append-nil nets) ∙ ap (λ os. nets ++ map undriven os) (sym (no-outside source s c (k.is_leaf ∙ is)))

-- ---- a leaf

places-are : (c : Instance) (child : List Variable) (bits : List (Option code_bit.Bit)) (ks : List code_constant.PortConstant) (places : List ℕ) → child ≡ variables c.step.definition
    → places ≡ input_places child bits ks
    → places ≡ input_places (variables c.step.definition) bits ks
places-are c child bits ks places e p = p ∙ ap (λ vs. input_places vs bits ks) e

pub leaf-outer : (all : List OwnNet) (source : Source) (s c : Instance) (table : List Variable) (row : List ℕ) (child : Prepared) (text : code.Instance) (leaf : Bool) (scope next : ℕ)
    → IsChild all source s c table row child text leaf scope next → (bits : List (Option code_bit.Bit)) (ks : List code_constant.PortConstant) → IsLeafIn source s c bits ks
    → (places : List ℕ) (old new : List (Option ℕ)) → places ≡ input_places child.table bits ks → old ≡ bound_row row bits (length (all_bits child.table)) → IsWritten next places old new
    → new ≡ map (outer_number all source c.step c.above) (all_bits child.table)
leaf-outer all source s c table row child text leaf scope next k bits ks h places old new e f written =
    let p = places-are c child.table bits ks places k.prepared.table e in
    let r = f ∙ bound-row_is all source s c table row child text leaf scope next k bits in
    leaf-row all source s c bits ks next new h k.outside
    (subst (λ ps. IsWritten next ps (bound_row (map (number_at all source s) (all_bits (variables s.step.definition))) bits (length (all_bits (variables c.step.definition)))) new) p
    (subst (λ old. IsWritten next places old new) r written))
    ∙ ap (λ vs. map (outer_number all source c.step c.above) (all_bits vs)) (sym k.prepared.table)

pub leaf-added : (all : List OwnNet) (source : Source) (s c : Instance) (table : List Variable) (row : List ℕ) (child : Prepared) (text : code.Instance) (leaf : Bool) (scope next : ℕ)
    → IsChild all source s c table row child text leaf scope next → (bits : List (Option code_bit.Bit)) (ks : List code_constant.PortConstant) → IsLeafIn source s c bits ks
    → (places : List ℕ) → places ≡ input_places child.table bits ks → map (λ i. net_at scope (bit_at child.table i)) places ≡ map undriven (outside_nets source s c)
leaf-added all source s c table row child text leaf scope next k bits ks h places e =
    let vs = variables c.step.definition in
    let f : ℕ → OwnNet = λ (i : ℕ). net_outside s c (bit_at vs i) in
    ap (λ n. map (λ i. net_at n (bit_at child.table i)) places) (sym k.number) ∙ ap (λ vs. map (λ i. net_at s.step.number (bit_at vs i)) places) k.prepared.table
    ∙ ap (map (λ i. net_at s.step.number (bit_at vs i))) (places-are c child.table bits ks places k.prepared.table e)
    ∙ sym (map-map undriven f (input_places vs bits ks)) ∙ ap (map undriven) (sym (leaf-nets source s c bits ks h))

pub leaf-count : (all : List OwnNet) (source : Source) (s c : Instance) (table : List Variable) (row : List ℕ) (child : Prepared) (text : code.Instance) (leaf : Bool) (scope next : ℕ)
    → IsChild all source s c table row child text leaf scope next → (bits : List (Option code_bit.Bit)) (ks : List code_constant.PortConstant) → IsLeafIn source s c bits ks
    → (places : List ℕ) → places ≡ input_places child.table bits ks → length places ≡ length (outside_nets source s c)
leaf-count all source s c table row child text leaf scope next k bits ks h places e =
    sym (length-map places (λ i. net_at scope (bit_at child.table i))) ∙ ap length (leaf-added all source s c table row child text leaf scope next k bits ks h places e)
    ∙ length-map (outside_nets source s c) undriven
