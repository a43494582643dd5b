-- Passes between bits, and of constants.
use Rattle.std.specs.Prelude.{◌≡◌, ℕ, ◌≤◌, List, [], ◌∷◌, map, flat_map, length, zip, refl}
use Rattle.std.specs.List.{AllByRecursion}
use Rattle.std.proofs.Common.{sym, ap, arith}
use Rattle.sg_circuit.specs.Circuit.{Pass}
use Rattle.sg_circuit.specs.declared.elements.ElementKind.TheVariants as kind
use Rattle.sg_circuit.specs.declared.elements.UdpUse.{UdpUse}
use Rattle.sg_delay.specs.declared.gates.GateDelays.{GateDelays}
use Rattle.sg_logic.specs.declared.values.Value.{Value}
use Rattle.sg_text.specs.declared.places.Place.{Place}
use Rattle.vl_tree.specs.Tree.{Source}
use Rattle.elab_model.specs.Bits.{constant}
use Rattle.elab_model.specs.Elements.{pass_to, passes, bit_spots, value_of}
use Rattle.elab_model.specs.Hierarchy.{Instance}
use Rattle.elab_model.specs.Names.{Variable}
use Rattle.elab_model.specs.Nets.{OwnNet, number_of}
use Rattle.elab_bits.specs.declared.bits.Bit as code_bit
use Rattle.elab_bits.specs.declared.bits.Bit.TheVariants as bit
use Rattle.elab_bits.specs.Seen.{view_bit, IsInRow}
use Rattle.elab_elements.specs.Adding.{IsHere, HasDriven}
use Rattle.elab_elements.specs.Words.{net_in, bit_inputs, bit_value, pass_puts}
use Rattle.elab_elements.proofs.Meaning.{Means, means-nil, means-one, means-append, number-is, driven-number, same-count}

inputs-are : (all : List OwnNet) (source : Source) (s : Instance) (scope : ℕ) (vs : List Variable) (row : List ℕ) (b : code_bit.Bit) → IsHere all source s scope vs row → IsInRow vs b
    → bit_inputs row b ≡ map (number_of all) (bit_spots source s (view_bit vs b))
inputs-are all source s scope vs row (bit.Net i) h lt = ap (λ n. n ∷ []) (number-is all source s vs row i h.numbers lt)
inputs-are all source s scope vs row (bit.Constant p v) h lt = refl

value-is : (vs : List Variable) (b : code_bit.Bit) → bit_value b ≡ value_of (view_bit vs b)
value-is vs (bit.Net i) = refl
value-is vs (bit.Constant p v) = refl

pass-means : (delays : List GateDelays) (udps : List UdpUse) (all : List OwnNet) (source : Source) (s : Instance) (scope : ℕ) (vs : List Variable) (row inside : List ℕ) (place : Place) (to from : code_bit.Bit)
    → IsHere all source s scope vs row → HasDriven all source s vs inside → IsInRow vs to → IsInRow vs from
    → Means delays udps all (pass_puts scope place row inside (to, from)) (pass_to source s place (view_bit vs to, view_bit vs from))
pass-means delays udps all source s scope vs row inside place (bit.Net i) from h d lt lu =
    means-one delays udps all scope place (bit_inputs row from) (net_in inside i) (kind.Pass (bit_value from)) _
    (sym h.number) refl (inputs-are all source s scope vs row from h lu) (driven-number all source s vs inside i d lt) (ap (λ o. Pass o) (value-is vs from)) tt
pass-means delays udps all source s scope vs row inside place (bit.Constant p v) from h d lt lu = means-nil delays udps all

pub passes-mean : (delays : List GateDelays) (udps : List UdpUse) (all : List OwnNet) (source : Source) (s : Instance) (scope : ℕ) (vs : List Variable) (row inside : List ℕ) (place : Place)
    (left right : List code_bit.Bit)
    → IsHere all source s scope vs row → HasDriven all source s vs inside → AllByRecursion (IsInRow vs) left → AllByRecursion (IsInRow vs) right
    → Means delays udps all (flat_map (pass_puts scope place row inside) (zip left right)) (passes source s place (map (view_bit vs) left) (map (view_bit vs) right))
passes-mean delays udps all source s scope vs row inside place [] right h d l r = means-nil delays udps all
passes-mean delays udps all source s scope vs row inside place (a ∷ left) [] h d l r = means-nil delays udps all
passes-mean delays udps all source s scope vs row inside place (a ∷ left) (b ∷ right) h d l r =
    means-append delays udps all (pass_puts scope place row inside (a, b)) (flat_map (pass_puts scope place row inside) (zip left right)) (pass_to source s place (view_bit vs a, view_bit vs b))
    (passes source s place (map (view_bit vs) left) (map (view_bit vs) right))
    (pass-means delays udps all source s scope vs row inside place a b h d l.0 r.0) (passes-mean delays udps all source s scope vs row inside place left right h d l.1 r.1)

pub supply-means : (delays : List GateDelays) (udps : List UdpUse) (all : List OwnNet) (source : Source) (s : Instance) (scope : ℕ) (vs : List Variable) (row inside : List ℕ) (place : Place) (v : Value)
    (bs : List code_bit.Bit) → IsHere all source s scope vs row → HasDriven all source s vs inside → AllByRecursion (IsInRow vs) bs
    → Means delays udps all (flat_map (λ b. pass_puts scope place row inside (b, bit.Constant place v)) bs) (flat_map (λ b. pass_to source s place (b, constant place v)) (map (view_bit vs) bs))
supply-means delays udps all source s scope vs row inside place v [] h d l = means-nil delays udps all
supply-means delays udps all source s scope vs row inside place v (b ∷ bs) h d l =
    means-append delays udps all (pass_puts scope place row inside (b, bit.Constant place v)) (flat_map (λ b. pass_puts scope place row inside (b, bit.Constant place v)) bs)
    (pass_to source s place (view_bit vs b, constant place v)) (flat_map (λ b. pass_to source s place (b, constant place v)) (map (view_bit vs) bs))
    (pass-means delays udps all source s scope vs row inside place b (bit.Constant place v) h d l.0 tt) (supply-means delays udps all source s scope vs row inside place v bs h d l.1)

-- ---- how many

pub passes-within : (all : List OwnNet) (source : Source) (s : Instance) (scope : ℕ) (vs : List Variable) (row inside : List ℕ) (place : Place) (left right : List code_bit.Bit)
    → IsHere all source s scope vs row → HasDriven all source s vs inside → AllByRecursion (IsInRow vs) left → AllByRecursion (IsInRow vs) right
    → length (flat_map (pass_puts scope place row inside) (zip left right)) ≤ length (passes source s place (map (view_bit vs) left) (map (view_bit vs) right))
passes-within all source s scope vs row inside place left right h d l r =
    let m = passes-mean [] [] all source s scope vs row inside place left right h d l r in
    let e = same-count _ _ m.places in
    omega (arith, e)

pub supply-within : (all : List OwnNet) (source : Source) (s : Instance) (scope : ℕ) (vs : List Variable) (row inside : List ℕ) (place : Place) (v : Value) (bs : List code_bit.Bit)
    → IsHere all source s scope vs row → HasDriven all source s vs inside → AllByRecursion (IsInRow vs) bs
    → length (flat_map (λ b. pass_puts scope place row inside (b, bit.Constant place v)) bs) ≤ length (flat_map (λ b. pass_to source s place (b, constant place v)) (map (view_bit vs) bs))
supply-within all source s scope vs row inside place v bs h d l =
    let m = supply-means [] [] all source s scope vs row inside place v bs h d l in
    let e = same-count _ _ m.places in
    omega (arith, e)
