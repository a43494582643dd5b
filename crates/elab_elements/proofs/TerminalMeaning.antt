-- Outputs of gates and primitives, and the constants at their inputs.
use Rattle.std.specs.Prelude.{◌≡◌, ◌⊎◌, ℕ, suc, ◌+◌, ◌≤◌, List, [], ◌∷◌, ◌++◌, Option, Some, None, map, flat_map, length, zip, refl}
use Rattle.std.specs.List.{AllByRecursion, enumerate_from, range_with_len, All}
use Rattle.std.proofs.Common.{ap, sym, ◌∙◌, subst, arith, inl, inr, length-append}
use Rattle.std.proofs.lemmas.List.{map-append, length-map}
use Rattle.std.proofs.lemmas.List.Elements.{recursion_from_All}
use Rattle.sg_circuit.specs.Circuit.{Kind}
use Rattle.sg_circuit.specs.declared.elements.ElementKind.{ElementKind}
use Rattle.sg_circuit.specs.declared.elements.ElementKind.TheVariants as kind
use Rattle.sg_circuit.specs.declared.elements.UdpUse.{UdpUse}
use Rattle.sg_delay.specs.declared.gates.GateDelays.{GateDelays}
use Rattle.sg_text.specs.declared.places.Place.{Place}
use Rattle.sg_text.specs.declared.refusals.Refused.{Refused}
use Rattle.vl_tree.specs.Tree.{Source}
use Rattle.elab_model.specs.declared.kinds.ElabKind.{ElabKind}
use Rattle.elab_numbering.specs.Refusals.{RefusesCount}
use Rattle.elab_model.specs.Bits.{Bit, net, constant}
use Rattle.elab_model.specs.Elements.{Component, input_spot, output_element, constant_pass, terminal_elements}
use Rattle.elab_model.specs.Hierarchy.{Instance}
use Rattle.elab_model.specs.Homes.{Spot, terminal, home_of}
use Rattle.elab_model.specs.Names.{Variable}
use Rattle.elab_model.specs.Nets.{OwnNet, number_of, terminal_nets}
use Rattle.elab_laws.specs.Given.{number_of_bit}
use Rattle.elab_laws.specs.Handing.{numbered}
use Rattle.elab_laws.specs.NumberLaws.{numbers_in}
use Rattle.elab_laws.proofs.TerminalNumbers.{terminals-are_numbered}
use Rattle.elab_bits.specs.declared.bits.Bit as code_bit
use Rattle.elab_bits.specs.declared.bits.Bit.TheVariants as bit
use Rattle.elab_bits.specs.Seen.{view_bit, IsInRow}
use Rattle.elab_elements.specs.Adding.{IsHere, HasDriven, HasTerminals}
use Rattle.elab_elements.specs.declared.placing.Placing.{Placing}
use Rattle.elab_elements.specs.Puts.{Puts, RefusesPuts}
use Rattle.elab_elements.specs.Seen.{kind_in, NamesPlaces}
use Rattle.elab_elements.specs.Words.{net_in, output_puts, given_in, input_numbers, constants_in, constant_puts, terminal_puts}
use Rattle.elab_elements.proofs.Putting.{places_in, puts-same, puts-then, refuses-count, refuses-front, refuses-back}
use Rattle.elab_elements.proofs.Meaning.{Means, means-nil, means-one, means-append, means-same, map-map, number-is, driven-number, same-count}

abbrev component_places : List Component → List Place
component_places cs = map (λ c. c.place) cs

-- ---- outputs

output-means : (delays : List GateDelays) (udps : List UdpUse) (all : List OwnNet) (source : Source) (s : Instance) (scope : ℕ) (vs : List Variable) (inside : List ℕ) (place : Place) (k : ElementKind)
    (spots : List Spot) (b : code_bit.Bit) → s.step.number ≡ scope → HasDriven all source s vs inside → NamesPlaces delays udps k → IsInRow vs b
    → Means delays udps all (output_puts scope place k (map (number_of all) spots) inside b) (output_element source s place (kind_in delays udps k) spots (view_bit vs b))
output-means delays udps all source s scope vs inside place k spots (bit.Net i) e h n lt =
    means-one delays udps all scope place (map (number_of all) spots) (net_in inside i) k _ (sym e) refl refl (driven-number all source s vs inside i h lt) refl n
output-means delays udps all source s scope vs inside place k spots (bit.Constant p v) e h n lt = means-nil delays udps all

outputs-mean : (delays : List GateDelays) (udps : List UdpUse) (all : List OwnNet) (source : Source) (s : Instance) (scope : ℕ) (vs : List Variable) (inside : List ℕ) (place : Place) (k : ElementKind)
    (spots : List Spot) (outs : List code_bit.Bit) → s.step.number ≡ scope → HasDriven all source s vs inside → NamesPlaces delays udps k → AllByRecursion (IsInRow vs) outs
    → Means delays udps all (flat_map (output_puts scope place k (map (number_of all) spots) inside) outs) (flat_map (output_element source s place (kind_in delays udps k) spots) (map (view_bit vs) outs))
outputs-mean delays udps all source s scope vs inside place k spots [] e h n l = means-nil delays udps all
outputs-mean delays udps all source s scope vs inside place k spots (b ∷ outs) e h n l =
    means-append delays udps all (output_puts scope place k (map (number_of all) spots) inside b) (flat_map (output_puts scope place k (map (number_of all) spots) inside) outs)
    (output_element source s place (kind_in delays udps k) spots (view_bit vs b)) (flat_map (output_element source s place (kind_in delays udps k) spots) (map (view_bit vs) outs))
    (output-means delays udps all source s scope vs inside place k spots b e h n l.0) (outputs-mean delays udps all source s scope vs inside place k spots outs e h n l.1)

output-places : (source : Source) (s : Instance) (scope : ℕ) (vs : List Variable) (inside : List ℕ) (place : Place) (k : ElementKind) (kk : Kind) (numbers : List ℕ) (spots : List Spot)
    (outs : List code_bit.Bit)
    → places_in (flat_map (output_puts scope place k numbers inside) outs) ≡ component_places (flat_map (output_element source s place kk spots) (map (view_bit vs) outs))
output-places source s scope vs inside place k kk numbers spots [] = refl
output-places source s scope vs inside place k kk numbers spots (bit.Net i ∷ outs) = ap (λ ps. place ∷ ps) (output-places source s scope vs inside place k kk numbers spots outs)
output-places source s scope vs inside place k kk numbers spots (bit.Constant p v ∷ outs) = output-places source s scope vs inside place k kk numbers spots outs

-- ---- constants at inputs

constants-mean : (delays : List GateDelays) (udps : List UdpUse) (all : List OwnNet) (source : Source) (s : Instance) (k scope : ℕ) (vs : List Variable) (j : ℕ) (ins : List code_bit.Bit) → s.step.number ≡ scope
    → Means delays udps all (flat_map (constant_puts scope) (zip ins (map (λ i. number_of all (input_spot source s k i)) (enumerate_from j (map (view_bit vs) ins)))))
    (flat_map (λ i. constant_pass s (terminal s.step.number k i.0) i.1) (enumerate_from j (map (view_bit vs) ins)))
constants-mean delays udps all source s k scope vs j [] h = means-nil delays udps all
constants-mean delays udps all source s k scope vs j (bit.Net i ∷ ins) h = constants-mean delays udps all source s k scope vs (j + 1) ins h
constants-mean delays udps all source s k scope vs j (bit.Constant p v ∷ ins) h =
    means-append delays udps all (constant_puts scope (bit.Constant p v, number_of all (terminal s.step.number k j))) (flat_map (constant_puts scope)
    (zip ins (map (λ i. number_of all (input_spot source s k i)) (enumerate_from (j + 1) (map (view_bit vs) ins)))))
    (constant_pass s (terminal s.step.number k j) (constant p v)) (flat_map (λ i. constant_pass s (terminal s.step.number k i.0) i.1) (enumerate_from (j + 1) (map (view_bit vs) ins)))
    (means-one delays udps all scope p [] (number_of all (terminal s.step.number k j)) (kind.Pass (Some v)) _ (sym h) refl refl refl refl tt)
    (constants-mean delays udps all source s k scope vs (j + 1) ins h)

constant-places : (s : Instance) (k scope : ℕ) (vs : List Variable) (j : ℕ) (ins : List code_bit.Bit) (numbers : List ℕ) → length numbers ≡ length ins
    → places_in (flat_map (constant_puts scope) (zip ins numbers)) ≡ component_places (flat_map (λ i. constant_pass s (terminal s.step.number k i.0) i.1) (enumerate_from j (map (view_bit vs) ins)))
constant-places s k scope vs j [] numbers e = refl
constant-places s k scope vs j (b ∷ ins) [] e = absurd (omega arith)
constant-places s k scope vs j (bit.Net i ∷ ins) (n ∷ numbers) e = constant-places s k scope vs (j + 1) ins numbers (omega arith)
constant-places s k scope vs j (bit.Constant p v ∷ ins) (n ∷ numbers) e = ap (λ ps. p ∷ ps) (constant-places s k scope vs (j + 1) ins numbers (omega arith))

constants-count : (s : Instance) (k : ℕ) (vs : List Variable) (j : ℕ) (ins : List code_bit.Bit)
    → length (flat_map (λ i. constant_pass s (terminal s.step.number k i.0) i.1) (enumerate_from j (map (view_bit vs) ins))) ≡ constants_in ins
constants-count s k vs j [] = refl
constants-count s k vs j (bit.Net i ∷ ins) = constants-count s k vs (j + 1) ins
constants-count s k vs j (bit.Constant p v ∷ ins) = ap suc (constants-count s k vs (j + 1) ins)

-- ---- the numbers of inputs

length-numbered : (n : ℕ) (os : List (Option ℕ)) → length (numbered n os) ≡ length os
length-numbered n [] = refl
length-numbered n (None ∷ os) = ap suc (length-numbered (suc n) os)
length-numbered n (Some k ∷ os) = ap suc (length-numbered n os)

numbers-count : (first : ℕ) (row : List ℕ) (ins : List code_bit.Bit) → length (input_numbers first row ins) ≡ length ins
numbers-count first row ins = length-numbered first (map (given_in row) ins) ∙ length-map ins (given_in row)

given-are : (all : List OwnNet) (source : Source) (s : Instance) (scope : ℕ) (vs : List Variable) (row : List ℕ) (bs : List code_bit.Bit) → IsHere all source s scope vs row → AllByRecursion (IsInRow vs) bs
    → map (given_in row) bs ≡ map (number_of_bit (λ n p. number_of all (home_of source s n p))) (map (view_bit vs) bs)
given-are all source s scope vs row [] h l = refl
given-are all source s scope vs row (bit.Net i ∷ bs) h l =
    let rest = given-are all source s scope vs row bs h l.1 in
    let one = number-is all source s vs row i h.numbers l.0 in
    λ j. Some (one j) ∷ rest j
given-are all source s scope vs row (bit.Constant p v ∷ bs) h l = ap (λ os. None ∷ os) (given-are all source s scope vs row bs h l.1)

numbers-are : (all : List OwnNet) (source : Source) (s : Instance) (scope k first : ℕ) (vs : List Variable) (row : List ℕ) (outs : List Bit) (ins : List code_bit.Bit) → IsHere all source s scope vs row
    → HasTerminals all s k first outs (map (view_bit vs) ins) → AllByRecursion (IsInRow vs) ins
    → input_numbers first row ins ≡ map (λ i. number_of all (input_spot source s k i)) (enumerate_from 0 (map (view_bit vs) ins))
numbers-are all source s scope k first vs row outs ins h t l = by t.output
  where
    empty : (bs : List code_bit.Bit) → map (view_bit vs) bs ≡ [] → input_numbers first row bs ≡ map (λ i. number_of all (input_spot source s k i)) (enumerate_from 0 (map (view_bit vs) bs))
    empty [] e = refl
    empty (b ∷ bs) e = cc

    by : (map (view_bit vs) ins ≡ []) ⊎ ((m : List ℕ) × ((q : ℕ) × ((rest : List Bit) × (outs ≡ net m q ∷ rest))))
        → input_numbers first row ins ≡ map (λ i. number_of all (input_spot source s k i)) (enumerate_from 0 (map (view_bit vs) ins))
    by (inl e) = empty ins e
    by (inr (m, (q, (rest, e)))) =
        ap (numbered first) (given-are all source s scope vs row ins h l)
        ∙ sym (terminals-are_numbered all source s k first (map (view_bit vs) ins) rest m q
        (subst (λ bs. numbers_in all (terminal_nets s k bs (map (view_bit vs) ins)) ≡ range_with_len first (length (terminal_nets s k bs (map (view_bit vs) ins)))) e t.constants))

-- ---- all of a member

pub terminals-mean : (delays : List GateDelays) (udps : List UdpUse) (all : List OwnNet) (source : Source) (s : Instance) (scope k first : ℕ) (vs : List Variable) (row inside : List ℕ) (place : Place)
    (e : ElementKind) (outs ins : List code_bit.Bit) → IsHere all source s scope vs row → HasDriven all source s vs inside → HasTerminals all s k first (map (view_bit vs) outs) (map (view_bit vs) ins)
    → NamesPlaces delays udps e → All (IsInRow vs) outs → All (IsInRow vs) ins
    → Means delays udps all (terminal_puts scope place e row inside first outs ins) (terminal_elements source s place k (kind_in delays udps e) (map (view_bit vs) outs) (map (view_bit vs) ins))
terminals-mean delays udps all source s scope k first vs row inside place e outs ins h d t n a b =
    let spots = map (input_spot source s k) (enumerate_from 0 (map (view_bit vs) ins)) in
    let numbers = map (λ i. number_of all (input_spot source s k i)) (enumerate_from 0 (map (view_bit vs) ins)) in
    let same : numbers ≡ map (number_of all) spots = sym (map-map (number_of all) (input_spot source s k) (enumerate_from 0 (map (view_bit vs) ins))) in
    let law : input_numbers first row ins ≡ numbers = numbers-are all source s scope k first vs row (map (view_bit vs) outs) ins h t (recursion_from_All (IsInRow vs) ins b) in
    means-same delays udps all _ _ _ _
    (λ i. flat_map (output_puts scope place e (sym (law ∙ same) i) inside) outs ++ flat_map (constant_puts scope) (zip ins (sym law i))) refl
    (means-append delays udps all (flat_map (output_puts scope place e (map (number_of all) spots) inside) outs) (flat_map (constant_puts scope) (zip ins numbers))
    (flat_map (output_element source s place (kind_in delays udps e) spots) (map (view_bit vs) outs))
    (flat_map (λ i. constant_pass s (terminal s.step.number k i.0) i.1) (enumerate_from 0 (map (view_bit vs) ins)))
    (outputs-mean delays udps all source s scope vs inside place e spots outs h.number d n (recursion_from_All (IsInRow vs) outs a)) (constants-mean delays udps all source s k scope vs 0 ins h.number))

pub terminals-count : (source : Source) (s : Instance) (scope k first : ℕ) (vs : List Variable) (row inside : List ℕ) (place : Place) (e : ElementKind) (kk : Kind) (outs ins : List code_bit.Bit)
    → length (terminal_puts scope place e row inside first outs ins) ≡ length (terminal_elements source s place k kk (map (view_bit vs) outs) (map (view_bit vs) ins))
terminals-count source s scope k first vs row inside place e kk outs ins =
    let numbers = input_numbers first row ins in
    let f = flat_map (output_puts scope place e numbers inside) outs in
    let g = flat_map (constant_puts scope) (zip ins numbers) in
    same-count (f ++ g) (terminal_elements source s place k kk (map (view_bit vs) outs) (map (view_bit vs) ins))
    (map-append (λ p. p.0) f g ∙ (λ i. output-places source s scope vs inside place e kk numbers (map (input_spot source s k) (enumerate_from 0 (map (view_bit vs) ins))) outs i
    ++ constant-places s k scope vs 0 ins numbers (numbers-count first row ins) i)
    ∙ sym (map-append (λ c. c.place) (flat_map (output_element source s place kk (map (input_spot source s k) (enumerate_from 0 (map (view_bit vs) ins)))) (map (view_bit vs) outs))
    (flat_map (λ i. constant_pass s (terminal s.step.number k i.0) i.1) (enumerate_from 0 (map (view_bit vs) ins)))))

-- no fewer elements than constants at inputs
constants-within : (source : Source) (s : Instance) (k : ℕ) (vs : List Variable) (place : Place) (kk : Kind) (outs ins : List code_bit.Bit)
    → constants_in ins ≤ length (terminal_elements source s place k kk (map (view_bit vs) outs) (map (view_bit vs) ins))
constants-within source s k vs place kk outs ins =
    let parts = length-append (flat_map (output_element source s place kk (map (input_spot source s k) (enumerate_from 0 (map (view_bit vs) ins)))) (map (view_bit vs) outs))
    (flat_map (λ i. constant_pass s (terminal s.step.number k i.0) i.1) (enumerate_from 0 (map (view_bit vs) ins))) in
    let count = constants-count s k vs 0 ins in
    omega (arith, parts, count)

-- ---- what is put is what the member has

terminals-are : (scope first : ℕ) (row inside : List ℕ) (place : Place) (e : ElementKind) (outs ins : List code_bit.Bit) (numbers again : List ℕ)
    → numbers ≡ input_numbers first row ins → again ≡ input_numbers first row ins
    → flat_map (output_puts scope place e numbers inside) outs ++ flat_map (constant_puts scope) (zip ins again) ≡ terminal_puts scope place e row inside first outs ins
terminals-are scope first row inside place e outs ins numbers again c d = λ i. flat_map (output_puts scope place e (c i) inside) outs ++ flat_map (constant_puts scope) (zip ins (d i))

pub terminals-put : (scope first : ℕ) (row inside : List ℕ) (place : Place) (e : ElementKind) (outs ins : List code_bit.Bit) (numbers again : List ℕ) (old mid new : Placing)
    → numbers ≡ input_numbers first row ins → again ≡ input_numbers first row ins → Puts old mid (flat_map (output_puts scope place e numbers inside) outs)
    → Puts mid new (flat_map (constant_puts scope) (zip ins again)) → Puts old new (terminal_puts scope place e row inside first outs ins)
terminals-put scope first row inside place e outs ins numbers again old mid new c d h k =
    puts-same old new _ _ (terminals-are scope first row inside place e outs ins numbers again c d)
    (puts-then old mid new (flat_map (output_puts scope place e numbers inside) outs) (flat_map (constant_puts scope) (zip ins again)) h k)

pub inputs-refused : (source : Source) (s : Instance) (k : ℕ) (vs : List Variable) (place : Place) (kk : Kind) (outs ins : List code_bit.Bit) (old : Placing) (r : Refused ElabKind)
    → ((total : ℕ) → constants_in ins ≤ total → RefusesCount total r)
    → RefusesCount (length old.elements.items + length (terminal_elements source s place k kk (map (view_bit vs) outs) (map (view_bit vs) ins))) r
inputs-refused source s k vs place kk outs ins old r h =
    let few = constants-within source s k vs place kk outs ins in
    h (length old.elements.items + length (terminal_elements source s place k kk (map (view_bit vs) outs) (map (view_bit vs) ins))) (omega (arith, few))

pub outputs-refused : (source : Source) (s : Instance) (scope k first : ℕ) (vs : List Variable) (row inside : List ℕ) (place : Place) (e : ElementKind) (kk : Kind) (outs ins : List code_bit.Bit)
    (numbers : List ℕ) (old : Placing) (r : Refused ElabKind) → numbers ≡ input_numbers first row ins → RefusesPuts old (flat_map (output_puts scope place e numbers inside) outs) r
    → RefusesCount (length old.elements.items + length (terminal_elements source s place k kk (map (view_bit vs) outs) (map (view_bit vs) ins))) r
outputs-refused source s scope k first vs row inside place e kk outs ins numbers old r c h =
    let whole = terminals-are scope first row inside place e outs ins numbers numbers c c in
    let count = ap length whole ∙ terminals-count source s scope k first vs row inside place e kk outs ins in
    refuses-count old (flat_map (output_puts scope place e numbers inside) outs ++ flat_map (constant_puts scope) (zip ins numbers))
    (terminal_elements source s place k kk (map (view_bit vs) outs) (map (view_bit vs) ins)) r
    (omega (arith, count)) (refuses-front old (flat_map (output_puts scope place e numbers inside) outs) (flat_map (constant_puts scope) (zip ins numbers)) r h)

pub constants-refused : (source : Source) (s : Instance) (scope k first : ℕ) (vs : List Variable) (row inside : List ℕ) (place : Place) (e : ElementKind) (kk : Kind) (outs ins : List code_bit.Bit)
    (numbers again : List ℕ) (old mid : Placing) (r : Refused ElabKind) → numbers ≡ input_numbers first row ins → again ≡ input_numbers first row ins
    → Puts old mid (flat_map (output_puts scope place e numbers inside) outs) → RefusesPuts mid (flat_map (constant_puts scope) (zip ins again)) r
    → RefusesCount (length old.elements.items + length (terminal_elements source s place k kk (map (view_bit vs) outs) (map (view_bit vs) ins))) r
constants-refused source s scope k first vs row inside place e kk outs ins numbers again old mid r c d p h =
    let whole = terminals-are scope first row inside place e outs ins numbers again c d in
    let count = ap length whole ∙ terminals-count source s scope k first vs row inside place e kk outs ins in
    refuses-count old (flat_map (output_puts scope place e numbers inside) outs ++ flat_map (constant_puts scope) (zip ins again))
    (terminal_elements source s place k kk (map (view_bit vs) outs) (map (view_bit vs) ins)) r
    (omega (arith, count)) (refuses-back old mid (flat_map (output_puts scope place e numbers inside) outs) (flat_map (constant_puts scope) (zip ins again)) r p h)
