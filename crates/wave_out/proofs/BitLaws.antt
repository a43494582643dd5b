-- The nets of the variables' bits, variable after variable.
use Rattle.std.proofs.Common.{◌≡◌, ◌∙◌, sym, ap, refl, subst, ℕ, ◌+◌, ◌<◌, ◌≤◌, List, [], ◌∷◌, ◌++◌, length, flat_map, get_or, map, take, arith, append_assoc}
use Rattle.std.specs.Prelude.{◌≢◌, All}
use Rattle.std.proofs.lemmas.Bool.Decides.{nat_tests}
use Rattle.std.proofs.lemmas.List.{append-nil, ext_get_or, get_or_append_left, get_or_past, get_or_push, length-append, map-append, map_more, take_all, take_more}
use Rattle.std.proofs.lemmas.List.Concat.{flat_map-append}
use Rattle.std.proofs.lemmas.List.Elements.{All-append, All-map}
use Rattle.sg_circuit.specs.declared.building.Pin.{Pin}
use Rattle.sg_circuit.specs.Circuit.{Circuit}
use Rattle.sg_circuit.specs.Pins.{elements_on, pins_from, HasPins}
use Rattle.sg_circuit.proofs.FanLaws.{pins_within}
use Rattle.sg_circuit.proofs.PinLaws.{picked-append}
use Rattle.wave_out.specs.declared.scopes.Visit.{Visit}
use Rattle.wave_out.specs.Scopes.{variables_at, variables_of, visits}
use Rattle.wave_out.specs.Walk.{bit_pins, HasBits}

own_bits : (k : ℕ) (bs : List ℕ) → elements_on k (bit_pins k bs) ≡ bs
own_bits k [] = refl
own_bits k (b ∷ bs) = grind (arith, nat_tests, own_bits k bs)

other_bits : (j k : ℕ) (bs : List ℕ) → j ≢ k → elements_on j (bit_pins k bs) ≡ []
other_bits j k [] n = refl
other_bits j k (b ∷ bs) n = grind (arith, nat_tests, other_bits j k bs n)

-- one variable more
more_bits : (bits more : List (List ℕ)) (b : List ℕ) (k k' : ℕ) (pins pins' : List Pin) → more ≡ bits ++ b ∷ [] → k' ≡ k + 1 → pins' ≡ pins ++ bit_pins k b → HasBits bits k pins → HasBits more k' pins'
more_bits bits more b k k' pins pins' is m e h = record {
  many = ap length is ∙ (length-append bits (b ∷ []) ∙ (ap (λ n. n + 1) h.many ∙ sym m));
  within = subst (λ ps. All (λ (p : Pin). p.net < k') ps) (sym e)
      (All-append (λ (p : Pin). p.net < k') pins (bit_pins k b) (λ i d l. omega (arith, h.within i d l)) (All-map (λ (p : Pin). p.net < k') (λ n. record { net = k; element = n }) b (λ i d l. omega arith)));
  each = λ j. ap (elements_on j) e ∙ (grind (arith, picked-append, h.many, h.each j, length-append, get_or_push, get_or_past, get_or_append_left, append-nil, own_bits, other_bits) ∙ sym (ap (λ bs. get_or bs j []) is));
}

-- the same of things that have bits, up to the i-th
pub bits_step : {V : Type 0} (items : V → List ℕ) (vs : List V) (i : ℕ) (v : V) (bits : List (List ℕ)) (n n' : ℕ) (pins pins' : List Pin) → i < length vs → v ≡ get_or vs i v → pins' ≡ pins ++ bit_pins n (items v) → n' ≡ n + 1
    → HasBits (bits ++ map items (take i vs)) n pins → HasBits (bits ++ map items (take (i + 1) vs)) n' pins'
bits_step items vs i v bits n n' pins pins' l is e m h =
    more_bits (bits ++ map items (take i vs)) _ (items v) n n' pins pins'
    (ap (λ bs. bits ++ bs) (map_more items vs i v l ∙ ap (λ x. map items (take i vs) ++ items x ∷ []) (sym is)) ∙ sym (append_assoc bits (map items (take i vs)) (items v ∷ []))) m e h

-- things that stand in groups, one group more
pub group_step : {G V : Type 0} (items : V → List ℕ) (vs : G → List V) (gs : List G) (i : ℕ) (d : G) → i < length gs
    → map items (flat_map vs (take (i + 1) gs)) ≡ map items (flat_map vs (take i gs)) ++ map items (vs (get_or gs i d))
group_step items vs gs i d l =
    ap (λ xs. map items (flat_map vs xs)) (take_more gs i d l)
    ∙ (ap (map items) (flat_map-append vs (take i gs) (get_or gs i d ∷ []) ∙ ap (λ xs. flat_map vs (take i gs) ++ xs) (append-nil (vs (get_or gs i d))))
    ∙ map-append items (flat_map vs (take i gs)) (vs (get_or gs i d)))

pub all_bits : (seen circuit : Circuit) (order : List Visit) (i : ℕ) → length order ≤ i → order ≡ visits circuit → seen ≡ circuit → map (λ x. x.bits) (flat_map (variables_at seen) (take i order)) ≡ map (λ x. x.bits) (variables_of circuit)
all_bits seen circuit order i l e same =
    ap (λ o. map (λ x. x.bits) (flat_map (variables_at seen) o)) (take_all i order l ∙ e) ∙ ap (λ c. map (λ x. x.bits) (flat_map (variables_at c) (visits circuit))) same

-- the table of these pins has the bits
pub bits_are : (bits table : List (List ℕ)) (k : ℕ) (pins ps : List Pin) → HasBits bits k pins → ps ≡ pins → HasPins ps table → length table ≡ k → table ≡ bits
bits_are bits table k pins ps h e p many =
    ext_get_or [] table bits (many ∙ sym h.many) (λ i l. p.each i l ∙ (ap (elements_on i) e ∙ h.each i))

-- the pins of the variables are at nets of the circuit
pub index_within : (n : ℕ) (bits : List (List ℕ)) (pins ps : List Pin) → All (λ bs. All (λ b. b < n) bs) bits → pins ≡ pins_from 0 bits → ps ≡ pins → All (λ (p : Pin). p.net < n) ps
index_within n bits pins ps h e same = subst (λ qs. All (λ (p : Pin). p.net < n) qs) (sym (same ∙ e)) (pins_within n 0 bits h)
