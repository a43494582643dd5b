-- What is given is given to inputs of the circuit.
use Rattle.std.specs.Prelude.{ℕ, ◌≡◌, ◌==◌, Bool, true, false, List, [], ◌∷◌, length, map, filter, flat_map, zip, option_to_list, Option, Some, None, refl, if◌then◌else◌}
use Rattle.std.specs.List.{list_all}
use Rattle.std.proofs.lemmas.Bool.{and_parts}
use Rattle.sg_logic.specs.declared.values.Value.{Value}
use Rattle.sg_circuit.specs.Circuit.{Circuit, Variable}
use Rattle.sg_stimulus.specs.Applied.{IsInput}
use Rattle.stim_read.specs.Inputs.{is_input_net, nets_of}
use Rattle.stim_read.proofs.InputLaws.{found-pass, input-net}
use Rattle.vcd_form.specs.Written.{Declaration, Item, instant, nothing, real, value}
use Rattle.vcd_model.specs.Inputs.{called, index_of, input_of, nets_at, of_width}
use Rattle.vcd_model.specs.Values.{bits_given, bits_of, given_by, given_to, is_of_code, Given}
use Rattle.vcd_stim.specs.Steps.{Each}
use Rattle.vcd_stim.proofs.Lists.{each-append, each-map}

abbrev pub GivesInputs : Circuit → List Given → Type 0
GivesInputs circuit gs = Each (λ g. IsInput circuit g.net) gs

each-flat : {A B : Type 0} (P : B → Type 0) (f : A → List B) → ((x : A) → Each P (f x)) → (xs : List A) → Each P (flat_map f xs)
each-flat P f h [] = tt
each-flat P f h (x ∷ xs) = each-append P (f x) (flat_map f xs) (h x) (each-flat P f h xs)

zipped : (circuit : Circuit) (nets : List ℕ) (vs : List Value) → list_all (is_input_net circuit) nets ≡ true → Each (λ c. IsInput circuit c.0) (zip nets vs)
zipped circuit [] vs h = tt
zipped circuit (n ∷ ns) [] h = tt
zipped circuit (n ∷ ns) (v ∷ vs) h =
    let p = and_parts (is_input_net circuit n) (list_all (is_input_net circuit) ns) h in
    (input-net circuit n p.0, zipped circuit ns vs p.1)

width-nets : (width : ℕ) (o : Option (List ℕ)) (nets : List ℕ) → of_width width o ≡ Some nets → o ≡ Some nets
width-nets width None nets e = absurd (cc)
width-nets width (Some ms) nets e = by (length ms == width) e
  where
    by : (b : Bool) → (if b then Some ms else None) ≡ Some nets → Some ms ≡ Some nets
    by true k = k
    by false k = absurd (cc)

given-one : (circuit : Circuit) (bits : List ℕ) (d : Declaration) (v : Variable) (o : Option (List ℕ)) → input_of circuit d ≡ Some v → nets_at d v ≡ o → Each (λ c. IsInput circuit c.0) (bits_given bits o)
given-one circuit bits d v None e k = tt
given-one circuit bits d v (Some nets) e k =
    zipped circuit nets (bits_of (length nets) bits)
    (found-pass circuit (called d).0 (index_of (called d).1) (Some v) nets e (width-nets d.width (nets_of (index_of (called d).1) v) nets k))

given-found : (circuit : Circuit) (bits : List ℕ) (d : Declaration) (o : Option Variable) → input_of circuit d ≡ o → Each (λ c. IsInput circuit c.0) (flat_map (λ v. bits_given bits (nets_at d v)) (option_to_list o))
given-found circuit bits d None e = tt
given-found circuit bits d (Some v) e = each-append (λ c. IsInput circuit c.0) (bits_given bits (nets_at d v)) [] (given-one circuit bits d v (nets_at d v) e refl) tt

pub given-inputs : (circuit : Circuit) (ds : List Declaration) (now : ℕ) (i : Item) → GivesInputs circuit (given_by circuit ds (now, i))
given-inputs circuit ds now nothing = tt
given-inputs circuit ds now (instant byte digits) = tt
given-inputs circuit ds now (real byte code_byte code) = tt
given-inputs circuit ds now (value byte code_byte bits code) =
    each-map (λ g. IsInput circuit g.net) (λ c. record { time = now; net = c.0; value = c.1 }) (flat_map (given_to circuit bits) (filter (is_of_code code) ds))
    (each-flat (λ c. IsInput circuit c.0) (given_to circuit bits) (λ d. given-found circuit bits d (input_of circuit d) refl) (filter (is_of_code code) ds))

pub all-inputs : (circuit : Circuit) (ds : List Declaration) (is : List (ℕ × Item)) → GivesInputs circuit (flat_map (given_by circuit ds) is)
all-inputs circuit ds is = each-flat (λ g. IsInput circuit g.net) (given_by circuit ds) (λ i. given-inputs circuit ds i.0 i.1) is

pub given-now : (circuit : Circuit) (ds : List Declaration) (now : ℕ) (i : Item) → Each (λ g. g.time ≡ now) (given_by circuit ds (now, i))
given-now circuit ds now nothing = tt
given-now circuit ds now (instant byte digits) = tt
given-now circuit ds now (real byte code_byte code) = tt
given-now circuit ds now (value byte code_byte bits code) = over (flat_map (given_to circuit bits) (filter (is_of_code code) ds))
  where
    over : (cs : List (ℕ × Value)) → Each (λ (g : Given). g.time ≡ now) (map (λ c. record { time = now; net = c.0; value = c.1 }) cs)
    over [] = tt
    over (c ∷ cs) = (refl, over cs)
