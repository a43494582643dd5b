-- What a value gives to the inputs of its code, by the table of codes.
use Rattle.std.specs.Prelude.{ℕ, ◌+◌, ◌≡◌, ◌==◌, ◌&&◌, nat_lt, Bool, true, false, cond, List, [], ◌∷◌, ◌++◌, length, map, filter, flat_map, option_to_list, Option, Some, None, is_some, refl, if◌then◌else◌}
use Rattle.std.specs.Option.{option_and_then}
use Rattle.std.proofs.Common.{sym, ◌∙◌, ap}
use Rattle.std.proofs.lemmas.Bool.{eqb-true}
use Rattle.sg_logic.specs.declared.values.Value.{Value}
use Rattle.sg_circuit.specs.Circuit.{Circuit, Variable}
use Rattle.vcd_form.specs.Written.{Declaration}
use Rattle.vcd_model.specs.declared.kinds.VcdKind.TheVariants.{Syntax, WidthMismatch}
use Rattle.vcd_model.specs.Faults.{fault, fault_if, inputs_of, length_faults, variable_faults, width_faults, Fault, Header}
use Rattle.vcd_model.specs.Inputs.{input_of, nets_at, of_width}
use Rattle.vcd_model.specs.Values.{bits_given, given_to, is_of_code, Given}
use Rattle.vcd_stim.specs.Index.{nets_coded, nets_meant}
use Rattle.vcd_stim.specs.Steps.{nets_faults, nets_given, pairs}

pub no-left : {A : Type 0} (xs ys : List A) → xs ++ ys ≡ [] → xs ≡ []
no-left [] ys h = refl
no-left (x ∷ xs) ys h = absurd (cc)

pub no-right : {A : Type 0} (xs ys : List A) → xs ++ ys ≡ [] → ys ≡ []
no-right [] ys h = h
no-right (x ∷ xs) ys h = absurd (cc)

pub flat-apart : {A B : Type 0} (f : A → List B) (xs ys : List A) → flat_map f (xs ++ ys) ≡ flat_map f xs ++ flat_map f ys
flat-apart f [] ys = refl
flat-apart f (x ∷ xs) ys = ap (λ l. f x ++ l) (flat-apart f xs ys) ∙ assoc (f x) (flat_map f xs) (flat_map f ys)
  where
    assoc : {B : Type 0} (ps bs cs : List B) → ps ++ (bs ++ cs) ≡ (ps ++ bs) ++ cs
    assoc [] bs cs = refl
    assoc (p ∷ ps) bs cs = ap (λ l. p ∷ l) (assoc ps bs cs)

-- ---- what one declaration is given

nets-of-one : (bits : List ℕ) (o : Option (List ℕ)) → bits_given bits o ++ [] ≡ flat_map (nets_given bits) (option_to_list o)
nets-of-one bits None = refl
nets-of-one bits (Some nets) = refl

given-to-one : (bits : List ℕ) (d : Declaration) (o : Option Variable) → flat_map (λ v. bits_given bits (nets_at d v)) (option_to_list o) ≡ flat_map (nets_given bits) (option_to_list (option_and_then (nets_at d) o))
given-to-one bits d None = refl
given-to-one bits d (Some v) = nets-of-one bits (nets_at d v)

pub given-coded : (circuit : Circuit) (bits code : List ℕ) (ds : List Declaration)
    → flat_map (given_to circuit bits) (filter (is_of_code code) ds) ≡ flat_map (nets_given bits) (nets_coded circuit ds code)
given-coded circuit bits code ds = over (filter (is_of_code code) ds)
  where
    over : (es : List Declaration) → flat_map (given_to circuit bits) es ≡ flat_map (nets_given bits) (flat_map (λ d. option_to_list (nets_meant circuit d)) es)
    over [] = refl
    over (e ∷ es) =
        ap (λ l. l ++ flat_map (given_to circuit bits) es) (given-to-one bits e (input_of circuit e))
        ∙ ap (λ l. flat_map (nets_given bits) (option_to_list (nets_meant circuit e)) ++ l) (over es)
        ∙ sym (flat-apart (nets_given bits) (option_to_list (nets_meant circuit e)) (flat_map (λ d. option_to_list (nets_meant circuit d)) es))

abbrev pub given_at : ℕ → List (ℕ × Value) → List Given
given_at now cs = map (λ c. record { time = now; net = c.0; value = c.1 }) cs

pub pairs-given : (now : ℕ) (cs : List (ℕ × Value)) → pairs (given_at now cs) ≡ cs
pairs-given now [] = refl
pairs-given now (c ∷ cs) = ap (λ l. c ∷ l) (pairs-given now cs)

-- ---- the declarations of inputs with a code, and their nets

-- in a declaration without a fault the width is that of the nets
width-is : (d : Declaration) (o : Option (List ℕ)) (nets : List ℕ) → of_width d.width o ≡ Some nets → length nets ≡ d.width
width-is d None nets e = absurd (cc)
width-is d (Some ms) nets e = by (length ms == d.width) refl e
  where
    by : (b : Bool) → (length ms == d.width) ≡ b → (if b then Some ms else None) ≡ Some nets → length nets ≡ d.width
    by true k e2 = let same : ms ≡ nets = cc in ap length (sym same) ∙ eqb-true (length ms) d.width k
    by false k e2 = absurd (cc)

has-nets : (byte : ℕ) (o : Option (List ℕ)) → width_faults byte o ≡ [] → (nets : List ℕ) × (o ≡ Some nets)
has-nets byte None h = absurd (cc)
has-nets byte (Some nets) h = (nets, refl)

-- what is said of each declaration of an input with the code is said of its nets
coded-same : (circuit : Circuit) (code : List ℕ) (f : Declaration → List Fault) (g : List ℕ → List Fault) → ((d : Declaration) (nets : List ℕ) → length nets ≡ d.width → f d ≡ g nets) → (ds : List Declaration)
    → flat_map (λ d. variable_faults d (input_of circuit d)) ds ≡ []
    → flat_map f (filter (λ d. is_of_code code d && is_some (input_of circuit d)) ds) ≡ flat_map g (nets_coded circuit ds code)
coded-same circuit code f g same [] h = refl
coded-same circuit code f g same (d ∷ ds) h =
    by (is_of_code code d) (input_of circuit d) refl (no-left _ _ h) (coded-same circuit code f g same ds (no-right (variable_faults d (input_of circuit d)) _ h))
  where
    rest : List Declaration
    rest = filter (λ e. is_of_code code e && is_some (input_of circuit e)) ds

    coded : List Declaration
    coded = filter (is_of_code code) ds

    nets_from : List Declaration → List (List ℕ)
    nets_from es = flat_map (λ e. option_to_list (nets_meant circuit e)) es

    one : (v : Variable) → input_of circuit d ≡ Some v → (nets : List ℕ) × (nets_at d v ≡ Some nets) → flat_map f rest ≡ flat_map g (nets_from coded) → flat_map f (d ∷ rest) ≡ flat_map g (nets_from (d ∷ coded))
    one v e (nets, k) ih =
        let meant : nets_meant circuit d ≡ Some nets = ap (option_and_then (nets_at d)) e ∙ k in
        ap (λ l. l ++ flat_map f rest) (same d nets (width-is d _ nets k)) ∙ ap (λ l. g nets ++ l) ih
        ∙ sym (ap (λ o. flat_map g (option_to_list o ++ nets_from coded)) meant)

    none : input_of circuit d ≡ None → flat_map f rest ≡ flat_map g (nets_from coded) → flat_map f rest ≡ flat_map g (nets_from (d ∷ coded))
    none e ih =
        let meant : nets_meant circuit d ≡ None = ap (option_and_then (nets_at d)) e in
        ih ∙ sym (ap (λ o. flat_map g (option_to_list o ++ nets_from coded)) meant)

    by : (b : Bool) (o : Option Variable) → input_of circuit d ≡ o → variable_faults d o ≡ [] → flat_map f rest ≡ flat_map g (nets_from coded)
        → flat_map f (cond (b && is_some o) (d ∷ rest) rest) ≡ flat_map g (nets_from (cond b (d ∷ coded) coded))
    by false o e k ih = ih
    by true None e k ih = none e ih
    by true (Some v) e k ih = one v e (has-nets d.byte (nets_at d v) k) ih

pub lengths-coded : (h : Header) (byte : ℕ) (bits code : List ℕ) → flat_map (λ d. variable_faults d (input_of h.circuit d)) h.own ≡ []
    → flat_map (length_faults byte bits) (inputs_of h code) ≡ flat_map (nets_faults byte bits) (nets_coded h.circuit h.own code)
lengths-coded h byte bits code faultless =
    coded-same h.circuit code (length_faults byte bits) (nets_faults byte bits) (λ d nets e. ap (λ w. fault_if (nat_lt w (length bits)) WidthMismatch byte) (sym e)) h.own faultless

pub reals-coded : (h : Header) (byte : ℕ) (code : List ℕ) → flat_map (λ d. variable_faults d (input_of h.circuit d)) h.own ≡ []
    → flat_map (λ d. fault Syntax byte ∷ []) (inputs_of h code) ≡ flat_map (λ nets. fault Syntax byte ∷ []) (nets_coded h.circuit h.own code)
reals-coded h byte code faultless = coded-same h.circuit code (λ d. fault Syntax byte ∷ []) (λ nets. fault Syntax byte ∷ []) (λ d nets e. refl) h.own faultless
