-- Sets are of the top's inputs, and a statement sets each net once.
use Rattle.std.proofs.Common.{inl, inr, zero, suc, ℕ, ◌≡◌, ◌≢◌, ◌==◌, ◌&&◌, ◌||◌, List, [], ◌∷◌, length, Bool, true, false, nat_lt, refl, sym, ap, ◌∙◌, Some, None}
use Rattle.std.specs.Prelude.{Option, All, find, zip, flat_map, slice_get, option_map, option_and_then, bytes_eq}
use Rattle.std.specs.List.{list_all}
use Rattle.std.proofs.lemmas.Bool.{cases_Bool, and_parts, eqb-false, ltb-true}
use Rattle.std.proofs.lemmas.List.Elements.{All-nil, All-cons, All-head, All-tail, All-append}
use Rattle.sg_logic.specs.declared.values.Value.{Value}
use Rattle.sg_circuit.specs.declared.nets.Driver.{Driver}
use Rattle.sg_circuit.specs.declared.nets.Driver.TheVariants as driver
use Rattle.sg_circuit.specs.Circuit.{Circuit, Variable, net_at, scope_at}
use Rattle.sg_stimulus.specs.Applied.{IsInput, SetsNot, SetsOnce}
use Rattle.stim_read.specs.Sets.{Set}
use Rattle.stim_read.specs.Inputs.{is_stimulated, is_input_net, is_input, input_named, nets_of, nets_named, position_at, index_value, bits_from, bits_set, is_set, last_of_each, all_set}

-- ---- the last set of each net

or-off : (a b : Bool) → (a || b) ≡ false → (a ≡ false) × (b ≡ false)
or-off true b e = absurd (cc)
or-off false b e = (refl, e)

last-not : (net : ℕ) (cs : List (ℕ × Value)) → is_set net cs ≡ false → SetsNot net (last_of_each cs)
last-not net [] h = All-nil (λ c. c.0 ≢ net)
last-not net (c ∷ cs) h =
    let off = or-off (c.0 == net) (is_set net cs) h in
    elim (cases_Bool (is_set c.0 cs)) [
      | inl y ↦ rw y (last-not net cs off.1)
      | inr n ↦ rw n (All-cons (λ c. c.0 ≢ net) c (last_of_each cs) (eqb-false c.0 net off.0) (last-not net cs off.1))
    ]

pub last-once : (cs : List (ℕ × Value)) → SetsOnce (last_of_each cs)
last-once [] = tt
last-once (c ∷ cs) = elim (cases_Bool (is_set c.0 cs)) [
  | inl y ↦ rw y (last-once cs)
  | inr n ↦ rw n (last-not c.0 cs n, last-once cs)
]

last-all : (circuit : Circuit) (cs : List (ℕ × Value)) → All (λ c. IsInput circuit c.0) cs → All (λ c. IsInput circuit c.0) (last_of_each cs)
last-all circuit [] h = h
last-all circuit (c ∷ cs) h = elim (cases_Bool (is_set c.0 cs)) [
  | inl y ↦ rw y (last-all circuit cs (All-tail (λ c. IsInput circuit c.0) c cs h))
  | inr n ↦ rw n (All-cons (λ c. IsInput circuit c.0) c (last_of_each cs) (All-head (λ c. IsInput circuit c.0) c cs h) (last-all circuit cs (All-tail (λ c. IsInput circuit c.0) c cs h)))
]

-- ---- nets of inputs

stimulated-is : (d : Driver) → is_stimulated d ≡ true → d ≡ driver.Stimulus
stimulated-is driver.Nobody e = absurd (cc)
stimulated-is driver.Stimulus e = refl
stimulated-is (driver.Element n) e = absurd (cc)
stimulated-is driver.Notifier e = absurd (cc)

pub input-net : (circuit : Circuit) (n : ℕ) → is_input_net circuit n ≡ true → IsInput circuit n
input-net circuit n e =
    let p = and_parts (nat_lt n (length circuit.nets)) (is_stimulated (net_at circuit n).driver) e in
    (ltb-true n (length circuit.nets) p.0, stimulated-is (net_at circuit n).driver p.1)

zipped : (circuit : Circuit) (nets : List ℕ) (vs : List Value) → list_all (is_input_net circuit) nets ≡ true → All (λ c. IsInput circuit c.0) (zip nets vs)
zipped circuit [] vs h = All-nil (λ c. IsInput circuit c.0)
zipped circuit (n ∷ ns) [] h = All-nil (λ c. IsInput circuit c.0)
zipped circuit (n ∷ ns) (v ∷ vs) h =
    let p = and_parts (is_input_net circuit n) (list_all (is_input_net circuit) ns) h in
    All-cons (λ c. IsInput circuit c.0) (n, v) (zip ns vs) (input-net circuit n p.0) (zipped circuit ns vs p.1)

find-passes : {A : Type 0} (p : A → Bool) (xs : List A) (x : A) → find p xs ≡ Some x → p x ≡ true
find-passes p [] x e = absurd (cc)
find-passes p (y ∷ ys) x e = elim (cases_Bool (p y)) [
  | inl on ↦
      let same : Some y ≡ Some x = rw on at e in
      let is : y ≡ x = cc in
      ap p (sym is) ∙ on
  | inr off ↦ find-passes p ys x (rw off at e)
]

get-passes : (p : ℕ → Bool) (xs : List ℕ) (i : ℕ) (x : ℕ) → list_all p xs ≡ true → slice_get xs i ≡ Some x → p x ≡ true
get-passes p [] i x h e = absurd (cc)
get-passes p (y ∷ ys) zero x h e = let is : y ≡ x = cc in ap p (sym is) ∙ (and_parts (p y) (list_all p ys) h).0
get-passes p (y ∷ ys) (suc i) x h e = get-passes p ys i x (and_parts (p y) (list_all p ys) h).1 e

bit-passes : (p : ℕ → Bool) (bits nets : List ℕ) (place : Option ℕ) → list_all p bits ≡ true → option_map (λ net. net ∷ []) (option_and_then (slice_get bits) place) ≡ Some nets → list_all p nets ≡ true
bit-passes p bits nets None h e = absurd (cc)
bit-passes p bits nets (Some i) h e = by (slice_get bits i) refl e
  where
    by : (got : Option ℕ) → slice_get bits i ≡ got → option_map (λ net. net ∷ []) got ≡ Some nets → list_all p nets ≡ true
    by None g k = absurd (cc)
    by (Some x) g k =
        let same : x ∷ [] ≡ nets = cc in
        let passes : p x ≡ true = get-passes p bits i x h g in
        ap (list_all p) (sym same) ∙ (rw passes refl)

nets-pass : (circuit : Circuit) (index : Option (List ℕ)) (v : Variable) (nets : List ℕ) → is_input circuit v ≡ true → nets_of index v ≡ Some nets → list_all (is_input_net circuit) nets ≡ true
nets-pass circuit None v nets h e = let same : v.bits ≡ nets = cc in ap (list_all (is_input_net circuit)) (sym same) ∙ h
nets-pass circuit (Some index) v nets h e = bit-passes (is_input_net circuit) v.bits nets (position_at v.range (index_value index)) h e

pub found-pass : (circuit : Circuit) (name : List ℕ) (index : Option (List ℕ)) (found : Option Variable) (nets : List ℕ) → input_named circuit name ≡ found → option_and_then (nets_of index) found ≡ Some nets → list_all (is_input_net circuit) nets ≡ true
found-pass circuit name index None nets e k = absurd (cc)
found-pass circuit name index (Some v) nets e k = nets-pass circuit index v nets (and_parts (bytes_eq v.name name) (is_input circuit v) (find-passes (λ x. bytes_eq x.name name && is_input circuit x) (scope_at circuit 0).variables v e)).1 k

bits-input : (circuit : Circuit) (digits : List ℕ) (named : Option (List ℕ)) → ((nets : List ℕ) → named ≡ Some nets → list_all (is_input_net circuit) nets ≡ true) → All (λ c. IsInput circuit c.0) (bits_from digits named)
bits-input circuit digits None h = All-nil (λ c. IsInput circuit c.0)
bits-input circuit digits (Some nets) h = zipped circuit nets _ (h nets refl)

set-input : (circuit : Circuit) (s : Set) → All (λ c. IsInput circuit c.0) (bits_set circuit s)
unfolding bits_set
set-input circuit s = bits-input circuit s.digits (nets_named circuit s.target) (λ nets e. found-pass circuit s.target.name s.target.index (input_named circuit s.target.name) nets refl e)

sets-input : (circuit : Circuit) (sets : List Set) → All (λ c. IsInput circuit c.0) (flat_map (bits_set circuit) sets)
sets-input circuit [] = All-nil (λ c. IsInput circuit c.0)
sets-input circuit (s ∷ ss) = All-append (λ c. IsInput circuit c.0) (bits_set circuit s) (flat_map (bits_set circuit) ss) (set-input circuit s) (sets-input circuit ss)

pub all-input : (circuit : Circuit) (sets : List Set) → All (λ c. IsInput circuit c.0) (all_set circuit sets)
all-input circuit sets = last-all circuit (flat_map (bits_set circuit) sets) (sets-input circuit sets)
