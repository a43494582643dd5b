-- The items of a run's dump, without their places, and what they give to inputs.
use Rattle.std.specs.Prelude.{◌≡◌, ℕ, suc, ◌==◌, ◌&&◌, ◌||◌, ◌⊎◌, Bool, true, false, not, if◌then◌else◌, All, List, [], ◌∷◌, ◌++◌, ◌-◌, length, map, filter, flat_map, zip, replicate, decimal, Option, Some, None, refl}
use Rattle.std.specs.List.{AllByRecursion, list_any}
use Rattle.std.proofs.Common.{sym, ◌∙◌, ap, subst, arith, inl, inr}
use Rattle.std.proofs.lemmas.Bool.{and_from, eq-eqb, eqb-true, or_left, or_right}
use Rattle.std.proofs.lemmas.List.{append-nil, length-map}
use Rattle.std.proofs.lemmas.List.Concat.{flat_map-append}
use Rattle.std.proofs.lemmas.List.Elements.{All-head, All-tail}
use Rattle.std.proofs.lemmas.List.Folds.{list_any-append}
use Rattle.sg_logic.specs.declared.values.Value.{Value}
use Rattle.sg_logic.specs.declared.values.Value.TheVariants.{Zero, One, X, Z}
use Rattle.sg_logic.specs.Values.{is_same}
use Rattle.sg_model.specs.Values.{value_at}
use Rattle.sg_model.specs.Machine.{Snapshot}
use Rattle.sg_model.specs.Time.{any_differs}
use Rattle.sg_model.proofs.PlacingSteps.{same-self}
use Rattle.sg_time.specs.Spelling.{number_from}
use Rattle.sg_circuit.specs.Circuit.{Circuit, Variable}
use Rattle.sg_stimulus.specs.Applied.{IsInput}
use Rattle.wave_out.specs.Vcd.{any_variable_differs, code, value_letter, values_at}
use Rattle.vcd_form.specs.Written.{Declaration, Item, instant, nothing, real, value}
use Rattle.vcd_model.specs.Stimulus.{is_given}
use Rattle.vcd_model.specs.Values.{bits_of, filler, given_by, given_to, is_of_code, timed, value_of, Given}
use Rattle.run_laws.specs.Inputs.{Changes}

-- ---- the items

abbrev pub numbered : {A B : Type 0} → (ℕ → A → List B) → ℕ → List A → List B
numbered f k [] = []
numbered f k (x ∷ xs) = f k x ++ numbered f (suc k) xs

-- the value of the k-th variable
abbrev pub value_item : List Value → ℕ → Variable → List Item
value_item values k v = value 0 0 (map value_letter (values_at v.bits values)) (code k) ∷ []

-- its value where it differs
abbrev pub some_item : (Variable → Bool) → List Value → ℕ → Variable → List Item
some_item test values k v = if test v then value_item values k v else []

abbrev pub change_item : List Value → List Value → ℕ → Variable → List Item
change_item old new k v = if any_differs old new v.bits then value_item new k v else []

-- the items of a first and of a later block
abbrev pub first_items : List Variable → Snapshot → List Item
first_items vs s = instant 0 (decimal s.time) ∷ nothing ∷ (numbered (value_item s.values) 0 vs ++ nothing ∷ [])

abbrev pub later_items : List Variable → List Value → Snapshot → List Item
later_items vs old s = instant 0 (decimal s.time) ∷ numbered (change_item old s.values) 0 vs

-- what was written, as items: they, and the time and the values of the last block
pub record Shown : Type 0 where
  pub items : List Item
  pub time : ℕ
  pub values : List Value

abbrev pub shown_with : List Variable → Snapshot → Option Shown → Option Shown
shown_with vs s None = Some (record { items = first_items vs s; time = s.time; values = s.values })
shown_with vs s (Some d) =
    if any_variable_differs vs d.values s.values then Some (record { items = d.items ++ later_items vs d.values s; time = s.time; values = s.values })
    else Some d

abbrev pub shown : List Variable → List Snapshot → Option Shown
shown vs [] = None
shown vs (s ∷ older) = shown_with vs s (shown vs older)

abbrev pub end_items : ℕ → Shown → List Item
end_items end d = if d.time == end then [] else instant 0 (decimal end) ∷ []

abbrev pub items_of : Option Shown → List Item
items_of None = []
items_of (Some d) = d.items

abbrev pub ending_items : ℕ → Option Shown → List Item
ending_items end None = instant 0 (decimal end) ∷ []
ending_items end (Some d) = end_items end d

-- ---- what items give behind a time

abbrev pub given_from : Circuit → List Declaration → ℕ → List Item → List Given
given_from circuit ds now items = flat_map (given_by circuit ds) (timed now items)

-- the time behind items
abbrev pub now_after : ℕ → List Item → ℕ
now_after now [] = now
now_after now (instant byte digits ∷ is) = now_after (number_from 0 digits) is
now_after now (nothing ∷ is) = now_after now is
now_after now (value b c bits code ∷ is) = now_after now is
now_after now (real b c code ∷ is) = now_after now is

timed-append : (now : ℕ) (xs ys : List Item) → timed now (xs ++ ys) ≡ timed now xs ++ timed (now_after now xs) ys
timed-append now [] ys = refl
timed-append now (instant b digits ∷ xs) ys = ap (λ zs. (now, instant b digits) ∷ zs) (timed-append (number_from 0 digits) xs ys)
timed-append now (nothing ∷ xs) ys = ap (λ zs. (now, nothing) ∷ zs) (timed-append now xs ys)
timed-append now (value b c bits code ∷ xs) ys = ap (λ zs. (now, value b c bits code) ∷ zs) (timed-append now xs ys)
timed-append now (real b c code ∷ xs) ys = ap (λ zs. (now, real b c code) ∷ zs) (timed-append now xs ys)

pub given_from-append : (circuit : Circuit) (ds : List Declaration) (now : ℕ) (xs ys : List Item) → given_from circuit ds now (xs ++ ys) ≡ given_from circuit ds now xs ++ given_from circuit ds (now_after now xs) ys
given_from-append circuit ds now xs ys =
    ap (flat_map (given_by circuit ds)) (timed-append now xs ys) ∙ flat_map-append (given_by circuit ds) (timed now xs) (timed (now_after now xs) ys)

pub now_after-append : (now : ℕ) (xs ys : List Item) → now_after now (xs ++ ys) ≡ now_after (now_after now xs) ys
now_after-append now [] ys = refl
now_after-append now (instant b digits ∷ xs) ys = now_after-append (number_from 0 digits) xs ys
now_after-append now (nothing ∷ xs) ys = now_after-append now xs ys
now_after-append now (value b c bits code ∷ xs) ys = now_after-append now xs ys
now_after-append now (real b c code ∷ xs) ys = now_after-append now xs ys

-- ---- how a variable is read

-- a value with its code goes to these bits
abbrev pub bits_read : Circuit → List Declaration → (bits code : List ℕ) → List (ℕ × Value)
bits_read circuit ds bits code = flat_map (given_to circuit bits) (filter (is_of_code code) ds)

-- the k-th variable is an input, and a value with its code goes to its bits
pub record IsRead (circuit : Circuit) (ds : List Declaration) (k : ℕ) (v : Variable) : Type 0 where
  pub inputs : All (λ n. IsInput circuit n) v.bits
  pub reads : (bits : List ℕ) → bits_read circuit ds bits (code k) ≡ zip v.bits (bits_of (length v.bits) bits)

-- or it goes nowhere
pub record IsPassed (circuit : Circuit) (ds : List Declaration) (k : ℕ) : Type 0 where
  pub passed : (bits : List ℕ) → bits_read circuit ds bits (code k) ≡ []

abbrev pub EachRead : Circuit → List Declaration → ℕ → List Variable → Type 0
EachRead circuit ds k [] = Unit {0}
EachRead circuit ds k (v ∷ vs) = (IsRead circuit ds k v ⊎ IsPassed circuit ds k) × EachRead circuit ds (suc k) vs

abbrev pub is_bit : ℕ → List ℕ → Bool
is_bit net bits = list_any (λ n. n == net) bits

-- a net is a bit of a variable that is read
abbrev pub HasReader : Circuit → List Declaration → ℕ → ℕ → List Variable → Type 0
HasReader circuit ds net k [] = ⊥
HasReader circuit ds net k (v ∷ vs) = (IsRead circuit ds k v × (is_bit net v.bits ≡ true)) ⊎ HasReader circuit ds net (suc k) vs

-- ---- what one value gives

letters_back : (vs : List Value) → map value_of (map value_letter vs) ≡ vs
letters_back [] = refl
letters_back (v ∷ vs) = ap (λ w. w ∷ map value_of (map value_letter vs)) (one v) ∙ ap (λ ws. v ∷ ws) (letters_back vs)
  where
    one : (w : Value) → value_of (value_letter w) ≡ w
    one Zero = refl
    one One = refl
    one X = refl
    one Z = refl

pub bits_back : (nets : List ℕ) (values : List Value) → bits_of (length nets) (map value_letter (values_at nets values)) ≡ values_at nets values
bits_back nets values =
    let vs : List Value = map value_of (map value_letter (values_at nets values)) in
    let back : vs ≡ values_at nets values = letters_back (values_at nets values) in
    let many : length vs ≡ length nets = ap length back ∙ length-map nets (value_at values) in
    let none : length nets - length vs ≡ 0 = omega arith in
    ap (λ n. replicate n (filler vs) ++ vs) none ∙ back

abbrev pub given_of : ℕ → ℕ × Value → Given
given_of time c = record { time = time; net = c.0; value = c.1 }

-- it is given at the time, to an input, and is its value
abbrev pub Right : Circuit → ℕ → List Value → Given → Type 0
Right circuit time values g = (g.time ≡ time) × (IsInput circuit g.net × (g.value ≡ value_at values g.net))

right_bits : (circuit : Circuit) (time : ℕ) (values : List Value) (bits : List ℕ) → All (λ n. IsInput circuit n) bits → AllByRecursion (Right circuit time values) (map (given_of time) (zip bits (values_at bits values)))
right_bits circuit time values [] h = tt
right_bits circuit time values (n ∷ ns) h = ((refl, (All-head (λ m. IsInput circuit m) n ns h, refl)), right_bits circuit time values ns (All-tail (λ m. IsInput circuit m) n ns h))

bit_given : (time net : ℕ) (values : List Value) (bits : List ℕ) → is_bit net bits ≡ true → list_any (is_given time net) (map (given_of time) (zip bits (values_at bits values))) ≡ true
bit_given time net values [] h = absurd (let q : false ≡ true = h in cc)
bit_given time net values (n ∷ ns) h = at (n == net) refl h (λ f. bit_given time net values ns f)
  where
    at : (b : Bool) → (n == net) ≡ b → (b || is_bit net ns) ≡ true → (is_bit net ns ≡ true → list_any (is_given time net) (map (given_of time) (zip ns (values_at ns values))) ≡ true) → (((time == time) && (n == net)) || list_any (is_given time net) (map (given_of time) (zip ns (values_at ns values)))) ≡ true
    at true e f rest = or_left ((time == time) && (n == net)) _ (and_from (time == time) (n == net) (eq-eqb time time refl) e)
    at false e f rest = or_right ((time == time) && (n == net)) _ (rest f)

item_given : (circuit : Circuit) (ds : List Declaration) (time : ℕ) (values : List Value) (k : ℕ) (v : Variable)
    → given_from circuit ds time (value_item values k v) ≡ map (given_of time) (bits_read circuit ds (map value_letter (values_at v.bits values)) (code k))
item_given circuit ds time values k v = append-nil (map (given_of time) (bits_read circuit ds (map value_letter (values_at v.bits values)) (code k)))

read_given : (circuit : Circuit) (ds : List Declaration) (time : ℕ) (values : List Value) (k : ℕ) (v : Variable) → IsRead circuit ds k v
    → given_from circuit ds time (value_item values k v) ≡ map (given_of time) (zip v.bits (values_at v.bits values))
read_given circuit ds time values k v r =
    item_given circuit ds time values k v
    ∙ ap (map (given_of time)) (r.reads (map value_letter (values_at v.bits values)) ∙ ap (zip v.bits) (bits_back v.bits values))

passed_given : (circuit : Circuit) (ds : List Declaration) (time : ℕ) (values : List Value) (k : ℕ) (v : Variable) → IsPassed circuit ds k → given_from circuit ds time (value_item values k v) ≡ []
passed_given circuit ds time values k v p = item_given circuit ds time values k v ∙ ap (map (given_of time)) (p.passed (map value_letter (values_at v.bits values)))

-- ---- what the values of variables give

parted : (circuit : Circuit) (ds : List Declaration) (time : ℕ) (test : Variable → Bool) (values : List Value) (k : ℕ) (v : Variable) (vs : List Variable)
    → given_from circuit ds time (numbered (some_item test values) k (v ∷ vs)) ≡ (if test v then given_from circuit ds time (value_item values k v) else []) ++ given_from circuit ds time (numbered (some_item test values) (suc k) vs)
parted circuit ds time test values k v vs = given_from-append circuit ds time (some_item test values k v) rest ∙ at (test v)
  where
    rest : List Item
    rest = numbered (some_item test values) (suc k) vs

    at : (b : Bool) → given_from circuit ds time (if b then value_item values k v else []) ++ given_from circuit ds (now_after time (if b then value_item values k v else [])) rest
        ≡ (if b then given_from circuit ds time (value_item values k v) else []) ++ given_from circuit ds time rest
    at true = refl
    at false = refl

pub now_stays : (time : ℕ) (test : Variable → Bool) (values : List Value) (k : ℕ) (vs : List Variable) → now_after time (numbered (some_item test values) k vs) ≡ time
now_stays time test values k [] = refl
now_stays time test values k (v ∷ vs) = now_after-append time (some_item test values k v) (numbered (some_item test values) (suc k) vs) ∙ (ap (λ t. now_after t (numbered (some_item test values) (suc k) vs)) (at (test v)) ∙ now_stays time test values (suc k) vs)
  where
    at : (b : Bool) → now_after time (if b then value_item values k v else []) ≡ time
    at true = refl
    at false = refl

pub all_append : {A : Type 0} (P : A → Type 0) (xs ys : List A) → AllByRecursion P xs → AllByRecursion P ys → AllByRecursion P (xs ++ ys)
all_append P [] ys h k = k
all_append P (x ∷ xs) ys h k = (h.0, all_append P xs ys h.1 k)

pub values_right : (circuit : Circuit) (ds : List Declaration) (time : ℕ) (test : Variable → Bool) (values : List Value) (k : ℕ) (vs : List Variable) → EachRead circuit ds k vs
    → AllByRecursion (Right circuit time values) (given_from circuit ds time (numbered (some_item test values) k vs))
values_right circuit ds time test values k [] h = tt
values_right circuit ds time test values k (v ∷ vs) h =
    subst (AllByRecursion (Right circuit time values)) (sym (parted circuit ds time test values k v vs))
    (all_append (Right circuit time values) (if test v then given_from circuit ds time (value_item values k v) else []) (given_from circuit ds time (numbered (some_item test values) (suc k) vs)) (one (test v) h.0)
    (values_right circuit ds time test values (suc k) vs h.1))
  where
    one : (b : Bool) → IsRead circuit ds k v ⊎ IsPassed circuit ds k → AllByRecursion (Right circuit time values) (if b then given_from circuit ds time (value_item values k v) else [])
    one true (inl r) = subst (AllByRecursion (Right circuit time values)) (sym (read_given circuit ds time values k v r)) (right_bits circuit time values v.bits r.inputs)
    one true (inr p) = subst (AllByRecursion (Right circuit time values)) (sym (passed_given circuit ds time values k v p)) tt
    one false x = tt

pub reader_given : (circuit : Circuit) (ds : List Declaration) (time net : ℕ) (test : Variable → Bool) (values : List Value) (k : ℕ) (vs : List Variable) → ((v : Variable) → is_bit net v.bits ≡ true → test v ≡ true)
    → HasReader circuit ds net k vs → list_any (is_given time net) (given_from circuit ds time (numbered (some_item test values) k vs)) ≡ true
reader_given circuit ds time net test values k [] shows h = absurd h
reader_given circuit ds time net test values k (v ∷ vs) shows h =
    ap (list_any (is_given time net)) (parted circuit ds time test values k v vs) ∙ (list_any-append (is_given time net) here rest ∙ at h (λ r. reader_given circuit ds time net test values (suc k) vs shows r))
  where
    here : List Given
    here = if test v then given_from circuit ds time (value_item values k v) else []

    rest : List Given
    rest = given_from circuit ds time (numbered (some_item test values) (suc k) vs)

    at : (IsRead circuit ds k v × (is_bit net v.bits ≡ true)) ⊎ HasReader circuit ds net (suc k) vs → (HasReader circuit ds net (suc k) vs → list_any (is_given time net) rest ≡ true) → (list_any (is_given time net) here || list_any (is_given time net) rest) ≡ true
    at (inl r) later =
        or_left (list_any (is_given time net) here) (list_any (is_given time net) rest)
        (ap (λ b. list_any (is_given time net) (if b then given_from circuit ds time (value_item values k v) else [])) (shows v r.1)
        ∙ (ap (list_any (is_given time net)) (read_given circuit ds time values k v r.0) ∙ bit_given time net values v.bits r.1))
    at (inr r) later = or_right (list_any (is_given time net) here) (list_any (is_given time net) rest) (later r)

-- a bit that differs shows its variable
pub bit_differs : (old new : List Value) (net : ℕ) (bits : List ℕ) → is_same (value_at old net) (value_at new net) ≡ false → is_bit net bits ≡ true → any_differs old new bits ≡ true
bit_differs old new net [] e h = absurd (let q : false ≡ true = h in cc)
bit_differs old new net (n ∷ ns) e h = at (n == net) refl h (λ g. bit_differs old new net ns e g)
  where
    at : (b : Bool) → (n == net) ≡ b → (b || is_bit net ns) ≡ true → (is_bit net ns ≡ true → any_differs old new ns ≡ true) → (not (is_same (value_at old n) (value_at new n)) || any_differs old new ns) ≡ true
    at true f g rest = or_left (not (is_same (value_at old n) (value_at new n))) (any_differs old new ns) (ap (λ m. not (is_same (value_at old m) (value_at new m))) (eqb-true n net f) ∙ ap not e)
    at false f g rest = or_right (not (is_same (value_at old n) (value_at new n))) (any_differs old new ns) (rest g)

-- and a variable of inputs that differs has an input that does
pub find_change : (circuit : Circuit) (old new : List Value) (bits : List ℕ) → All (λ n. IsInput circuit n) bits → any_differs old new bits ≡ true → Changes circuit old new
find_change circuit old new [] h e = absurd (let q : false ≡ true = e in cc)
find_change circuit old new (n ∷ ns) h e = at (is_same (value_at old n) (value_at new n)) refl e (λ g. find_change circuit old new ns (All-tail (λ m. IsInput circuit m) n ns h) g)
  where
    at : (b : Bool) → is_same (value_at old n) (value_at new n) ≡ b → (not b || any_differs old new ns) ≡ true → (any_differs old new ns ≡ true → Changes circuit old new) → Changes circuit old new
    at true f g rest = rest g
    at false f g rest = record {
      net = n;
      input = All-head (λ m. IsInput circuit m) n ns h;
      differs = λ same. (let q : true ≡ false = sym (same-self (value_at old n) (value_at new n) (sym same)) ∙ f in cc);
    }

pub none_or_change : (circuit : Circuit) (ds : List Declaration) (time : ℕ) (old new : List Value) (k : ℕ) (vs : List Variable) → EachRead circuit ds k vs
    → (given_from circuit ds time (numbered (change_item old new) k vs) ≡ []) ⊎ Changes circuit old new
none_or_change circuit ds time old new k [] h = inl refl
none_or_change circuit ds time old new k (v ∷ vs) h = at (any_differs old new v.bits) refl h.0 (none_or_change circuit ds time old new (suc k) vs h.1)
  where
    rest : List Given
    rest = given_from circuit ds time (numbered (change_item old new) (suc k) vs)

    part : given_from circuit ds time (numbered (change_item old new) k (v ∷ vs)) ≡ (if any_differs old new v.bits then given_from circuit ds time (value_item new k v) else []) ++ rest
    part = parted circuit ds time (λ x. any_differs old new x.bits) new k v vs

    passes : (if any_differs old new v.bits then given_from circuit ds time (value_item new k v) else []) ≡ [] → (rest ≡ []) ⊎ Changes circuit old new
        → (given_from circuit ds time (numbered (change_item old new) k (v ∷ vs)) ≡ []) ⊎ Changes circuit old new
    passes none (inl empty) = inl (part ∙ (ap (λ gs. gs ++ rest) none ∙ empty))
    passes none (inr c) = inr c

    at : (b : Bool) → any_differs old new v.bits ≡ b → IsRead circuit ds k v ⊎ IsPassed circuit ds k → (rest ≡ []) ⊎ Changes circuit old new → (given_from circuit ds time (numbered (change_item old new) k (v ∷ vs)) ≡ []) ⊎ Changes circuit old new
    at true e (inl r) more = inr (find_change circuit old new v.bits r.inputs e)
    at true e (inr p) more = passes (ap (λ b. if b then given_from circuit ds time (value_item new k v) else []) e ∙ passed_given circuit ds time new k v p) more
    at false e r more = passes (ap (λ b. if b then given_from circuit ds time (value_item new k v) else []) e) more
