-- The net that a spent time names: the least that changed.
use Rattle.std.specs.Prelude.{◌≡◌, ◌≢◌, ◌⊎◌, ℕ, zero, suc, ◌+◌, ◌<◌, ◌≤◌, ◌==◌, ◌||◌, Bool, true, false, not, if◌then◌else◌, All, List, [], ◌∷◌, length, min, take, slice_index_or, slice_set, Some, None, refl}
use Rattle.std.proofs.Common.{sym, ◌∙◌, ap, subst, arith, inl, inr}
use Rattle.std.proofs.lemmas.List.{take_more, length-set, get_or-set_same, get_or-set_other}
use Rattle.std.proofs.lemmas.List.Elements.{All-head, All-tail, All-nil, All-cons}
use Rattle.sg_logic.specs.declared.values.Value.{Value}
use Rattle.sg_logic.specs.declared.values.Value.TheVariants.{Zero, One, X, Z}
use Rattle.sg_logic.specs.Values.{is_same}
use Rattle.sg_model.specs.Values.{value_at, least_differing}
use Rattle.sg_model.specs.Pending.{IsPending}
use Rattle.sg_model.specs.Agenda.{list_at}
use Rattle.sg_model.specs.Machine.{Machine, State, IsNoOutput, AreOutputs}
use Rattle.sg_model.specs.Round.{any_due, is_due, changed_by, due_changes, values_after, round}
use Rattle.sg_model.specs.Time.{Run, toggle, toggles, is_empty, spent_net, first_some}
use Rattle.sg_model.specs.FanOut.{present_after}
use Rattle.sg_model.proofs.PlacedLaws.{IsPending-taken}
use Rattle.sg_model.proofs.PlacingSteps.{same-self, same-differs}
use Rattle.sg_model.proofs.RunSteps.{round-is}
use Rattle.fan_round.specs.Lists.{occurrences}
use Rattle.fan_round.specs.Nets.{differs, AreChanged}
use Rattle.fan_round.specs.Rounds.{AreHanded, ArePending}
use Rattle.sim_times.specs.Naming.{IsLeastOf, Moves}
use Rattle.sim_times.specs.Checks.{AreFree}
use Rattle.fan_round.proofs.ListLaws.{occurs_later, occurrences-append, occurs_at}
use Rattle.fan_round.proofs.NetLaws.{changed_append}
use Rattle.fan_round.proofs.RoundLaws.{round_present}

-- one net more
pub least_more : (nets : List ℕ) (i blank least new : ℕ) → i < length nets → 0 < occurrences least nets → ((k : ℕ) → 0 < occurrences k (take i nets) → least ≤ k) → new ≡ min least (slice_index_or nets i blank)
    → (0 < occurrences new nets) × ((k : ℕ) → 0 < occurrences k (take (i + 1) nets) → new ≤ k)
least_more nets i blank least new l listed below e = (at (cases least net), λ k h. all k h)
  where
    net : ℕ
    net = slice_index_or nets i blank

    cases : (a b : ℕ) → (min a b ≡ a) ⊎ (min a b ≡ b)
    cases a b = grind arith

    at : (min least net ≡ least) ⊎ (min least net ≡ net) → 0 < occurrences new nets
    at (inl f) = subst (λ n. 0 < occurrences n nets) (sym (e ∙ f)) listed
    at (inr f) = subst (λ n. 0 < occurrences n nets) (sym (e ∙ f)) (occurs_at nets i blank l)

    apart : (k : ℕ) → (net ≡ k) ⊎ (net ≢ k)
    apart k = grind arith

    all : (k : ℕ) → 0 < occurrences k (take (i + 1) nets) → new ≤ k
    all k h =
        let more : occurrences k (take (i + 1) nets) ≡ occurrences k (take i nets) + occurrences k (net ∷ []) = ap (occurrences k) (take_more nets i blank l) ∙ occurrences-append k (take i nets) (net ∷ []) in
        elim (apart k) [
          | inl same ↦ (let z : min least net ≤ net = grind arith in omega arith)
          | inr other ↦ (let none : occurrences k (net ∷ []) ≡ 0 = occurs_later net k [] other ∙ refl in let b : least ≤ k = below k (omega arith) in let z : min least net ≤ least = grind arith in omega arith)
        ]

-- the least net that differs is the least of the changed ones
differing_none : (k : ℕ) (vs ws : List Value) → ((j : ℕ) → differs vs ws j ≡ false) → least_differing k vs ws ≡ None
differing_none k [] ws h = refl
differing_none k (v ∷ vs) [] h = refl
differing_none k (v ∷ vs) (w ∷ ws) h = ap (λ b. if b then least_differing (suc k) vs ws else Some k) (was (is_same v w) (h 0)) ∙ differing_none (suc k) vs ws (λ j. h (suc j))
  where
    was : (b : Bool) → not b ≡ false → b ≡ true
    was true f = refl
    was false f = cc

differing_some : (k n : ℕ) (vs ws : List Value) → length ws ≡ length vs → differs vs ws n ≡ true → ((j : ℕ) → j < n → differs vs ws j ≡ false) → least_differing k vs ws ≡ Some (k + n)
differing_some k n [] [] l d h = absurd (let e : is_same (value_at [] n) (value_at [] n) ≡ true = same-self (value_at [] n) (value_at [] n) refl in let f : false ≡ true = sym (ap not e) ∙ d in cc)
differing_some k n [] (w ∷ ws) l d h = absurd (omega arith)
differing_some k n (v ∷ vs) [] l d h = absurd (omega arith)
differing_some k zero (v ∷ vs) (w ∷ ws) l d h = let z : k ≡ k + 0 = omega arith in ap (λ b. if b then least_differing (suc k) vs ws else Some k) (was (is_same v w) d) ∙ ap Some z
  where
    was : (b : Bool) → not b ≡ true → b ≡ false
    was true f = cc
    was false f = refl
differing_some k (suc n) (v ∷ vs) (w ∷ ws) l d h =
    let z : suc k + n ≡ k + suc n = omega arith in
    ap (λ b. if b then least_differing (suc k) vs ws else Some k) (was (is_same v w) (h 0 (omega arith))) ∙ (differing_some (suc k) n vs ws (omega arith) d (λ j m. h (suc j) (omega arith)) ∙ ap Some z)
  where
    was : (b : Bool) → not b ≡ false → b ≡ true
    was true f = refl
    was false f = cc

pub none_changed : (before values : List Value) (nets : List ℕ) → AreChanged before values nets → nets ≡ [] → least_differing 0 before values ≡ None
none_changed before values nets are e = differing_none 0 before values (λ j. none (differs before values j) (sym (ap (occurrences j) e) ∙ are.each.each j))
  where
    none : (b : Bool) → ◌≡◌ {A = ℕ} 0 (if b then 1 else 0) → b ≡ false
    none true f = absurd (let k : ◌≡◌ {A = ℕ} 0 1 = f in omega arith)
    none false f = refl

pub least_changed : (before values : List Value) (nets : List ℕ) (net : ℕ) → AreChanged before values nets → IsLeastOf nets net → least_differing 0 before values ≡ Some net
least_changed before values nets net are h =
    let z : 0 + net ≡ net = omega arith in
    differing_some 0 net before values are.as_many (some (differs before values net) (occurrences net nets) h.listed (are.each.each net)) (λ j l. none j l (differs before values j) refl) ∙ ap Some z
  where
    some : (b : Bool) (n : ℕ) → 0 < n → n ≡ (if b then 1 else 0) → b ≡ true
    some true n l e = refl
    some false n l e = absurd (let k : n ≡ 0 = e in omega arith)

    none : (j : ℕ) → j < net → (b : Bool) → differs before values j ≡ b → b ≡ false
    none j l true e = absurd (let one : occurrences j nets ≡ 1 = are.each.each j ∙ ap (λ b. if b then 1 else 0) e in let k : net ≤ j = h.least j (omega arith) in omega arith)
    none j l false e = refl

-- a net is named
pub named_changed : (m : Machine) (now : ℕ) (handed : List (ℕ × Value)) (r : Run) (before values : List Value) (nets : List ℕ) (net : ℕ) → r.before ≡ before → r.state.values ≡ values → AreChanged before values nets → IsLeastOf nets net → spent_net m now handed r ≡ Some net
named_changed m now handed r before values nets net b v are least =
    ap (λ x. first_some x (least_differing 0 r.state.values (round m now handed r.state).values)) (ap (λ x. least_differing 0 x r.state.values) b ∙ (ap (λ x. least_differing 0 before x) v ∙ least_changed before values nets net are least))

pub named_next : (m : Machine) (now : ℕ) (handed : List (ℕ × Value)) (r : Run) (before values after : List Value) (nets more : List ℕ) (net : ℕ) → r.before ≡ before → r.state.values ≡ values → AreChanged before values nets → nets ≡ []
    → after ≡ values_after m now handed r.state → AreChanged values after more → IsLeastOf more net → spent_net m now handed r ≡ Some net
named_next m now handed r before values after nets more net b v are e a are' least =
    let first : least_differing 0 r.before r.state.values ≡ None = ap (λ x. least_differing 0 x r.state.values) b ∙ (ap (λ x. least_differing 0 before x) v ∙ none_changed before values nets are e) in
    let new : (round m now handed r.state).values ≡ after = ap (λ s. s.values) (round-is m now handed r.state) ∙ sym a in
    ap (λ x. first_some x (least_differing 0 r.state.values (round m now handed r.state).values)) first ∙ (ap (λ x. least_differing 0 r.state.values x) new ∙ (ap (λ x. least_differing 0 x after) v ∙ least_changed values after more net are' least))

-- where a round changes a net its list isn't empty
pub moves_some : (before values : List Value) (nets : List ℕ) (net : ℕ) → AreChanged before values nets → differs before values net ≡ true → 0 < length nets
moves_some before values [] net are d = absurd (let one : ◌≡◌ {A = ℕ} 0 1 = are.each.each net ∙ ap (λ b. if b then 1 else 0) d in omega arith)
moves_some before values (n ∷ ns) net are d = omega arith

-- a pending transition that is due changes its net
some_due_at : (now : ℕ) (lists : List (List (ℕ × Value))) → any_due now lists ≡ true → (e : ℕ) × (e < length lists) × (is_due now (list_at lists e) ≡ true)
some_due_at now [] h = absurd (let k : false ≡ true = h in cc)
some_due_at now (xs ∷ lists) h = at (is_due now xs) refl h (λ k. some_due_at now lists k)
  where
    at : (b : Bool) → is_due now xs ≡ b → any_due now (xs ∷ lists) ≡ true → (any_due now lists ≡ true → (e : ℕ) × (e < length lists) × (is_due now (list_at lists e) ≡ true)) → (e : ℕ) × (e < length (xs ∷ lists)) × (is_due now (list_at (xs ∷ lists) e) ≡ true)
    at true q h rest = (0, omega arith, q)
    at false q h rest =
        let later : any_due now lists ≡ true = or_later (is_due now xs) (any_due now lists) q h in
        let r = rest later in
        (suc r.0, omega (arith, r.1), r.2)
      where
        or_later : (b c : Bool) → b ≡ false → (b || c) ≡ true → c ≡ true
        or_later true c e f = absurd (let k : true ≡ false = e in cc)
        or_later false c e f = f

pub due_moves : (m : Machine) (now : ℕ) (handed : List (ℕ × Value)) (s : State) → AreOutputs m.outputs → AreHanded m.outputs handed → length s.lists ≡ length m.outputs → All (λ n. n < length s.values) m.outputs → ArePending m.outputs s.values s.lists now → any_due now s.lists ≡ true → Moves m now handed s
due_moves m now handed s o h many within pending due =
    let d = some_due_at now s.lists due in
    let e : ℕ = d.0 in
    let out : ℕ = slice_index_or m.outputs e 0 in
    let l : e < length m.outputs = subst (λ n. e < n) many d.1 in
    let present : value_at (values_after m now handed s) out ≡ present_after now (list_at s.lists e) (value_at s.values out) = round_present now m.outputs handed s.lists s.values e o h many within l in
    record {
      net = out;
      differs = ap not (same-differs (value_at s.values out) (value_at (values_after m now handed s) out) (λ q. moved (list_at s.lists e) (value_at s.values out) (pending.each e d.1) d.2 (q ∙ present)));
    }
  where
    taken : (b : Bool) (a c : Value) → b ≡ true → (if b then a else c) ≡ a
    taken true a c e = refl
    taken false a c e = absurd (let k : false ≡ true = e in cc)

    moved : (list : List (ℕ × Value)) (v : Value) → IsPending list v now → is_due now list ≡ true → v ≡ present_after now list v → ⊥
    moved [] v p d e = let k : false ≡ true = d in cc
    moved (p ∷ ps) v h d e = (IsPending-taken ps p.0 p.1 v now h).1.0 (e ∙ taken (p.0 == now) p.1 v d)

-- the toggles of free nets change them
within_more : (driven : List ℕ) (nets n : ℕ) (ns : List ℕ) → AreFree driven nets (n ∷ ns) → AreFree driven nets ns
within_more driven nets n ns h = record {
  within = All-tail (λ k. k < nets) n ns h.within;
  undriven = All-tail (λ k. IsNoOutput k driven) n ns h.undriven;
  once = h.once.1;
}

untouched : (n : ℕ) (ns : List ℕ) (values base : List Value) → IsNoOutput n ns → value_at (changed_by (toggles ns values) base) n ≡ value_at base n
untouched n [] values base h = refl
untouched n (x ∷ xs) values base h = at (value_at values x) (λ b. untouched n xs values b h.1)
  where
    Stays : Type 0
    Stays = (b : List Value) → value_at (changed_by (toggles xs values) b) n ≡ value_at b n

    set : (w : Value) → Stays → value_at (changed_by (toggles xs values) (slice_set base x w)) n ≡ value_at base n
    set w rest = rest (slice_set base x w) ∙ get_or-set_other base x n w X (λ q. h.0 (sym q))

    at : (v : Value) → Stays → value_at (changed_by (toggle v x (toggles xs values)) base) n ≡ value_at base n
    at Zero rest = set One rest
    at One rest = set Zero rest
    at X rest = set Zero rest
    at Z rest = rest base

pub toggles_move : (driven : List ℕ) (ns : List ℕ) (values base : List Value) → AreFree driven (length base) ns → is_empty (toggles ns values) ≡ false → (net : ℕ) × (differs values (changed_by (toggles ns values) base) net ≡ true)
toggles_move driven [] values base free some = absurd (let k : true ≡ false = some in cc)
toggles_move driven (n ∷ ns) values base free some = at (value_at values n) refl some (λ k. toggles_move driven ns values base (within_more driven (length base) n ns free) k)
  where
    l : n < length base
    l = All-head (λ k. k < length base) n ns free.within

    set : (v w : Value) → value_at values n ≡ v → v ≢ w → differs values (changed_by (toggles ns values) (slice_set base n w)) n ≡ true
    set v w e other =
        let is : value_at (changed_by (toggles ns values) (slice_set base n w)) n ≡ w = untouched n ns values (slice_set base n w) free.once.0 ∙ get_or-set_same base n w X l in
        ap not (ap (λ x. is_same x (value_at (changed_by (toggles ns values) (slice_set base n w)) n)) e ∙ (ap (λ x. is_same v x) is ∙ same-differs v w other))

    at : (v : Value) → value_at values n ≡ v → is_empty (toggle v n (toggles ns values)) ≡ false → (is_empty (toggles ns values) ≡ false → (net : ℕ) × (differs values (changed_by (toggles ns values) base) net ≡ true))
        → (net : ℕ) × (differs values (changed_by (toggle v n (toggles ns values)) base) net ≡ true)
    at Zero e s rest = (n, set Zero One e (λ q. cc))
    at One e s rest = (n, set One Zero e (λ q. cc))
    at X e s rest = (n, set X Zero e (λ q. cc))
    at Z e s rest = rest s

length-changed : (cs : List (ℕ × Value)) (vs : List Value) → length (changed_by cs vs) ≡ length vs
length-changed [] vs = refl
length-changed (c ∷ cs) vs = length-changed cs (slice_set vs c.0 c.1) ∙ length-set vs c.0 c.1

pub flips_move : (m : Machine) (now : ℕ) (ns : List ℕ) (s : State) → AreFree m.outputs (length s.values) ns → is_empty (toggles ns s.values) ≡ false → Moves m now (toggles ns s.values) s
flips_move m now ns s free some =
    let base : List Value = changed_by (due_changes now m.outputs s.lists) s.values in
    let many : length base ≡ length s.values = length-changed (due_changes now m.outputs s.lists) s.values in
    let t = toggles_move m.outputs ns s.values base (subst (λ n. AreFree m.outputs n ns) (sym many) free) some in
    record {
      net = t.0;
      differs = subst (λ vs. differs s.values vs t.0 ≡ true) (sym (changed_append (due_changes now m.outputs s.lists) (toggles ns s.values) s.values)) t.1;
    }

-- toggles of free nets can be handed in
pub toggles_handed : (driven : List ℕ) (nets : ℕ) (ns : List ℕ) (values : List Value) → AreFree driven nets ns → AreHanded driven (toggles ns values)
toggles_handed driven nets [] values free = tt
toggles_handed driven nets (n ∷ ns) values free = at (value_at values n) (toggles_handed driven nets ns values (within_more driven nets n ns free))
  where
    here : IsNoOutput n driven
    here = All-head (λ k. IsNoOutput k driven) n ns free.undriven

    at : (v : Value) → AreHanded driven (toggles ns values) → AreHanded driven (toggle v n (toggles ns values))
    at Zero rest = (here, rest)
    at One rest = (here, rest)
    at X rest = (here, rest)
    at Z rest = rest

pub toggles_within : (driven : List ℕ) (nets : ℕ) (ns : List ℕ) (values : List Value) → AreFree driven nets ns → All (λ c. c.0 < nets) (toggles ns values)
toggles_within driven nets [] values free = All-nil (λ c. c.0 < nets)
toggles_within driven nets (n ∷ ns) values free = at (value_at values n) (toggles_within driven nets ns values (within_more driven nets n ns free))
  where
    P : ℕ × Value → Type 0
    P c = c.0 < nets

    here : n < nets
    here = All-head (λ k. k < nets) n ns free.within

    at : (v : Value) → All P (toggles ns values) → All P (toggle v n (toggles ns values))
    at Zero rest = All-cons P (n, One) (toggles ns values) here rest
    at One rest = All-cons P (n, Zero) (toggles ns values) here rest
    at X rest = All-cons P (n, Zero) (toggles ns values) here rest
    at Z rest = rest
