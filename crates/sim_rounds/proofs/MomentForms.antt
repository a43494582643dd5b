-- A moment of a run has the state of the run: what is pending is listed by driver, and found again there.
use Rattle.std.specs.Prelude.{◌≡◌, ◌≢◌, ℕ, zero, suc, ◌+◌, ◌<◌, ◌≤◌, ◌==◌, ◌^◌, true, false, if◌then◌else◌, All, List, [], ◌∷◌, ◌++◌, length, map, slice_index_or, None, refl}
use Rattle.std.proofs.Common.{sym, ◌∙◌, ap, subst, arith, zero-add}
use Rattle.std.proofs.lemmas.List.{append-nil, ext_get_or}
use Rattle.std.proofs.lemmas.List.Elements.{All-append, All-cons, All-head, All-map, All-nil, All-tail}
use Rattle.sg_logic.specs.declared.values.Value.{Value}
use Rattle.sg_logic.specs.declared.values.Value.TheVariants.{X}
use Rattle.sg_model.specs.Values.{value_at}
use Rattle.sg_model.specs.Agenda.{list_at}
use Rattle.sg_model.specs.Pending.{last_value}
use Rattle.sg_model.specs.Round.{each_from}
use Rattle.sg_circuit.specs.Circuit.{Element, Pass}
use Rattle.fan_round.proofs.ListLaws.{each_from-at, length-each_from, test_other, test_same}
use Rattle.sim_rounds.specs.Moments.{Pending, pending_in, pending_of}
use Rattle.sim_rounds.proofs.PendingTimes.{NoneAfter}
use Rattle.sim_rounds.proofs.StateInvariants.{farthest}

of_append : (driver : ℕ) (ps qs : List Pending) → pending_of driver (ps ++ qs) ≡ pending_of driver ps ++ pending_of driver qs
of_append driver [] qs = refl
of_append driver (p ∷ ps) qs = elim (p.driver == driver) as (λ b. (if b then ((p.time, p.value) ∷ pending_of driver (ps ++ qs)) else pending_of driver (ps ++ qs)) ≡ (if b then ((p.time, p.value) ∷ pending_of driver ps) else pending_of driver ps) ++ pending_of driver qs) [
  | true ↦ ap (λ xs. (p.time, p.value) ∷ xs) (of_append driver ps qs)
  | false ↦ of_append driver ps qs
]

-- what one driver has pending
abbrev of_one : ℕ → List (ℕ × Value) → List Pending
of_one k list = map (λ p. record { driver = k; time = p.0; value = p.1 }) list

of_same : (k driver : ℕ) (list : List (ℕ × Value)) → k ≡ driver → pending_of driver (of_one k list) ≡ list
of_same k driver [] e = refl
of_same k driver (p ∷ ps) e = ap (λ b. if b then (p ∷ pending_of driver (of_one k ps)) else pending_of driver (of_one k ps)) (test_same k driver e) ∙ ap (λ xs. p ∷ xs) (of_same k driver ps e)

of_other : (k driver : ℕ) (list : List (ℕ × Value)) → k ≢ driver → pending_of driver (of_one k list) ≡ []
of_other k driver [] n = refl
of_other k driver (p ∷ ps) n = ap (λ b. if b then (p ∷ pending_of driver (of_one k ps)) else pending_of driver (of_one k ps)) (test_other k driver n) ∙ of_other k driver ps n

of_below : (driver k : ℕ) (lists : List (List (ℕ × Value))) → driver < k → pending_of driver (pending_in k lists) ≡ []
of_below driver k [] l = refl
of_below driver k (list ∷ lists) l =
    let apart : k ≢ driver = (λ e. (let f : ⊥ = omega arith in f)) in
    of_append driver (of_one k list) (pending_in (suc k) lists) ∙ (ap (λ xs. xs ++ pending_of driver (pending_in (suc k) lists)) (of_other k driver list apart) ∙ of_below driver (suc k) lists (omega arith))

pending_at : (k place : ℕ) (lists : List (List (ℕ × Value))) → pending_of (k + place) (pending_in k lists) ≡ list_at lists place
pending_at k place [] = refl
pending_at k zero (list ∷ lists) =
    of_append (k + 0) (of_one k list) (pending_in (suc k) lists)
    ∙ (ap (λ xs. xs ++ pending_of (k + 0) (pending_in (suc k) lists)) (of_same k (k + 0) list (let e : k ≡ k + 0 = omega arith in e))
    ∙ (ap (λ xs. list ++ xs) (of_below (k + 0) (suc k) lists (omega arith)) ∙ append-nil list))
pending_at k (suc place) (list ∷ lists) =
    let apart : k ≢ k + suc place = (λ e. (let f : ⊥ = omega arith in f)) in
    of_append (k + suc place) (of_one k list) (pending_in (suc k) lists)
    ∙ (ap (λ xs. xs ++ pending_of (k + suc place) (pending_in (suc k) lists)) (of_other k (k + suc place) list apart)
    ∙ (ap (λ n. pending_of n (pending_in (suc k) lists)) (let e : k + suc place ≡ suc k + place = omega arith in e) ∙ pending_at (suc k) place lists))

pub pending_here : (lists : List (List (ℕ × Value))) (e : ℕ) → pending_of e (pending_in 0 lists) ≡ list_at lists e
pending_here lists e = ap (λ n. pending_of n (pending_in 0 lists)) (sym (zero-add e)) ∙ pending_at 0 e lists

pub pending_drivers : (n k : ℕ) (lists : List (List (ℕ × Value))) → k + length lists ≤ n → All (λ p. p.driver < n) (pending_in k lists)
pending_drivers n k [] l = All-nil (λ (p : Pending). p.driver < n)
pending_drivers n k (list ∷ lists) l =
    All-append (λ (p : Pending). p.driver < n) (of_one k list) (pending_in (suc k) lists)
    (All-map (λ (p : Pending). p.driver < n) (λ p. record { driver = k; time = p.0; value = p.1 }) list (λ i d m. (let h : k < n = omega arith in h)))
    (pending_drivers n (suc k) lists (omega arith))

none_far : (list : List (ℕ × Value)) → NoneAfter farthest list → All (λ (p : ℕ × Value). p.0 < 2 ^ 62) list
none_far [] h = All-nil (λ (p : ℕ × Value). p.0 < 2 ^ 62)
none_far (p ∷ ps) h = All-cons (λ (q : ℕ × Value). q.0 < 2 ^ 62) p ps (let l : p.0 ≤ farthest = h.0 in omega arith) (none_far ps h.1)

pub pending_near : (k : ℕ) (lists : List (List (ℕ × Value))) → ((e : ℕ) → e < length lists → NoneAfter farthest (list_at lists e)) → All (λ p. p.time < 2 ^ 62) (pending_in k lists)
pending_near k [] h = All-nil (λ (p : Pending). p.time < 2 ^ 62)
pending_near k (list ∷ lists) h =
    All-append (λ (p : Pending). p.time < 2 ^ 62) (of_one k list) (pending_in (suc k) lists)
    (All-map (λ (p : Pending). p.time < 2 ^ 62) (λ p. record { driver = k; time = p.0; value = p.1 }) list (none_far list (h 0 (omega arith))))
    (pending_near (suc k) lists (λ e l. h (suc e) (omega arith)))

-- and the other way
pub near_of : (driver : ℕ) (ps : List Pending) → All (λ p. p.time < 2 ^ 62) ps → NoneAfter farthest (pending_of driver ps)
near_of driver [] h = tt
near_of driver (p ∷ ps) h =
    let first : p.time < 2 ^ 62 = All-head (λ (q : Pending). q.time < 2 ^ 62) p ps h in
    let rest : NoneAfter farthest (pending_of driver ps) = near_of driver ps (All-tail (λ (q : Pending). q.time < 2 ^ 62) p ps h) in
    elim (p.driver == driver) as (λ b. NoneAfter farthest (if b then ((p.time, p.value) ∷ pending_of driver ps) else pending_of driver ps)) [
      | true ↦ ((let l : p.time ≤ farthest = omega arith in l), rest)
      | false ↦ rest
    ]

-- the lists and the values that elements computed last, of as many elements
pub lists_again : (elements : List Element) (lists : List (List (ℕ × Value))) → length lists ≡ length elements → each_from (λ number (element : Element). pending_of number (pending_in 0 lists)) 0 elements ≡ lists
lists_again elements lists many =
    let f : ℕ → Element → List (ℕ × Value) = λ number element. pending_of number (pending_in 0 lists) in
    ext_get_or [] (each_from f 0 elements) lists (length-each_from f 0 elements ∙ sym many)
    (λ e l. each_from-at f 0 elements e (record { scope = 0; inputs = []; output = 0; kind = Pass None }) [] (subst (λ n. e < n) (length-each_from f 0 elements) l) ∙ pending_at 0 e lists)

pub states_again : (elements : List Element) (lists : List (List (ℕ × Value))) (values states : List Value) → length states ≡ length elements
    → ((e : ℕ) → e < length elements → last_value (list_at lists e) (value_at values (slice_index_or elements e (record { scope = 0; inputs = []; output = 0; kind = Pass None })).output) ≡ value_at states e)
    → each_from (λ number (element : Element). last_value (pending_of number (pending_in 0 lists)) (value_at values element.output)) 0 elements ≡ states
states_again elements lists values states many ends =
    let f : ℕ → Element → Value = λ number element. last_value (pending_of number (pending_in 0 lists)) (value_at values element.output) in
    let blank : Element = record { scope = 0; inputs = []; output = 0; kind = Pass None } in
    ext_get_or X (each_from f 0 elements) states (length-each_from f 0 elements ∙ sym many)
    (λ e l.
    (let l' : e < length elements = subst (λ n. e < n) (length-each_from f 0 elements) l in
    each_from-at f 0 elements e blank X l' ∙ (ap (λ xs. last_value xs (value_at values (slice_index_or elements e blank).output)) (pending_at 0 e lists) ∙ ends e l')))
