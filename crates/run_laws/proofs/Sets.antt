-- What sets make of the nets of inputs, which nothing else changes.
use Rattle.std.specs.Prelude.{◌≡◌, ℕ, ◌<◌, ◌==◌, ◌||◌, ◌⊎◌, Bool, true, false, if◌then◌else◌, All, List, [], ◌∷◌, ◌++◌, length, Some, None, refl, slice_set}
use Rattle.std.specs.List.{list_any}
use Rattle.std.proofs.Common.{sym, ◌∙◌, ap, subst, inl, inr}
use Rattle.std.proofs.lemmas.Bool.{eqb-true, eqb-false, ne_eqb, or_from, or_parts}
use Rattle.std.proofs.lemmas.List.{ext_get_or, length-set, get_or-set_same, get_or-set_other}
use Rattle.std.proofs.lemmas.List.Elements.{All-head, All-tail}
use Rattle.sg_logic.specs.declared.values.Value.{Value}
use Rattle.sg_logic.specs.declared.values.Value.TheVariants.{Zero, One, X, Z}
use Rattle.sg_model.specs.Values.{value_at}
use Rattle.sg_model.specs.Agenda.{due}
use Rattle.sg_model.specs.Machine.{Machine, State, IsNoOutput, Violation}
use Rattle.sg_model.specs.Round.{changed_by, due_change, due_changes, values_after}
use Rattle.sg_model.specs.Time.{Run, Whole, rounds, needs_round, with_round, flips_of, toggle, toggles}
use Rattle.sg_model.proofs.RunSteps.{round-is}
use Rattle.fan_round.proofs.NetLaws.{changed_append}
use Rattle.run_laws.proofs.Idle.{neither}
use Rattle.run_laws.proofs.Rounds.{empty_is, rounds_reach}

-- what sets make of the value of one net
abbrev pub set_value : List (ℕ × Value) → ℕ → Value → Value
set_value [] net v = v
set_value (c ∷ cs) net v = set_value cs net (if c.0 == net then c.1 else v)

abbrev pub is_set : ℕ → List (ℕ × Value) → Bool
is_set net cs = list_any (λ c. c.0 == net) cs

pub length-changed : (cs : List (ℕ × Value)) (values : List Value) → length (changed_by cs values) ≡ length values
length-changed [] values = refl
length-changed (c ∷ cs) values = length-changed cs (slice_set values c.0 c.1) ∙ length-set values c.0 c.1

set_one : (values : List Value) (k net : ℕ) (v : Value) → net < length values → value_at (slice_set values k v) net ≡ (if k == net then v else value_at values net)
set_one values k net v l = at (k == net) refl
  where
    at : (b : Bool) → (k == net) ≡ b → value_at (slice_set values k v) net ≡ (if b then v else value_at values net)
    at true e = let same : k ≡ net = eqb-true k net e in subst (λ n. value_at (slice_set values k v) n ≡ v) same (get_or-set_same values k v X (subst (λ n. n < length values) (sym same) l))
    at false e = get_or-set_other values k net v X (λ q. eqb-false k net e (sym q))

pub changed-at : (cs : List (ℕ × Value)) (values : List Value) (net : ℕ) → net < length values → value_at (changed_by cs values) net ≡ set_value cs net (value_at values net)
changed-at [] values net l = refl
changed-at (c ∷ cs) values net l =
    changed-at cs (slice_set values c.0 c.1) net (subst (λ n. net < n) (sym (length-set values c.0 c.1)) l) ∙ ap (set_value cs net) (set_one values c.0 net c.1 l)

-- a net that isn't set
pub set-none : (cs : List (ℕ × Value)) (net : ℕ) (v : Value) → is_set net cs ≡ false → set_value cs net v ≡ v
set-none [] net v h = refl
set-none (c ∷ cs) net v h =
    let b = or_parts (c.0 == net) (is_set net cs) h in
    ap (λ t. set_value cs net (if t then c.1 else v)) b.0 ∙ set-none cs net v b.1

-- a net that is set to one value
pub set-right : (cs : List (ℕ × Value)) (net : ℕ) (v w : Value) → is_set net cs ≡ true → All (λ (c : ℕ × Value). c.0 ≡ net → c.1 ≡ w) cs → set_value cs net v ≡ w
set-right [] net v w h right = absurd (let q : false ≡ true = h in cc)
set-right (c ∷ cs) net v w h right =
    at (is_set net cs) refl (set-right cs net (if c.0 == net then c.1 else v) w) (All-tail (λ (x : ℕ × Value). x.0 ≡ net → x.1 ≡ w) c cs right)
  where
    here : (b : Bool) → (c.0 == net) ≡ b → is_set net cs ≡ false → (if b then c.1 else v) ≡ w
    here true e f = All-head (λ (x : ℕ × Value). x.0 ≡ net → x.1 ≡ w) c cs right (eqb-true c.0 net e)
    here false e f = absurd (let q : false ≡ true = sym (or_from (c.0 == net) (is_set net cs) e f) ∙ h in cc)

    at : (b : Bool) → is_set net cs ≡ b → (is_set net cs ≡ true → All (λ (x : ℕ × Value). x.0 ≡ net → x.1 ≡ w) cs → set_value cs net (if c.0 == net then c.1 else v) ≡ w) → All (λ (x : ℕ × Value). x.0 ≡ net → x.1 ≡ w) cs
        → set_value cs net (if c.0 == net then c.1 else v) ≡ w
    at true e rest tail = rest e tail
    at false e rest tail = set-none cs net (if c.0 == net then c.1 else v) e ∙ here (c.0 == net) refl e

-- what is so of all sets is so of one of a net that is set
pub set_has : (P : ℕ → Type 0) (cs : List (ℕ × Value)) (net : ℕ) → All (λ (c : ℕ × Value). P c.0) cs → is_set net cs ≡ true → P net
set_has P [] net all h = absurd (let q : false ≡ true = h in cc)
set_has P (c ∷ cs) net all h = at (c.0 == net) refl h (set_has P cs net (All-tail (λ (x : ℕ × Value). P x.0) c cs all))
  where
    at : (b : Bool) → (c.0 == net) ≡ b → (b || is_set net cs) ≡ true → (is_set net cs ≡ true → P net) → P net
    at true e f rest = subst P (eqb-true c.0 net e) (All-head (λ (x : ℕ × Value). P x.0) c cs all)
    at false e f rest = rest f

-- neither what is due nor toggles set a net that no element drives and that is no notifier
due-unset : (now net : ℕ) (nets : List ℕ) (lists : List (List (ℕ × Value))) → IsNoOutput net nets → is_set net (due_changes now nets lists) ≡ false
due-unset now net [] lists h = refl
due-unset now net (n ∷ ns) [] h = refl
due-unset now net (n ∷ ns) (list ∷ lists) h = elim (due now list) as (λ c. is_set net (due_change c n (due_changes now ns lists)) ≡ false) [
  | None ↦ due-unset now net ns lists h.1
  | Some v ↦ or_from (n == net) (is_set net (due_changes now ns lists)) (ne_eqb n net h.0) (due-unset now net ns lists h.1)
]

toggles-unset : (nets : List ℕ) (values : List Value) (net : ℕ) → IsNoOutput net nets → is_set net (toggles nets values) ≡ false
toggles-unset [] values net h = refl
toggles-unset (n ∷ ns) values net h = elim (value_at values n) as (λ v. is_set net (toggle v n (toggles ns values)) ≡ false) [
  | Zero ↦ or_from (n == net) (is_set net (toggles ns values)) (ne_eqb n net h.0) (toggles-unset ns values net h.1)
  | One ↦ or_from (n == net) (is_set net (toggles ns values)) (ne_eqb n net h.0) (toggles-unset ns values net h.1)
  | X ↦ or_from (n == net) (is_set net (toggles ns values)) (ne_eqb n net h.0) (toggles-unset ns values net h.1)
  | Z ↦ toggles-unset ns values net h.1
]

-- a net that sets alone change
pub record IsFreeNet (m : Machine) (net : ℕ) : Type 0 where
  pub output : IsNoOutput net m.outputs
  pub notifier : (found : List Violation) → IsNoOutput net (m.notifiers found)

-- the values before what is handed in
pub dued : Machine → ℕ → State → List Value
dued m now s = changed_by (due_changes now m.outputs s.lists) s.values

pub values-at : (m : Machine) (now : ℕ) (handed : List (ℕ × Value)) (s : State) (net : ℕ) → net < length s.values → value_at (values_after m now handed s) net ≡ set_value handed net (value_at (dued m now s) net)
unfolding dued
values-at m now handed s net l =
    let due = due_changes now m.outputs s.lists in
    ap (λ vs. value_at vs net) (changed_append due handed s.values)
    ∙ changed-at handed (changed_by due s.values) net (subst (λ n. net < n) (sym (length-changed due s.values)) l)

pub dued-at : (m : Machine) (now : ℕ) (s : State) (net : ℕ) → IsNoOutput net m.outputs → net < length s.values → value_at (dued m now s) net ≡ value_at s.values net
unfolding dued
dued-at m now s net h l = changed-at (due_changes now m.outputs s.lists) s.values net l ∙ set-none (due_changes now m.outputs s.lists) net (value_at s.values net) (due-unset now net m.outputs s.lists h)

pub record Has (n net : ℕ) (v : Value) (r : Run) : Type 0 where
  pub long : length r.state.values ≡ n
  pub value : value_at r.state.values net ≡ v

has_round : (m : Machine) (now : ℕ) (all : Bool) (handed : List (ℕ × Value)) (n net : ℕ) (v : Value) (r : Run) → IsNoOutput net m.outputs → net < n → Has n net v r → Has n net (set_value handed net v) (with_round m now all handed r)
has_round m now all handed n net v r free l h =
    let within : net < length r.state.values = subst (λ k. net < k) (sym h.long) l in
    record {
      long = ap (λ (s : State). length s.values) (round-is m now handed r.state) ∙ (length-changed (due_changes now m.outputs r.state.lists ++ handed) r.state.values ∙ h.long);
      value = ap (λ (s : State). value_at s.values net) (round-is m now handed r.state)
          ∙ (values-at m now handed r.state net within ∙ ap (set_value handed net) (dued-at m now r.state net free within ∙ h.value));
    }

-- after a time that ended whole it is as the sets made it
pub input_after : (m : Machine) (now left : ℕ) (must : Bool) (handed : List (ℕ × Value)) (r next : Run) (net : ℕ) → IsFreeNet m net → net < length r.state.values → rounds left m now must handed r ≡ Whole next
    → Has (length r.state.values) net (set_value handed net (value_at r.state.values net)) next
input_after m now left must handed r next net free l e =
    rounds_reach (Has n net w) m now (λ q h. record { long = h.long; value = h.value }) (λ q h. has_round m now false [] n net w q free.output l h)
    (λ q h. subst (λ v. Has n net v (with_round m now false (flips_of m q) q)) (set-none (flips_of m q) net w (toggles-unset (m.notifiers (m.violated q.snapshots)) q.state.values net (free.notifier (m.violated q.snapshots)))) (has_round m now false (flips_of m q) n net w q free.output l h))
    left must handed r next (λ f. has_round m now must handed n net (value_at r.state.values net) r free.output l here) (λ f. subst (λ v. Has n net v r) (unset f) here) e
  where
    n : ℕ
    n = length r.state.values

    w : Value
    w = set_value handed net (value_at r.state.values net)

    here : Has n net (value_at r.state.values net) r
    here = record { long = refl; value = refl }

    unset : needs_round now must handed r.state ≡ false → value_at r.state.values net ≡ w
    unset f = sym (ap (λ cs. set_value cs net (value_at r.state.values net)) (empty_is handed (neither _ _ (neither must _ f).1).0))

-- sets that set inputs to what they are after a time, and each that it changes, make of the nets what its own sets make of them
pub alike_values : (Input : ℕ → Type 0) (m : Machine) (now : ℕ) (sets sets' : List (ℕ × Value)) (s : State) (after : List Value) → ((net : ℕ) → Input net → IsNoOutput net m.outputs)
    → All (λ (c : ℕ × Value). Input c.0) sets → All (λ (c : ℕ × Value). Input c.0 × (c.1 ≡ value_at after c.0)) sets' → ((net : ℕ) → Input net → (value_at after net ≡ value_at s.values net) ⊎ (is_set net sets' ≡ true))
    → ((net : ℕ) → Input net → net < length s.values → value_at after net ≡ set_value sets net (value_at s.values net)) → values_after m now sets' s ≡ values_after m now sets s
alike_values Input m now sets sets' s after free own right each made =
    ext_get_or X (values_after m now sets' s) (values_after m now sets s) (long sets' ∙ sym (long sets)) (λ net l. at net (subst (λ n. net < n) (long sets') l) (is_set net sets') refl)
  where
    long : (cs : List (ℕ × Value)) → length (values_after m now cs s) ≡ length s.values
    long cs = length-changed (due_changes now m.outputs s.lists ++ cs) s.values

    inputs : All (λ (c : ℕ × Value). Input c.0) sets'
    inputs = λ i d l. (right i d l).0

    unset : (net : ℕ) → Input net → net < length s.values → value_at (dued m now s) net ≡ value_at s.values net
    unset net i l = dued-at m now s net (free net i) l

    told : (net : ℕ) → Input net → is_set net sets' ≡ false → (value_at after net ≡ value_at s.values net) ⊎ (is_set net sets' ≡ true) → value_at after net ≡ value_at s.values net
    told net i e (inl same) = same
    told net i e (inr f) = absurd (let q : false ≡ true = sym e ∙ f in cc)

    other : (net : ℕ) → net < length s.values → is_set net sets' ≡ false → (b : Bool) → is_set net sets ≡ b → set_value sets' net (value_at (dued m now s) net) ≡ set_value sets net (value_at (dued m now s) net)
    other net l e true f =
        let i : Input net = set_has Input sets net own f in
        set-none sets' net (value_at (dued m now s) net) e
        ∙ (unset net i l ∙ (sym (told net i e (each net i)) ∙ (made net i l ∙ ap (set_value sets net) (sym (unset net i l)))))
    other net l e false f = set-none sets' net (value_at (dued m now s) net) e ∙ sym (set-none sets net (value_at (dued m now s) net) f)

    at : (net : ℕ) → net < length s.values → (b : Bool) → is_set net sets' ≡ b → value_at (values_after m now sets' s) net ≡ value_at (values_after m now sets s) net
    at net l true e =
        let i : Input net = set_has Input sets' net inputs e in
        values-at m now sets' s net l
        ∙ (set-right sets' net (value_at (dued m now s) net) (value_at after net) e (λ k d h q. (right k d h).1 ∙ ap (value_at after) q)
        ∙ (made net i l ∙ (ap (set_value sets net) (sym (unset net i l)) ∙ sym (values-at m now sets s net l))))
    at net l false e = values-at m now sets' s net l ∙ (other net l e (is_set net sets) refl ∙ sym (values-at m now sets s net l))

-- a time leaves how many nets there are
pub rounds_long : (m : Machine) (now left : ℕ) (must : Bool) (handed : List (ℕ × Value)) (r next : Run) (n : ℕ) → length r.state.values ≡ n → rounds left m now must handed r ≡ Whole next → length next.state.values ≡ n
rounds_long m now left must handed r next n long e =
    rounds_reach (λ q. length q.state.values ≡ n) m now (λ q h. h) (λ q h. round_long false [] q h) (λ q h. round_long false (flips_of m q) q h) left must handed r next (λ f. round_long must handed r long) (λ f. long) e
  where
    round_long : (all : Bool) (cs : List (ℕ × Value)) (q : Run) → length q.state.values ≡ n → length (with_round m now all cs q).state.values ≡ n
    round_long all cs q h = ap (λ (s : State). length s.values) (round-is m now cs q.state) ∙ (length-changed (due_changes now m.outputs q.state.lists ++ cs) q.state.values ∙ h)
