-- What drivers have pending, followed transition by transition.
use Rattle.std.specs.Prelude.{◌≡◌, ◌≢◌, ◌⊎◌, ◌↔◌, ℕ, suc, ◌+◌, ◌<◌, ◌≤◌, ◌==◌, Bool, true, false, IsTrue, if◌then◌else◌, List, [], ◌∷◌, ◌++◌, drop, length, map, reverse, slice_index_or, slice_set, take, refl}
use Rattle.std.proofs.Common.{sym, ◌∙◌, ap, subst, arith, rules, inl, inr}
use Rattle.std.proofs.lemmas.Bool.{cases_eq, eq-eqb, ne_eqb}
use Rattle.std.proofs.lemmas.List.{append-nil, append_assoc, drop_more, get_or_default, get_or-map, get_or-set_same, get_or-set_other, length-map, reverse-append, take-append-drop, take_all, take_more}
use denote.Enum.Bare.{sameb, same_true, same_false}
use Rattle.sg_logic.specs.contracts.values.Value.{the_type}
use Rattle.sg_logic.specs.declared.values.Value.{Value}
use Rattle.sg_logic.specs.declared.values.Value.TheVariants.{X}
use Rattle.sg_model.specs.Values.{value_at}
use Rattle.sg_model.specs.Pending.{last_value, value_of_first, Follows, IsPending}
use Rattle.sim_rounds.specs.Moments.{Pending, pending_of}
use Rattle.sim_rounds.specs.MomentsSeen.{pending_seen}
use Rattle.sim_rounds.specs.declared.moments.Pending as code_pending
use Rattle.sim_rounds.specs.Fitting.{AreLast, AreOrdered}
use Rattle.sim_rounds.proofs.VerdictLaws.{refuted, shown}

-- the time of the first pair, or else a time
abbrev pub time_of_first : List (ℕ × Value) → ℕ → ℕ
time_of_first [] start = start
time_of_first (p ∷ ps) start = p.0

-- transitions in order, of which the last has a time and a value
pub record IsReached (xs : List (ℕ × Value)) (present : Value) (start t : ℕ) (v : Value) : Type 0 where
  pub ordered : IsPending xs present (suc start)
  pub time : t ≡ time_of_first (reverse xs) start
  pub value : v ≡ last_value xs present

-- over a list with its latest pair first: which pair may follow
after : (ps : List (ℕ × Value)) (present : Value) (start t : ℕ) (p : ℕ × Value) → Follows ps present (suc start) → t ≡ time_of_first ps start → t < p.0 → p.1 ≢ value_of_first ps present → Follows (p ∷ ps) present (suc start)
after [] present start t p f time later other = (other, tt, let l : suc start ≤ p.0 = omega arith in l, tt)
after (q ∷ qs) present start t p f time later other =
    let above : q.0 < p.0 = omega arith in
    let since : suc start ≤ p.0 = (let l : suc start ≤ q.0 = f.2 in omega arith) in
    (other, above, since, f)

later_than : (ps : List (ℕ × Value)) (present : Value) (start t : ℕ) (p : ℕ × Value) → Follows (p ∷ ps) present (suc start) → t ≡ time_of_first ps start → t < p.0
later_than [] present start t p f time = (let l : suc start ≤ p.0 = f.2 in omega arith)
later_than (q ∷ qs) present start t p f time = (let l : q.0 < p.0 = f.1 in omega arith)

front : (qs ps : List (ℕ × Value)) (present : Value) (now : ℕ) → Follows (qs ++ ps) present now → Follows ps present now
front [] ps present now f = f
front (q ∷ qs) ps present now f = front qs ps present now f.3

-- the first ones of transitions that are in order are
pending_front : (xs ys : List (ℕ × Value)) (present : Value) (now : ℕ) → IsPending (xs ++ ys) present now → IsPending xs present now
pending_front xs ys present now f = front (reverse ys) (reverse xs) present now (subst (λ zs. Follows zs present now) (reverse-append xs ys) f)

-- one more
one_more : (xs : List (ℕ × Value)) (present : Value) (start t : ℕ) (v : Value) (p : ℕ × Value) → IsReached xs present start t v → t < p.0 → p.1 ≢ v → IsReached (xs ++ p ∷ []) present start p.0 p.1
one_more xs present start t v p h later other =
    let turned : p ∷ reverse xs ≡ reverse (xs ++ p ∷ []) = sym (reverse-append xs (p ∷ [])) in
    record {
      ordered = subst (λ zs. Follows zs present (suc start)) turned (after (reverse xs) present start t p h.ordered h.time later (λ e. other (e ∙ sym h.value)));
      time = ap (λ zs. time_of_first zs start) turned;
      value = ap (λ zs. value_of_first zs present) turned;
    }

-- where one more is in order, it is later and has another value
may_follow : (xs ys : List (ℕ × Value)) (present : Value) (start t : ℕ) (v : Value) (p : ℕ × Value) → IsReached xs present start t v → IsPending (xs ++ p ∷ ys) present (suc start) → (t < p.0) × (p.1 ≢ v)
may_follow xs ys present start t v p h f =
    let all : IsPending ((xs ++ p ∷ []) ++ ys) present (suc start) = subst (λ zs. IsPending zs present (suc start)) (sym (append_assoc xs (p ∷ []) ys)) f in
    let upto : Follows (p ∷ reverse xs) present (suc start) = subst (λ zs. Follows zs present (suc start)) (reverse-append xs (p ∷ [])) (pending_front (xs ++ p ∷ []) ys present (suc start) all) in
    (later_than (reverse xs) present start t p upto h.time, λ e. upto.0 (e ∙ h.value))

-- what a driver has pending, of lists one behind the other
one_behind : (b : Bool) (p : ℕ × Value) (xs ys zs : List (ℕ × Value)) → zs ≡ xs ++ ys → (if b then (p ∷ zs) else zs) ≡ (if b then (p ∷ xs) else xs) ++ ys
one_behind true p xs ys zs e = ap (λ ws. p ∷ ws) e
one_behind false p xs ys zs e = e

pub pending_of-append : (e : ℕ) (ps qs : List Pending) → pending_of e (ps ++ qs) ≡ pending_of e ps ++ pending_of e qs
pending_of-append e [] qs = refl
pending_of-append e (p ∷ ps) qs = one_behind (p.driver == e) (p.time, p.value) (pending_of e ps) (pending_of e qs) (pending_of e (ps ++ qs)) (pending_of-append e ps qs)

pending_of-same : (e : ℕ) (p : Pending) (ps : List Pending) → p.driver ≡ e → pending_of e (p ∷ ps) ≡ (p.time, p.value) ∷ pending_of e ps
pending_of-same e p ps same = ap (λ (b : Bool). if b then ((p.time, p.value) ∷ pending_of e ps) else pending_of e ps) (eq-eqb p.driver e same)

pending_of-other : (e : ℕ) (p : Pending) (ps : List Pending) → p.driver ≢ e → pending_of e (p ∷ ps) ≡ pending_of e ps
pending_of-other e p ps other = ap (λ (b : Bool). if b then ((p.time, p.value) ∷ pending_of e ps) else pending_of e ps) (ne_eqb p.driver e other)

-- each driver's transitions are in order, from a time and a value of its own on, and end at a time with a value
abbrev pub AreReached : (ps : List Pending) (starts : List ℕ) (old : List Value) (times : List ℕ) (values : List Value) → Type 0
AreReached ps starts old times values = (e : ℕ) → e < length old → IsReached (pending_of e ps) (value_at old e) (slice_index_or starts e 0) (slice_index_or times e 0) (value_at values e)

pub none_reached : (starts : List ℕ) (old : List Value) → AreReached [] starts old starts old
none_reached starts old = λ e l. record { ordered = tt; time = refl; value = refl }

-- one more of them all
more_reached : (ps : List Pending) (p : Pending) (starts : List ℕ) (old : List Value) (times : List ℕ) (values : List Value) → AreReached ps starts old times values → p.driver < length old → p.driver < length times → p.driver < length values
    → slice_index_or times p.driver 0 < p.time → p.value ≢ value_at values p.driver → AreReached (ps ++ p ∷ []) starts old (slice_set times p.driver p.time) (slice_set values p.driver p.value)
more_reached ps p starts old times values h known in_times in_values later other = λ e l. by e l (cases_eq e p.driver)
  where
    by : (e : ℕ) → e < length old → (e ≡ p.driver) ⊎ (e ≡ p.driver → ⊥)
        → IsReached (pending_of e (ps ++ p ∷ [])) (value_at old e) (slice_index_or starts e 0) (slice_index_or (slice_set times p.driver p.time) e 0) (value_at (slice_set values p.driver p.value) e)
    by e l (inl same) =
        let list : pending_of e ps ++ (p.time, p.value) ∷ [] ≡ pending_of e (ps ++ p ∷ []) = sym (pending_of-append e ps (p ∷ []) ∙ ap (λ zs. pending_of e ps ++ zs) (pending_of-same e p [] (sym same))) in
        let time : p.time ≡ slice_index_or (slice_set times p.driver p.time) e 0 = sym (ap (λ n. slice_index_or (slice_set times p.driver p.time) n 0) same ∙ get_or-set_same times p.driver p.time 0 in_times) in
        let value : p.value ≡ value_at (slice_set values p.driver p.value) e = sym (ap (λ n. value_at (slice_set values p.driver p.value) n) same ∙ get_or-set_same values p.driver p.value X in_values) in
        let last : IsReached (pending_of e ps ++ (p.time, p.value) ∷ []) (value_at old e) (slice_index_or starts e 0) p.time p.value =
        one_more (pending_of e ps) (value_at old e) (slice_index_or starts e 0) (slice_index_or times e 0) (value_at values e) (p.time, p.value) (h e l) (subst (λ n. slice_index_or times n 0 < p.time) (sym same) later) (subst (λ n. p.value ≢ value_at values n) (sym same) other) in
        subst (λ zs. IsReached zs (value_at old e) (slice_index_or starts e 0) (slice_index_or (slice_set times p.driver p.time) e 0) (value_at (slice_set values p.driver p.value) e)) list
        (subst (λ t. IsReached (pending_of e ps ++ (p.time, p.value) ∷ []) (value_at old e) (slice_index_or starts e 0) t (value_at (slice_set values p.driver p.value) e)) time
        (subst (λ v. IsReached (pending_of e ps ++ (p.time, p.value) ∷ []) (value_at old e) (slice_index_or starts e 0) p.time v) value last))
    by e l (inr apart) =
        let list : pending_of e ps ≡ pending_of e (ps ++ p ∷ []) = sym (pending_of-append e ps (p ∷ []) ∙ (ap (λ zs. pending_of e ps ++ zs) (pending_of-other e p [] (λ s. apart (sym s))) ∙ append-nil (pending_of e ps))) in
        let time : slice_index_or times e 0 ≡ slice_index_or (slice_set times p.driver p.time) e 0 = sym (get_or-set_other times p.driver e p.time 0 apart) in
        let value : value_at values e ≡ value_at (slice_set values p.driver p.value) e = sym (get_or-set_other values p.driver e p.value X apart) in
        subst (λ zs. IsReached zs (value_at old e) (slice_index_or starts e 0) (slice_index_or (slice_set times p.driver p.time) e 0) (value_at (slice_set values p.driver p.value) e)) list
        (subst (λ t. IsReached (pending_of e ps) (value_at old e) (slice_index_or starts e 0) t (value_at (slice_set values p.driver p.value) e)) time
        (subst (λ v. IsReached (pending_of e ps) (value_at old e) (slice_index_or starts e 0) (slice_index_or times e 0) v) value (h e l)))

-- the transition at a place of the code's list
pub seen_at : (ps : List code_pending.Pending) (i : ℕ) (d : code_pending.Pending) → i < length ps → slice_index_or (map (λ p. pending_seen p) ps) i (pending_seen d) ≡ pending_seen (slice_index_or ps i d)
seen_at ps i d l = get_or-map (λ (p : code_pending.Pending). pending_seen p) ps i d (pending_seen d) l

-- a turn of the loop
pub turn_reached : (ps : List code_pending.Pending) (i : ℕ) (d : code_pending.Pending) (starts : List ℕ) (old : List Value) (times : List ℕ) (values : List Value) (c : Value) → i < length ps
    → AreReached (take i (map (λ p. pending_seen p) ps)) starts old times values
    → (slice_index_or ps i d).driver < length old → length times ≡ length old → length values ≡ length old
    → slice_index_or times (slice_index_or ps i d).driver 0 < (slice_index_or ps i d).time → sameb the_type (slice_index_or ps i d).value (slice_index_or values (slice_index_or ps i d).driver c) ≡ false
    → AreReached (take (i + 1) (map (λ p. pending_seen p) ps)) starts old (slice_set times (slice_index_or ps i d).driver (slice_index_or ps i d).time) (slice_set values (slice_index_or ps i d).driver (slice_index_or ps i d).value)
turn_reached ps i d starts old times values c l h known many_times many_values later other =
    let p : code_pending.Pending = slice_index_or ps i d in
    let seen : List Pending = map (λ p. pending_seen p) ps in
    let in_times : p.driver < length times = omega arith in
    let in_values : p.driver < length values = omega arith in
    let more : take i seen ++ pending_seen p ∷ [] ≡ take (i + 1) seen =
    sym (take_more seen i (pending_seen d) (subst (λ n. i < n) (sym (length-map ps (λ (x : code_pending.Pending). pending_seen x))) l) ∙ ap (λ x. take i seen ++ x ∷ []) (seen_at ps i d l)) in
    subst (λ qs. AreReached qs starts old (slice_set times p.driver p.time) (slice_set values p.driver p.value)) more
    (more_reached (take i seen) (pending_seen p) starts old times values h known in_times in_values later (λ e. same_false the_type p.value (slice_index_or values p.driver c) other (e ∙ get_or_default values p.driver X c in_values)))

-- where all are in order, the next may follow
pub next_follows : (ps : List code_pending.Pending) (i : ℕ) (d : code_pending.Pending) (starts : List ℕ) (old : List Value) (times : List ℕ) (values : List Value) → i < length ps
    → AreReached (take i (map (λ p. pending_seen p) ps)) starts old times values
    → (slice_index_or ps i d).driver < length old → AreOrdered starts old (map (λ p. pending_seen p) ps)
    → (slice_index_or times (slice_index_or ps i d).driver 0 < (slice_index_or ps i d).time) × ((slice_index_or ps i d).value ≢ value_at values (slice_index_or ps i d).driver)
next_follows ps i d starts old times values l h known ordered =
    let p : code_pending.Pending = slice_index_or ps i d in
    let e : ℕ = p.driver in
    let seen : List Pending = map (λ p. pending_seen p) ps in
    let split : drop i seen ≡ pending_seen p ∷ drop (i + 1) seen =
    drop_more seen i (pending_seen d) (subst (λ n. i < n) (sym (length-map ps (λ (x : code_pending.Pending). pending_seen x))) l) ∙ ap (λ x. x ∷ drop (i + 1) seen) (seen_at ps i d l) in
    let list : pending_of e seen ≡ pending_of e (take i seen) ++ (p.time, p.value) ∷ pending_of e (drop (i + 1) seen) =
    ap (pending_of e) (sym (take-append-drop i seen)) ∙ (pending_of-append e (take i seen) (drop i seen) ∙ ap (λ zs. pending_of e (take i seen) ++ zs) (ap (pending_of e) split ∙ pending_of-same e (pending_seen p) (drop (i + 1) seen) refl)) in
    may_follow (pending_of e (take i seen)) (pending_of e (drop (i + 1) seen)) (value_at old e) (slice_index_or starts e 0) (slice_index_or times e 0) (value_at values e) (p.time, p.value) (h e known)
    (subst (λ zs. IsPending zs (value_at old e) (suc (slice_index_or starts e 0))) list (ordered e known))

-- it isn't later, or has the same value
pub not_later : (ps : List code_pending.Pending) (i : ℕ) (d : code_pending.Pending) (starts : List ℕ) (old : List Value) (times : List ℕ) (values : List Value) → i < length ps
    → AreReached (take i (map (λ p. pending_seen p) ps)) starts old times values → (slice_index_or ps i d).driver < length old
    → (slice_index_or ps i d).time ≤ slice_index_or times (slice_index_or ps i d).driver 0 → (IsTrue false ↔ AreOrdered starts old (map (λ p. pending_seen p) ps))
not_later ps i d starts old times values l h known early =
    refuted (AreOrdered starts old (map (λ p. pending_seen p) ps)) (λ o. (let later = (next_follows ps i d starts old times values l h known o).0 in omega (arith, later, early)))

pub not_other : (ps : List code_pending.Pending) (i : ℕ) (d : code_pending.Pending) (starts : List ℕ) (old : List Value) (times : List ℕ) (values : List Value) (c : Value) → i < length ps
    → AreReached (take i (map (λ p. pending_seen p) ps)) starts old times values → (slice_index_or ps i d).driver < length old → length values ≡ length old
    → sameb the_type (slice_index_or ps i d).value (slice_index_or values (slice_index_or ps i d).driver c) ≡ true → (IsTrue false ↔ AreOrdered starts old (map (λ p. pending_seen p) ps))
not_other ps i d starts old times values c l h known many e =
    let p : code_pending.Pending = slice_index_or ps i d in
    let in_values : p.driver < length values = omega arith in
    refuted (AreOrdered starts old (map (λ p. pending_seen p) ps))
    (λ o. (next_follows ps i d starts old times values l h known o).1 (same_true the_type (search rules) p.value (slice_index_or values p.driver c) e ∙ get_or_default values p.driver c X in_values))

-- all were followed
upto_end : (ps : List code_pending.Pending) (i : ℕ) (starts : List ℕ) (old : List Value) (times : List ℕ) (values : List Value) → length ps ≤ i → AreReached (take i (map (λ p. pending_seen p) ps)) starts old times values
    → AreReached (map (λ p. pending_seen p) ps) starts old times values
upto_end ps i starts old times values l h =
    subst (λ qs. AreReached qs starts old times values) (take_all i (map (λ p. pending_seen p) ps) (subst (λ n. n ≤ i) (sym (length-map ps (λ (x : code_pending.Pending). pending_seen x))) l)) h

pub all_ordered : (ps : List code_pending.Pending) (i : ℕ) (starts : List ℕ) (old : List Value) (times : List ℕ) (values : List Value) → length ps ≤ i → AreReached (take i (map (λ p. pending_seen p) ps)) starts old times values
    → (IsTrue true ↔ AreOrdered starts old (map (λ p. pending_seen p) ps))
all_ordered ps i starts old times values l h = shown (AreOrdered starts old (map (λ p. pending_seen p) ps)) (λ e k. (upto_end ps i starts old times values l h e k).ordered)

pub all_last : (ps : List code_pending.Pending) (i : ℕ) (starts : List ℕ) (old : List Value) (times : List ℕ) (values : List Value) → length ps ≤ i → AreReached (take i (map (λ p. pending_seen p) ps)) starts old times values
    → AreLast old values (map (λ p. pending_seen p) ps)
all_last ps i starts old times values l h = λ e k. (upto_end ps i starts old times values l h e k).value
