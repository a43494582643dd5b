-- Steps of given values, of which those of the last time are still open.
use Rattle.std.specs.Prelude.{ℕ, ◌≡◌, ◌<◌, ◌==◌, ◌&&◌, not, Bool, true, false, List, [], ◌∷◌, ◌++◌, map, filter, Option, refl}
use Rattle.std.specs.Option.{option_map}
use Rattle.std.specs.List.{range_with_len}
use Rattle.std.specs.BTreeMap.{insert_entry}
use Rattle.std.specs.Ordering.{match_ordering, nat_cmp}
use Rattle.std.specs.declared.cmp.Ordering.{Ordering}
use Rattle.std.specs.declared.cmp.Ordering.TheVariants.{Less, Equal, Greater}
use Rattle.std.proofs.Common.{sym, ◌∙◌, ap, arith}
use Rattle.std.proofs.lemmas.Bool.{eq-eqb, ne_eqb}
use Rattle.std.proofs.lemmas.List.{map-append, append-nil}
use Rattle.sg_logic.specs.declared.values.Value.{Value}
use Rattle.sg_stimulus.specs.Stimulus.{Step}
use Rattle.vcd_model.specs.Stimulus.{is_given, last, last_given, once, step_at, steps_of}
use Rattle.vcd_model.specs.Values.{ticks, Given, Scale}
use Rattle.vcd_stim.specs.Steps.{pairs, put_all, step_of, Each}
use Rattle.vcd_stim.proofs.Lists.{all-kept, each-filter, each-map, each-weaker, filter-apart, map-same, none-kept, picks-same}
use Rattle.vcd_stim.proofs.PutLaws.{open-sets}

-- ---- each time once

abbrev pub is_other : ℕ → ℕ → Bool
is_other t u = not (u == t)

each-once : (P : ℕ → Type 0) (ts : List ℕ) → Each P ts → Each P (once ts)
each-once P [] h = tt
each-once P (t ∷ ts) h = (h.0, each-filter P (is_other t) (once ts) (each-once P ts h.1))

once-now : (now t : ℕ) (ts : List ℕ) → t ≡ now → Each (λ u. u ≡ now) ts → once (t ∷ ts) ≡ now ∷ []
once-now now t ts e h =
    ap (λ l. t ∷ l) (none-kept (is_other t) (once ts) (each-weaker (λ u. u ≡ now) (λ u. is_other t u ≡ false) (λ u k. ap not (eq-eqb u t (k ∙ sym e))) (once ts) (each-once (λ u. u ≡ now) ts h)))
    ∙ ap (λ x. x ∷ []) e

once-apart : (now : ℕ) (ts us : List ℕ) → Each (λ t. t < now) ts → Each (λ u. u ≡ now) us → once (ts ++ us) ≡ once ts ++ once us
once-apart now [] us h k = refl
once-apart now (t ∷ ts) us h k =
    ap (λ l. t ∷ filter (is_other t) l) (once-apart now ts us h.1 k)
    ∙ ap (λ l. t ∷ l) (filter-apart (is_other t) (once ts) (once us))
    ∙ ap (λ l. t ∷ (filter (is_other t) (once ts) ++ l))
    (all-kept (is_other t) (once us) (each-weaker (λ u. u ≡ now) (λ u. is_other t u ≡ true) (λ u e. ap not (ne_eqb u t (λ q. omega (arith, h.0, e, q)))) (once us) (each-once (λ u. u ≡ now) us k)))

-- ---- the sets of a time

not-given : (t net : ℕ) (gs : List Given) → Each (λ g. g.time ≡ t → ⊥) gs → filter (is_given t net) gs ≡ []
not-given t net gs h = none-kept (is_given t net) gs (each-weaker (λ g. g.time ≡ t → ⊥) (λ g. is_given t net g ≡ false) (λ g k. ap (λ b. b && (g.net == net)) (ne_eqb g.time t k)) gs h)

abbrev pub given_last : List Given → ℕ → Option (ℕ × Value)
given_last gs net = option_map (λ v. (net, v)) (last (map (λ g. g.value) gs))

-- values of other times don't count
before-counts : (scale : Scale) (n t : ℕ) (closed opened : List Given) → Each (λ g. g.time ≡ t → ⊥) opened → step_at scale n (closed ++ opened) t ≡ step_at scale n closed t
before-counts scale n t closed opened h =
    ap (λ l. record { time = ticks scale t; sets = l })
    (picks-same (last_given (closed ++ opened) t) (last_given closed t) (λ net. ap (λ l. given_last l net) (filter-apart (is_given t net) closed opened ∙ ap (λ l. filter (is_given t net) closed ++ l) (not-given t net opened h) ∙ append-nil (filter (is_given t net) closed))) (range_with_len 0 n))

now-counts : (scale : Scale) (n t : ℕ) (closed opened : List Given) → Each (λ g. g.time ≡ t → ⊥) closed → step_at scale n (closed ++ opened) t ≡ step_at scale n opened t
now-counts scale n t closed opened h =
    ap (λ l. record { time = ticks scale t; sets = l })
    (picks-same (last_given (closed ++ opened) t) (last_given opened t) (λ net. ap (λ l. given_last l net) (filter-apart (is_given t net) closed opened ∙ ap (λ l. l ++ filter (is_given t net) opened) (not-given t net closed h))) (range_with_len 0 n))

-- ---- a step that is closed

abbrev pub IsSomeList : List (ℕ × Value) → Type 0
IsSomeList [] = ⊥
IsSomeList (c ∷ cs) = Unit {0}

insert-some : (es : List (ℕ × Value)) (net : ℕ) (v : Value) → IsSomeList (insert_entry nat_cmp es net v)
insert-some [] net v = tt
insert-some (e ∷ es) net v = by (nat_cmp net e.0)
  where
    by : (o : Ordering) → IsSomeList (match_ordering o ((net, v) ∷ e ∷ es) ((e.0, v) ∷ es) (e ∷ insert_entry nat_cmp es net v))
    by Less = tt
    by Equal = tt
    by Greater = tt

put-some : (es cs : List (ℕ × Value)) → IsSomeList es → IsSomeList (put_all es cs)
put-some es [] h = h
put-some es (c ∷ cs) h = put-some (insert_entry nat_cmp es c.0 c.1) cs (insert-some es c.0 c.1)

some-step : (t : ℕ) (cs : List (ℕ × Value)) → IsSomeList cs → step_of t cs ≡ record { time = t; sets = cs } ∷ []
some-step t [] h = absurd h
some-step t (c ∷ cs) h = refl

close-some : (scale : Scale) (n now : ℕ) (closed : List Given) (g : Given) (gs : List Given) → Each (λ x. x.time < now) closed → Each (λ x. x.time ≡ now) (g ∷ gs) → Each (λ x. x.net < n) (g ∷ gs)
    → steps_of scale n (closed ++ g ∷ gs) ≡ steps_of scale n closed ++ step_of (ticks scale now) (put_all [] (pairs (g ∷ gs)))
close-some scale n now closed g gs past present few =
    let times : List ℕ = map (λ x. x.time) closed in
    let before : Each (λ t. t < now) times = each-map (λ t. t < now) (λ x. x.time) closed past in
    let at : Each (λ t. t ≡ now) (map (λ x. x.time) (g ∷ gs)) = each-map (λ t. t ≡ now) (λ x. x.time) (g ∷ gs) present in
    let step : ℕ → Step = step_at scale n (closed ++ g ∷ gs) in
    let firsts : map step (once times) ≡ map (step_at scale n closed) (once times) =
    map-same step (step_at scale n closed) (once times) (each-weaker (λ t. t < now) (λ t. step t ≡ step_at scale n closed t)
    (λ t lt. before-counts scale n t closed (g ∷ gs) (each-weaker (λ x. x.time ≡ now) (λ x. x.time ≡ t → ⊥) (λ x e q. omega (arith, lt, e, q)) (g ∷ gs) present)) (once times) (each-once (λ t. t < now) times before)) in
    let last_one : step now ≡ record { time = ticks scale now; sets = put_all [] (pairs (g ∷ gs)) } =
    now-counts scale n now closed (g ∷ gs) (each-weaker (λ x. x.time < now) (λ x. x.time ≡ now → ⊥) (λ x lt e. omega (arith, lt, e)) closed past)
    ∙ ap (λ l. record { time = ticks scale now; sets = l }) (sym (open-sets n now (g ∷ gs) few present)) in
    ap (λ l. map step (once l)) (map-append (λ x. x.time) closed (g ∷ gs))
    ∙ ap (map step) (once-apart now times (map (λ x. x.time) (g ∷ gs)) before at)
    ∙ ap (λ l. map step (once times ++ l)) (once-now now g.time (map (λ x. x.time) gs) at.0 at.1)
    ∙ map-append step (once times) (now ∷ [])
    ∙ ap (λ l. l ++ step now ∷ []) firsts
    ∙ ap (λ s. map (step_at scale n closed) (once times) ++ s ∷ []) last_one
    ∙ ap (λ l. map (step_at scale n closed) (once times) ++ l) (sym (some-step (ticks scale now) (put_all [] (pairs (g ∷ gs))) (put-some ((g.net, g.value) ∷ []) (pairs gs) tt)))

pub close-step : (scale : Scale) (n now : ℕ) (closed opened : List Given) → Each (λ x. x.time < now) closed → Each (λ x. x.time ≡ now) opened → Each (λ x. x.net < n) opened
    → steps_of scale n (closed ++ opened) ≡ steps_of scale n closed ++ step_of (ticks scale now) (put_all [] (pairs opened))
close-step scale n now closed [] past present few = ap (steps_of scale n) (append-nil closed) ∙ sym (append-nil (steps_of scale n closed))
close-step scale n now closed (g ∷ gs) past present few = close-some scale n now closed g gs past present few
