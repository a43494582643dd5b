-- A round at which nothing is due and nothing changes leaves a settled state as it is.
use Rattle.std.specs.Prelude.{◌≡◌, ℕ, zero, suc, ◌<◌, ◌||◌, Bool, true, false, if◌then◌else◌, List, [], ◌∷◌, length, map, slice_index_or, Option, Some, None, refl}
use Rattle.std.proofs.Common.{sym, ◌∙◌, ap, subst, zero-add}
use Rattle.std.proofs.lemmas.List.{ext_get_or}
use Rattle.sg_logic.specs.declared.values.Value.{Value}
use Rattle.sg_logic.specs.declared.values.Value.TheVariants.{X}
use Rattle.sg_model.specs.Values.{value_at}
use Rattle.sg_model.specs.Agenda.{due, list_at}
use Rattle.sg_model.specs.Machine.{Machine, State, Stamp}
use Rattle.sg_model.specs.Round.{any_due, due_change, due_changes, each_from, element_list, element_value, is_due, round, stamp_after, values_after, without_due}
use Rattle.sg_model.specs.FanOut.{present_after, AgreeAt, IsSteady}
use Rattle.sg_model.proofs.FanOutLaws.{settled-value, settled-list}
use Rattle.sg_model.proofs.PlacingSteps.{same-self}
use Rattle.sg_model.proofs.RunSteps.{round-is}
use Rattle.fan_round.specs.Rounds.{AreSettled}
use Rattle.fan_round.proofs.ListLaws.{each_from-at, length-each_from}

pub neither : (a b : Bool) → (a || b) ≡ false → (a ≡ false) × (b ≡ false)
neither true b h = absurd (let q : true ≡ false = h in cc)
neither false b h = (refl, h)

-- no pair of the list is due
none_taken : (now : ℕ) (list : List (ℕ × Value)) → is_due now list ≡ false → without_due now list ≡ list
none_taken now [] h = refl
none_taken now (p ∷ ps) h = ap (λ b. if b then ps else (p ∷ ps)) h

present_stays : (now : ℕ) (list : List (ℕ × Value)) (present : Value) → is_due now list ≡ false → present_after now list present ≡ present
present_stays now [] present h = refl
present_stays now (p ∷ ps) present h = ap (λ b. if b then p.1 else present) h

not_due : (now : ℕ) (list : List (ℕ × Value)) → is_due now list ≡ false → due now list ≡ None
not_due now [] h = refl
not_due now (p ∷ ps) h = ap (λ b. if b then Some p.1 else None) h

-- nor of any list
all_left : (now : ℕ) (lists : List (List (ℕ × Value))) → any_due now lists ≡ false → map (without_due now) lists ≡ lists
all_left now [] h = refl
all_left now (x ∷ xs) h =
    let b = neither (is_due now x) (any_due now xs) h in
    ap (λ y. y ∷ map (without_due now) xs) (none_taken now x b.0) ∙ ap (λ ys. x ∷ ys) (all_left now xs b.1)

due_at : (now : ℕ) (lists : List (List (ℕ × Value))) (e : ℕ) → any_due now lists ≡ false → is_due now (list_at lists e) ≡ false
due_at now [] e h = refl
due_at now (x ∷ xs) zero h = (neither (is_due now x) (any_due now xs) h).0
due_at now (x ∷ xs) (suc e) h = due_at now xs e (neither (is_due now x) (any_due now xs) h).1

pub no_changes : (now : ℕ) (nets : List ℕ) (lists : List (List (ℕ × Value))) → any_due now lists ≡ false → due_changes now nets lists ≡ []
no_changes now [] lists h = refl
no_changes now (n ∷ ns) [] h = refl
no_changes now (n ∷ ns) (x ∷ xs) h =
    let b = neither (is_due now x) (any_due now xs) h in
    ap (λ c. due_change c n (due_changes now ns xs)) (not_due now x b.0) ∙ no_changes now ns xs b.1

same_stamps : (now k : ℕ) (values : List Value) (stamps : List (Option Stamp)) → each_from (stamp_after now values values) k stamps ≡ stamps
same_stamps now k values [] = refl
same_stamps now k values (t ∷ ts) =
    ap (λ b. (if b then t else Some (record { time = now; before = value_at values k; after = value_at values k })) ∷ each_from (stamp_after now values values) (suc k) ts) (same-self (value_at values k) (value_at values k) refl)
    ∙ ap (λ xs. t ∷ xs) (same_stamps now (suc k) values ts)

agree_self : (nets : List ℕ) (values : List Value) → AgreeAt nets values values
agree_self [] values = tt
agree_self (n ∷ ns) values = (refl, agree_self ns values)

-- evaluating all again changes nothing
same_lists : (m : Machine) → IsSteady m → (now : ℕ) (values : List Value) (stamps : List (Option Stamp)) (lists : List (List (ℕ × Value))) (states : List Value) → AreSettled m values lists states → any_due now lists ≡ false
    → each_from (element_list m now values values stamps states) 0 lists ≡ lists
same_lists m steady now values stamps lists states settled none =
    ext_get_or [] (each_from (element_list m now values values stamps states) 0 lists) lists (length-each_from (element_list m now values values stamps states) 0 lists)
    (λ e l.
    (let l' : e < length lists = subst (λ n. e < n) (length-each_from (element_list m now values values stamps states) 0 lists) l in
    let list : List (ℕ × Value) = list_at lists e in
    let none_here : is_due now list ≡ false = due_at now lists e none in
    let again : element_list m now values values stamps states e (without_due now list) ≡ without_due now list =
    settled-list m steady now e values values stamps states list (settled.each e l') (agree_self (slice_index_or m.inputs e []) values) (sym (present_stays now list (value_at values (slice_index_or m.outputs e 0)) none_here)) in
    each_from-at (element_list m now values values stamps states) 0 lists e [] [] l'
    ∙ (ap (λ n. element_list m now values values stamps states n list) (zero-add e)
    ∙ (ap (element_list m now values values stamps states e) (sym (none_taken now list none_here)) ∙ (again ∙ none_taken now list none_here)))))

same_states : (m : Machine) → IsSteady m → (values : List Value) (lists : List (List (ℕ × Value))) (states : List Value) → AreSettled m values lists states → length states ≡ length lists
    → each_from (element_value m values values) 0 states ≡ states
same_states m steady values lists states settled many =
    ext_get_or X (each_from (element_value m values values) 0 states) states (length-each_from (element_value m values values) 0 states)
    (λ e l.
    (let l' : e < length states = subst (λ n. e < n) (length-each_from (element_value m values values) 0 states) l in
    let l2 : e < length lists = subst (λ n. e < n) many l' in
    each_from-at (element_value m values values) 0 states e X X l'
    ∙ (ap (λ n. element_value m values values n (value_at states e)) (zero-add e)
    ∙ settled-value m steady e values values (list_at lists e) (value_at states e) (settled.each e l2) (agree_self (slice_index_or m.inputs e []) values))))

pub idle_round : (m : Machine) → IsSteady m → (now : ℕ) (handed : List (ℕ × Value)) (s : State) → AreSettled m s.values s.lists s.states → length s.states ≡ length s.lists → any_due now s.lists ≡ false → values_after m now handed s ≡ s.values
    → round m now handed s ≡ s
idle_round m steady now handed s settled many none same =
    round-is m now handed s
    ∙ (ap (λ vs. parts vs (each_from (stamp_after now s.values vs) 0 s.stamps) (map (without_due now) s.lists)) same
    ∙ (ap (λ ts. parts s.values ts (map (without_due now) s.lists)) (same_stamps now 0 s.values s.stamps)
    ∙ (ap (λ ls. parts s.values s.stamps ls) (all_left now s.lists none)
    ∙ (ap (λ ls. record { values = s.values; stamps = s.stamps; lists = ls; states = each_from (element_value m s.values s.values) 0 s.states }) (same_lists m steady now s.values s.stamps s.lists s.states settled none)
    ∙ ap (λ vs. record { values = s.values; stamps = s.stamps; lists = s.lists; states = vs }) (same_states m steady s.values s.lists s.states settled many)))))
  where
    parts : List Value → List (Option Stamp) → List (List (ℕ × Value)) → State
    parts vs ts ls = record {
      values = vs;
      stamps = ts;
      lists = each_from (element_list m now s.values vs ts s.states) 0 ls;
      states = each_from (element_value m s.values vs) 0 s.states;
    }

-- what a round leaves is decided by the values after it
pub round_by_values : (m : Machine) (now : ℕ) (handed handed' : List (ℕ × Value)) (s : State) → values_after m now handed' s ≡ values_after m now handed s → round m now handed' s ≡ round m now handed s
round_by_values m now handed handed' s same =
    round-is m now handed' s ∙ (ap parts same ∙ sym (round-is m now handed s))
  where
    parts : List Value → State
    parts vs = record {
      values = vs;
      stamps = each_from (stamp_after now s.values vs) 0 s.stamps;
      lists = each_from (element_list m now s.values vs (each_from (stamp_after now s.values vs) 0 s.stamps) s.states) 0 (map (without_due now) s.lists);
      states = each_from (element_value m s.values vs) 0 s.states;
    }
