-- The moment that a simulation has come to.
use Rattle.std.specs.Prelude.{◌≡◌, ℕ, suc, ◌+◌, ◌-◌, ◌^◌, ◌<◌, ◌≤◌, min, true, false, if◌then◌else◌, List, [], ◌∷◌, ◌++◌, length, map, reverse, take, drop, slice_index_or, refl, Some, None}
use Rattle.std.specs.declared.option.Option.{Option}
use Rattle.std.proofs.Common.{sym, ◌∙◌, ap, arith, append_assoc, append-nil}
use Rattle.std.proofs.lemmas.List.{drop_all, drop_more, get_or-take, reverse-append, reverse-reverse, length-reverse, take-take, take-set-le}
use Rattle.std.proofs.lemmas.Option.{same_Some, none-some}
use Rattle.sg_logic.specs.declared.values.Value.{Value}
use Rattle.sg_logic.specs.declared.values.Value.TheVariants.{X}
use Rattle.sg_model.specs.Agenda.{list_at, with_list}
use Rattle.sg_model.specs.Machine.{Snapshot}
use Rattle.sg_model.specs.Pending.{first_of, last_of, rest_of, without_last}
use Rattle.sg_model.specs.Round.{each_from}
use Rattle.sg_circuit.specs.declared.elements.Element as code_element
use Rattle.sg_circuit.specs.declared.circuits.Parts.{Parts}
use Rattle.sg_circuit.specs.Circuit.{Circuit}
use Rattle.sg_circuit.specs.Seen.{element_seen, kind_seen}
use Rattle.fan_round.specs.declared.nets.Nets.{Nets}
use Rattle.fan_round.specs.declared.stamps.Stamp as code_stamp
use Rattle.fan_round.specs.declared.work.WorkList.{WorkList}
use Rattle.fan_round.specs.Nets.{stamp_seen}
use Rattle.fan_round.specs.States.{state_seen}
use Rattle.time_checks.specs.declared.violations.Violation as code_violation
use Rattle.time_checks.specs.Checking.{Kept, Stands}
use Rattle.time_checks.specs.Violations.{latest_events}
use Rattle.sim_times.specs.Times.{count_shown}
use Rattle.sim_rounds.specs.Moments.{Moment, Pending, is_udp, moment_of, pending_in, udp_states}
use Rattle.sim_rounds.specs.MomentsSeen.{change_seen}
use Rattle.sim_rounds.specs.Pausing.{change_kept, pending_by, HasComeTo}

pub map_turned : {A B : Type 0} (f : A → B) (xs : List A) → map f (reverse xs) ≡ reverse (map f xs)
map_turned f [] = refl
map_turned {A = A} f (x ∷ xs) =
    ap (map f) (reverse-append (x ∷ []) xs) ∙ (joined (reverse xs) ∙ (ap (λ ys. ys ++ f x ∷ []) (map_turned f xs) ∙ sym (reverse-append (f x ∷ []) (map f xs))))
  where
    joined : (ys : List A) → map f (ys ++ x ∷ []) ≡ map f ys ++ f x ∷ []
    joined [] = refl
    joined (y ∷ ys) = ap (λ zs. f y ∷ zs) (joined ys)

-- one transition more was taken off a driver's list, the latest
pub drained_more : (d : ℕ) (before after whole : List Pending) (xs : List (ℕ × Value)) (p : ℕ × Value) → before ++ map (pending_by d) (reverse xs) ≡ whole → last_of xs ≡ Some p → after ≡ before ++ pending_by d p ∷ []
    → after ++ map (pending_by d) (reverse (without_last xs)) ≡ whole
drained_more d before after whole xs p e l a =
    ap (λ ys. after ++ map (pending_by d) ys) (reverse-reverse (rest_of (reverse xs))) ∙ (ap (λ ys. ys ++ map (pending_by d) (rest_of (reverse xs))) a ∙ (by (reverse xs) l ∙ e))
  where
    by : (ys : List (ℕ × Value)) → first_of ys ≡ Some p → (before ++ pending_by d p ∷ []) ++ map (pending_by d) (rest_of ys) ≡ before ++ map (pending_by d) ys
    by [] n = absurd (none-some p n)
    by (y ∷ ys) s = append_assoc before (pending_by d p ∷ []) (map (pending_by d) ys) ∙ ap (λ q. before ++ (pending_by d q ∷ map (pending_by d) ys)) (sym (same_Some y p s))

pub fewer_left : (xs : List (ℕ × Value)) (p : ℕ × Value) → last_of xs ≡ Some p → length (without_last xs) < length xs
fewer_left xs p l =
    let n : length (without_last xs) ≡ length (rest_of (reverse xs)) = length-reverse (rest_of (reverse xs)) in
    let m : length (reverse xs) ≡ length xs = length-reverse xs in
    let k : length (rest_of (reverse xs)) < length (reverse xs) = by (reverse xs) l in
    omega arith
  where
    by : (ys : List (ℕ × Value)) → first_of ys ≡ Some p → length (rest_of ys) < length ys
    by [] n = absurd (none-some p n)
    by (y ∷ ys) s = omega arith

pub some_left : (xs : List (ℕ × Value)) (p : ℕ × Value) → last_of xs ≡ Some p → 0 < length xs
some_left xs p l = let k : length (without_last xs) < length xs = fewer_left xs p l in omega arith

-- none is left
pub drained_whole : (d : ℕ) (before whole : List Pending) (xs : List (ℕ × Value)) → before ++ map (pending_by d) (reverse xs) ≡ whole → last_of xs ≡ None → before ≡ whole
drained_whole d before whole xs e l = sym (append-nil before) ∙ (by (reverse xs) l ∙ e)
  where
    by : (ys : List (ℕ × Value)) → first_of ys ≡ None → before ++ [] ≡ before ++ map (pending_by d) ys
    by [] n = refl
    by (y ∷ ys) s = absurd (none-some y (sym s))

-- the lists of the drivers below stay
pub below_stay : (d : ℕ) (first lists : List (List (ℕ × Value))) (list : List (ℕ × Value)) → take d lists ≡ take d first → take d (with_list lists d list) ≡ take d first
below_stay d first lists list e = take-set-le d lists d list (omega arith) ∙ e

-- one driver more, from the last down
pub all_drained_more : (d k : ℕ) (first lists after : List (List (ℕ × Value))) (before new : List Pending) → k ≡ d + 1 → k ≤ length first → before ≡ reverse (pending_in k (drop k first)) → take k lists ≡ take k first
    → new ≡ before ++ map (pending_by d) (reverse (list_at lists d)) → take d after ≡ take d lists → (new ≡ reverse (pending_in d (drop d first))) × (take d after ≡ take d first)
all_drained_more d k first lists after before new n w b t e a = (
  e ∙ (ap (λ ys. ys ++ map (pending_by d) (reverse (list_at lists d))) (b ∙ ap (λ m. reverse (pending_in m (drop m first))) n)
      ∙ (ap (λ ys. reverse (pending_in (d + 1) (drop (d + 1) first)) ++ map (pending_by d) (reverse ys)) same
      ∙ (ap (λ ys. reverse (pending_in (d + 1) (drop (d + 1) first)) ++ ys) (map_turned (pending_by d) (list_at first d))
      ∙ (sym (reverse-append (map (pending_by d) (list_at first d)) (pending_in (d + 1) (drop (d + 1) first))) ∙ ap reverse (sym joined))))),
  a ∙ (sym (take-take d k lists (omega arith)) ∙ (ap (take d) t ∙ take-take d k first (omega arith))),
)
  where
    same : list_at lists d ≡ list_at first d
    same = sym (get_or-take k lists d [] (omega arith)) ∙ (ap (λ ls. list_at ls d) t ∙ get_or-take k first d [] (omega arith))

    joined : pending_in d (drop d first) ≡ map (pending_by d) (list_at first d) ++ pending_in (d + 1) (drop (d + 1) first)
    joined = ap (pending_in d) (drop_more first d [] (omega arith)) ∙ ap (λ m. map (pending_by d) (list_at first d) ++ pending_in m (drop (d + 1) first)) (let m : suc d ≡ d + 1 = omega arith in m)

pub none_drained : (k : ℕ) (first : List (List (ℕ × Value))) (before : List Pending) → length first ≡ k → before ≡ [] → before ≡ reverse (pending_in k (drop k first))
none_drained k first before n e = e ∙ ap (λ ls. reverse (pending_in k ls)) (sym (drop_all k first (omega arith)))

-- of the elements that are left the first is a primitive's, whose state is taken, or another's
states_left : (parts : Parts) (elements : List code_element.Element) (states kept whole : List Value) (i : ℕ) (e : code_element.Element) (d : Value) → i < length elements → length states ≡ length elements → e ≡ slice_index_or elements i e
    → kept ++ udp_states (map (element_seen parts) (drop i elements)) (drop i states) ≡ whole
    → kept ++ (if is_udp (kind_seen parts e.kind) then (slice_index_or states i d ∷ udp_states (map (element_seen parts) (drop (i + 1) elements)) (drop (i + 1) states)) else udp_states (map (element_seen parts) (drop (i + 1) elements)) (drop (i + 1) states)) ≡ whole
states_left parts elements states kept whole i e d l n f h =
    sym (ap (λ xs. kept ++ udp_states (map (element_seen parts) xs) (drop i states)) first ∙ ap (λ ys. kept ++ udp_states (element_seen parts e ∷ map (element_seen parts) (drop (i + 1) elements)) ys) (drop_more states i d (omega arith))) ∙ h
  where
    first : drop i elements ≡ e ∷ drop (i + 1) elements
    first = drop_more elements i e l ∙ ap (λ x. x ∷ drop (i + 1) elements) (sym f)

pub state_taken : (parts : Parts) (elements : List code_element.Element) (states kept whole : List Value) (i : ℕ) (e : code_element.Element) (d : Value) (next : List Value) → i < length elements → length states ≡ length elements → e ≡ slice_index_or elements i e
    → kept ++ udp_states (map (element_seen parts) (drop i elements)) (drop i states) ≡ whole → is_udp (kind_seen parts e.kind) ≡ true → next ≡ kept ++ slice_index_or states i d ∷ []
    → next ++ udp_states (map (element_seen parts) (drop (i + 1) elements)) (drop (i + 1) states) ≡ whole
state_taken parts elements states kept whole i e d next l n f h t s =
    let rest : List Value = udp_states (map (element_seen parts) (drop (i + 1) elements)) (drop (i + 1) states) in
    ap (λ xs. xs ++ rest) s ∙ (append_assoc kept (slice_index_or states i d ∷ []) rest
    ∙ (sym (ap (λ b. kept ++ (if b then (slice_index_or states i d ∷ rest) else rest)) t) ∙ states_left parts elements states kept whole i e d l n f h))

pub state_passed : (parts : Parts) (elements : List code_element.Element) (states kept whole : List Value) (i : ℕ) (e : code_element.Element) (next : List Value) → i < length elements → length states ≡ length elements → e ≡ slice_index_or elements i e
    → kept ++ udp_states (map (element_seen parts) (drop i elements)) (drop i states) ≡ whole → is_udp (kind_seen parts e.kind) ≡ false → next ≡ kept
    → next ++ udp_states (map (element_seen parts) (drop (i + 1) elements)) (drop (i + 1) states) ≡ whole
state_passed parts elements states kept whole i e next l n f h t s =
    let rest : List Value = udp_states (map (element_seen parts) (drop (i + 1) elements)) (drop (i + 1) states) in
    ap (λ xs. xs ++ rest) s
    ∙ (sym (ap (λ b. kept ++ (if b then (slice_index_or states i X ∷ rest) else rest)) t) ∙ states_left parts elements states kept whole i e X l n f h)

pub states_whole : (parts : Parts) (elements : List code_element.Element) (states kept whole : List Value) (i : ℕ) → length elements ≤ i → kept ++ udp_states (map (element_seen parts) (drop i elements)) (drop i states) ≡ whole → kept ≡ whole
states_whole parts elements states kept whole i l h = sym (append-nil kept) ∙ (ap (λ xs. kept ++ udp_states (map (element_seen parts) xs) (drop i states)) (sym (drop_all i elements l)) ∙ h)

-- the last changes, as they are kept, are those that were
pub changes_kept : (stamps : List (Option code_stamp.Stamp)) → map change_seen (map change_kept stamps) ≡ map stamp_seen stamps
changes_kept [] = refl
changes_kept (None ∷ ss) = ap (λ xs. None ∷ xs) (changes_kept ss)
changes_kept (Some s ∷ ss) = ap (λ xs. Some (record { time = s.time; before = s.before; after = s.after }) ∷ xs) (changes_kept ss)

-- one item more of those that are made place by place
pub each_more : {A B : Type 0} (f : ℕ → A → B) (xs : List A) (i : ℕ) (d : A) (before after whole : List B) (y : B) → i < length xs → y ≡ f i (slice_index_or xs i d) → before ++ each_from f i (drop i xs) ≡ whole → after ≡ before ++ y ∷ []
    → after ++ each_from f (i + 1) (drop (i + 1) xs) ≡ whole
each_more f xs i d before after whole y l e h a =
    let rest = each_from f (i + 1) (drop (i + 1) xs) in
    let next : suc i ≡ i + 1 = omega arith in
    ap (λ zs. zs ++ rest) a ∙ (append_assoc before (y ∷ []) rest
    ∙ (ap (λ z. before ++ (z ∷ rest)) e
    ∙ (sym (ap (λ n. before ++ (f i (slice_index_or xs i d) ∷ each_from f n (drop (i + 1) xs))) next) ∙ (sym (ap (λ zs. before ++ each_from f i zs) (drop_more xs i d l)) ∙ h))))

pub each_whole : {A B : Type 0} (f : ℕ → A → B) (xs : List A) (i : ℕ) (before whole : List B) → length xs ≤ i → before ++ each_from f i (drop i xs) ≡ whole → before ≡ whole
each_whole f xs i before whole l h = sym (append-nil before) ∙ (sym (ap (λ zs. before ++ each_from f i zs) (drop_all i xs l)) ∙ h)

same_moment : (a b : Moment) → a.time ≡ b.time → a.nets ≡ b.nets → a.stamps ≡ b.stamps → a.pending ≡ b.pending → a.udps ≡ b.udps → a.latest ≡ b.latest → a.last ≡ b.last → a.evaluations ≡ b.evaluations → a ≡ b
same_moment a b t n s p u l c e =
    ap (λ x. record a { time = x }) t
    ∙ (ap (λ x. record a { time = b.time; nets = x }) n
    ∙ (ap (λ x. record a { time = b.time; nets = b.nets; stamps = x }) s
    ∙ (ap (λ x. record a { time = b.time; nets = b.nets; stamps = b.stamps; pending = x }) p
    ∙ (ap (λ x. record b { udps = x; latest = a.latest; last = a.last; evaluations = a.evaluations }) u
    ∙ (ap (λ x. record b { latest = x; last = a.last; evaluations = a.evaluations }) l
    ∙ (ap (λ x. record b { last = x; evaluations = a.evaluations }) c
    ∙ ap (λ x. record b { evaluations = x }) e))))))

-- a moment of these parts is what each run that they stand for has come to
pub has_come_to : (circuit : Circuit) (nets : Nets) (lists : List (List (ℕ × Value))) (states : List Value) (checks : Kept) (touched : WorkList) (found : List code_violation.Violation) (counted ended last time evaluated : ℕ) (m : Moment)
    → m.time ≡ time → m.nets ≡ nets.values.items → m.stamps ≡ map stamp_seen nets.stamps.items → m.pending ≡ pending_in 0 lists → m.udps ≡ udp_states circuit.elements states
    → ((snapshots : List Snapshot) → Stands checks snapshots → m.latest ≡ latest_events checks.earlier checks.checks snapshots) → m.last ≡ last → m.evaluations ≡ min (evaluated + counted) (2 ^ 64 - 1)
    → HasComeTo circuit nets lists states checks touched found counted ended last time evaluated m
has_come_to circuit nets lists states checks touched found counted ended last time evaluated m t n s p u l c e = record {
  each = λ earlier r same stands. (let state : state_seen nets lists states ≡ r.state = sym stands.run.state in
      let count : m.evaluations ≡ count_shown (evaluated + r.evaluations) = e ∙ counted_on evaluated counted r.evaluations stands.run.evaluations in
      same_moment m (moment_of circuit earlier time r last (count_shown (evaluated + r.evaluations))) t (n ∙ ap (λ x. x.values) state) (s ∙ ap (λ x. x.stamps) state) (p ∙ ap (λ x. pending_in 0 x.lists) state) (u ∙ ap (λ x. udp_states circuit.elements x.states) state)
      (l r.snapshots stands.run.checks.stands ∙ same r.snapshots) c count);
}
  where
    counted_on : (before now made : ℕ) → now ≡ count_shown made → min (before + now) (2 ^ 64 - 1) ≡ count_shown (before + made)
    counted_on before now made h = omega arith
