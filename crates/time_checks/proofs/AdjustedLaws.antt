-- Adjusted checks, and the marks of limits that are taken as 0.
use Rattle.std.specs.Prelude.{◌≡◌, ◌≢◌, ℕ, zero, suc, ◌+◌, ◌<◌, ◌≤◌, ◌^◌, ◌==◌, ◌&&◌, ◌||◌, Bool, true, false, All, List, [], ◌∷◌, ◌++◌, length, map, replicate, slice_index_or, slice_set, take, Option, Some, None, IfSome, refl}
use Rattle.std.specs.List.{enumerate_from}
use Rattle.std.specs.Option.{option_map}
use Rattle.std.proofs.Common.{sym, ◌∙◌, ap, subst, arith, inl, inr, zero-add, take_all}
use Rattle.std.proofs.lemmas.Bool.{cases_eq}
use Rattle.std.proofs.lemmas.List.{length-map, length-set, get_or-set_same, get_or-set_other, length-replicate, map_push, take_more}
use Rattle.std.proofs.lemmas.List.Elements.{All-map}
use Rattle.std.proofs.lemmas.List.Folds.{list_any_more}
use Rattle.std.proofs.lemmas.List.FromFn.{length-enumerate_from, get_or-enumerate_from}
use Rattle.sg_circuit.specs.declared.checks.Zero.{Zero}
use Rattle.sg_circuit.specs.declared.circuits.Parts.{Parts}
use Rattle.sg_circuit.specs.declared.elements.Element.{Element}
use Rattle.sg_circuit.specs.declared.elements.ElementKind.TheVariants as kind
use Rattle.sg_circuit.specs.declared.checks.CheckTiming.{CheckTiming}
use Rattle.sg_circuit.specs.Circuit as circuit
use Rattle.sg_circuit.specs.Circuit.{Circuit}
use Rattle.sg_circuit.specs.declared.checks.Event.{Event}
use Rattle.sg_circuit.specs.Closed.{AreLatesOf, HasDelays, HasLates, IsCheckTiming, IsClosed, IsEventOf, IsLateOf}
use Rattle.sg_circuit.specs.Seen.{circuit_seen, element_seen, kind_seen}
use Rattle.sg_circuit.proofs.SeenLaws.{all-unmapped}
use Rattle.sg_logic.specs.declared.values.Value.{Value}
use Rattle.sg_circuit.specs.FanOut.{IsFanOut}
use Rattle.fan_round.specs.declared.work.WorkList.{WorkList}
use Rattle.fan_round.specs.States.{IsIdle}
use Rattle.fan_round.proofs.ListLaws.{test_same, test_other}
use Rattle.time_checks.specs.declared.recent.Recent.{Recent}
use Rattle.time_checks.specs.Checking.{IsReady}
use Rattle.time_checks.specs.declared.adjusted.AdjustedCheck as code
use Rattle.time_checks.specs.Adjusted.{AdjustedCheck, adjusted_check, adjusted_checks, check_by, is_zeroed, seen_at}
use Rattle.time_checks.specs.Within.{IsCheckWithin, IsEventWithin, terminals}
use Rattle.time_checks.specs.AdjustedSeen.{adjusted_seen, all_seen, zeroed_at, AreMarks}

-- a Late is below 2^60 ticks late
pub late-small : (parts : Parts) (e delay : ℕ) (item : Element) → IsClosed (circuit_seen parts) → e < length parts.elements.items → item ≡ slice_index_or parts.elements.items e item
    → item.kind ≡ kind.Late delay → delay < 2 ^ 60
late-small parts e delay item closed l is late =
    let has : HasDelays (kind_seen parts (slice_index_or parts.elements.items e item).kind) = all-unmapped (λ (x : circuit.Element). HasDelays x.kind) (element_seen parts) parts.elements.items closed.has_delays e item l in
    let here : HasDelays (kind_seen parts item.kind) = subst (λ (x : Element). HasDelays (kind_seen parts x.kind)) (sym is) has in
    subst (λ k. HasDelays (kind_seen parts k)) late here

abbrev pair : Bool → Bool → List Bool
pair a b = a ∷ b ∷ []

-- none is marked where none is taken as 0
pub marks-none : (n : ℕ) → AreMarks [] (replicate {A = List Bool} n (false ∷ false ∷ []))
marks-none n check d l = at n check (subst (λ k. check < k) (length-replicate n (pair false false)) l)
  where
    at : (n check : ℕ) → check < n → slice_index_or (replicate {A = List Bool} n (false ∷ false ∷ [])) check d ≡ false ∷ false ∷ []
    at zero check l = absurd (omega (arith, l))
    at (suc n) zero l = refl
    at (suc n) (suc check) l = at n check (omega (arith, l))

-- one more is marked
more-at : (zs : List Zero) (i : ℕ) (z : Zero) → i < length zs → z ≡ slice_index_or zs i z → (check part : ℕ)
    → is_zeroed (take (i + 1) zs) check part ≡ (is_zeroed (take i zs) check part || ((z.check == check) && (z.part == part)))
more-at zs i z l is check part =
    list_any_more (λ y. (y.check == check) && (y.part == part)) zs i z l ∙ ap (λ y. is_zeroed (take i zs) check part || ((y.check == check) && (y.part == part))) (sym is)

or-none : (b : Bool) → (b || false) ≡ b
or-none true = refl
or-none false = refl

or-all : (b : Bool) → (b || true) ≡ true
or-all true = refl
or-all false = refl

-- of another check nothing changes
other : (zs : List Zero) (i : ℕ) (z : Zero) → i < length zs → z ≡ slice_index_or zs i z → (check part : ℕ) → z.check ≢ check → is_zeroed (take (i + 1) zs) check part ≡ is_zeroed (take i zs) check part
other zs i z l is check part apart =
    more-at zs i z l is check part ∙ (ap (λ b. is_zeroed (take i zs) check part || (b && (z.part == part))) (test_other z.check check apart) ∙ or-none (is_zeroed (take i zs) check part))

this : (zs : List Zero) (i : ℕ) (z : Zero) → i < length zs → z ≡ slice_index_or zs i z → (part : ℕ) → is_zeroed (take (i + 1) zs) z.check part ≡ (is_zeroed (take i zs) z.check part || (z.part == part))
this zs i z l is part = more-at zs i z l is z.check part ∙ ap (λ b. is_zeroed (take i zs) z.check part || (b && (z.part == part))) (test_same z.check z.check refl)

set-part : (a b : Bool) (part : ℕ) → part < 2 → slice_set (a ∷ b ∷ []) part true ≡ pair (a || (part == 0)) (b || (part == 1))
set-part a b zero l = ap (λ x. pair x b) (sym (or-all a)) ∙ ap (pair (a || true)) (sym (or-none b))
set-part a b (suc zero) l = ap (λ x. pair x true) (sym (or-none a)) ∙ ap (pair (a || false)) (sym (or-all b))
set-part a b (suc (suc part)) l = absurd (omega (arith, l))

pub marks-more : (zs : List Zero) (i : ℕ) (z : Zero) (marks : List (List Bool)) (row : List Bool) → i < length zs → z ≡ slice_index_or zs i z → z.check < length marks → z.part < 2 → row ≡ slice_index_or marks z.check row
    → AreMarks (take i zs) marks → AreMarks (take (i + 1) zs) (slice_set marks z.check (slice_set row z.part true))
marks-more zs i z marks row l is m p row-is h check d k = elim (cases_eq check z.check) [
  | inl same ↦
      ap (λ n. slice_index_or (slice_set marks z.check (slice_set row z.part true)) n d) same
      ∙ (get_or-set_same marks z.check (slice_set row z.part true) d m
      ∙ (ap (λ r. slice_set r z.part true) (row-is ∙ h z.check row m)
      ∙ (set-part (is_zeroed (take i zs) z.check 0) (is_zeroed (take i zs) z.check 1) z.part p
      ∙ (ap (λ x. pair x (is_zeroed (take i zs) z.check 1 || (z.part == 1))) (sym (this zs i z l is 0))
      ∙ (ap (pair (is_zeroed (take (i + 1) zs) z.check 0)) (sym (this zs i z l is 1))
      ∙ ap (λ n. zeroed_at (take (i + 1) zs) n) (sym same))))))
  | inr apart ↦
      get_or-set_other marks z.check check (slice_set row z.part true) d apart
      ∙ (h check d (subst (λ n. check < n) (length-set marks z.check (slice_set row z.part true)) k)
      ∙ (ap (λ x. pair x (is_zeroed (take i zs) check 1)) (sym (other zs i z l is check 0 (λ q. apart (sym q))))
      ∙ ap (pair (is_zeroed (take (i + 1) zs) check 0)) (sym (other zs i z l is check 1 (λ q. apart (sym q))))))
]

-- one check more is adjusted
pub checks-more : (c : Circuit) (made : List code.AdjustedCheck) (x : code.AdjustedCheck) (i : ℕ) (d : CheckTiming) → i < length c.check_timings
    → all_seen made ≡ map (adjusted_check c) (take i (enumerate_from 0 c.check_timings)) → adjusted_seen x ≡ adjusted_check c (i, slice_index_or c.check_timings i d)
    → all_seen (made ++ x ∷ []) ≡ map (adjusted_check c) (take (i + 1) (enumerate_from 0 c.check_timings))
checks-more c made x i d l h e =
    let all : List (ℕ × CheckTiming) = enumerate_from 0 c.check_timings in
    let m : i < length all = subst (λ n. i < n) (sym (length-enumerate_from 0 c.check_timings)) l in
    let last : slice_index_or all i (0, d) ≡ (i, slice_index_or c.check_timings i d) = get_or-enumerate_from 0 c.check_timings i (0, d) l ∙ ap (λ n. (n, slice_index_or c.check_timings i d)) (zero-add i) in
    map_push adjusted_seen made x
    ∙ (ap (λ ys. ys ++ adjusted_seen x ∷ []) h
    ∙ (ap (λ y. map (adjusted_check c) (take i all) ++ y ∷ []) (e ∙ ap (adjusted_check c) (sym last))
    ∙ (sym (map_push (adjusted_check c) (take i all) (slice_index_or all i (0, d))) ∙ ap (map (adjusted_check c)) (sym (take_more all i (0, d) m)))))

-- the same of a circuit by its parts
pub checks-more-in : (parts : Parts) (c : Circuit) (made : List code.AdjustedCheck) (x : code.AdjustedCheck) (i : ℕ) → circuit_seen parts ≡ c → i < length parts.check_timings.items
    → all_seen made ≡ map (adjusted_check c) (take i (enumerate_from 0 c.check_timings)) → ((d : CheckTiming) → adjusted_seen x ≡ adjusted_check (circuit_seen parts) (i, slice_index_or parts.check_timings.items i d))
    → all_seen (made ++ x ∷ []) ≡ map (adjusted_check c) (take (i + 1) (enumerate_from 0 c.check_timings))
checks-more-in parts c made x i seen l h e =
    let l' : i < length c.check_timings = subst (λ (k : Circuit). i < length k.check_timings) seen l in
    checks-more c made x i (x.timing.now) l' h (subst (λ (k : Circuit). adjusted_seen x ≡ adjusted_check k (i, slice_index_or k.check_timings i x.timing.now)) seen (e x.timing.now))

pub checks-all : (parts : Parts) (c : Circuit) (made : List code.AdjustedCheck) (i : ℕ) → circuit_seen parts ≡ c → length parts.check_timings.items ≤ i
    → all_seen made ≡ map (adjusted_check c) (take i (enumerate_from 0 c.check_timings)) → all_seen made ≡ adjusted_checks c
checks-all parts c made i seen l h =
    let l' : length c.check_timings ≤ i = subst (λ (k : Circuit). length k.check_timings ≤ i) seen l in
    h ∙ ap (map (adjusted_check c)) (take_all i (enumerate_from 0 c.check_timings) (subst (λ n. n ≤ i) (sym (length-enumerate_from 0 c.check_timings)) l'))

-- ---- the nets of the checks of a circuit

within_event : (nets : ℕ) (e : Event) → IsEventOf nets e → IsEventWithin e nets
within_event nets e h = record { net = h.net; condition = h.condition }

within_seen : (c : Circuit) (late : ℕ) (e : Event) → IsClosed c → late < length c.elements → IsEventOf (length c.nets) e → IsEventWithin (seen_at c late e) (length c.nets)
within_seen c late e closed l h = record { net = closed.outputs late (record { scope = 0; inputs = []; output = 0; kind = circuit.Pass None }) l; condition = h.condition }

within_plain : (nets : ℕ) (o : Option Event) → IfSome o (λ e. IsEventOf nets e) → IfSome o (λ e. IsEventWithin e nets)
within_plain nets None h = tt
within_plain nets (Some e) h = within_event nets e h

within_datum : (c : Circuit) (late : ℕ) (o : Option Event) → IsClosed c → IfSome o (λ d. IsLateOf c d.net late) → IfSome o (λ e. IsEventOf (length c.nets) e)
    → IfSome (option_map (seen_at c late) o) (λ e. IsEventWithin e (length c.nets))
within_datum c late None closed l h = tt
within_datum c late (Some e) closed l h = within_seen c late e closed l.within h

check-within : (c : Circuit) (k : ℕ) (t : CheckTiming) → IsClosed c → IsCheckTiming (length c.nets) t → HasLates c t → IsCheckWithin (adjusted_check c (k, t)) (length c.nets)
check-within c k t closed h has = at t.late has.lates
  where
    at : (late : Option (List ℕ)) → IfSome late (λ lates. AreLatesOf c t lates) → IsCheckWithin (check_by c k t late) (length c.nets)
    at None lates = record { refer = within_event (length c.nets) t.refer h.refer; datum = within_plain (length c.nets) t.datum h.datum }
    at (Some ls) lates = record { refer = within_seen c (slice_index_or ls 0 0) t.refer closed lates.refer.within h.refer; datum = within_datum c (slice_index_or ls 1 0) t.datum closed lates.datum h.datum }

checks-within : (c : Circuit) → IsClosed c → All (λ (a : AdjustedCheck). IsCheckWithin a (length c.nets)) (adjusted_checks c)
checks-within c closed = All-map (λ (a : AdjustedCheck). IsCheckWithin a (length c.nets)) (adjusted_check c) (enumerate_from 0 c.check_timings) each
  where
    each : All (λ p. IsCheckWithin (adjusted_check c p) (length c.nets)) (enumerate_from 0 c.check_timings)
    each i d l =
        let m : i < length c.check_timings = subst (λ n. i < n) (length-enumerate_from 0 c.check_timings) l in
        subst (λ p. IsCheckWithin (adjusted_check c p) (length c.nets)) (sym (get_or-enumerate_from 0 c.check_timings i d m))
        (check-within c (0 + i) (slice_index_or c.check_timings i d.1) closed (closed.check_timings i d.1 m) (closed.lates i d.1 m))

pub new-within : (c : Circuit) (checks : List code.AdjustedCheck) (nets : ℕ) → IsClosed c → all_seen checks ≡ adjusted_checks c → nets ≡ length c.nets → All (λ k. IsCheckWithin (adjusted_seen k) nets) checks
new-within c checks nets closed e n =
    all-unmapped (λ (a : AdjustedCheck). IsCheckWithin a nets) adjusted_seen checks
    (subst (λ (cs : List AdjustedCheck). All (λ (a : AdjustedCheck). IsCheckWithin a nets) cs) (sym e) (subst (λ m. All (λ (a : AdjustedCheck). IsCheckWithin a m) (adjusted_checks c)) (sym n) (checks-within c closed)))

pub new-few : (c : Circuit) (checks : List code.AdjustedCheck) → IsClosed c → all_seen checks ≡ adjusted_checks c → length checks < 2 ^ 31
new-few c checks closed e =
    let many : length checks ≡ length c.checks =
    sym (length-map checks adjusted_seen) ∙ (ap length e ∙ (length-map (enumerate_from 0 c.check_timings) (adjusted_check c) ∙ (length-enumerate_from 0 c.check_timings ∙ closed.timing_of_each))) in
    subst (λ n. n < 2 ^ 31) (sym many) closed.few_checks

-- the parts of a new checker fit together
pub ready : (checks seen : List code.AdjustedCheck) (nets count : ℕ) (last : List Value) (index : List (List ℕ)) (work : WorkList) (latest : List Recent) → All (λ k. IsCheckWithin (adjusted_seen k) nets) checks → length checks < 2 ^ 31
    → length last ≡ nets → seen ≡ checks → IsFanOut (map (λ c. terminals c) (all_seen seen)) index → length index ≡ nets → count ≡ length checks → IsIdle work count → length latest ≡ count
    → IsReady (all_seen checks) (length last) index work latest
ready checks seen nets count last index work latest within few nets-are is fan each many idle kept =
    let checks-are : length (all_seen checks) ≡ length checks = length-map checks adjusted_seen in
    record {
      within = subst (λ n. All (λ (a : AdjustedCheck). IsCheckWithin a n) (all_seen checks)) (sym nets-are) (All-map (λ (a : AdjustedCheck). IsCheckWithin a nets) adjusted_seen checks within);
      few = subst (λ n. n < 2 ^ 31) (sym checks-are) few;
      indexed = subst (λ cs. IsFanOut (map (λ c. terminals c) (all_seen cs)) index) is fan;
      each_net = each ∙ sym nets-are;
      idle = subst (λ n. IsIdle work n) (many ∙ sym checks-are) idle;
      each_check = kept ∙ (many ∙ sym checks-are);
    }
