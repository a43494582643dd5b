-- The nets at which timing checks see their events, read from the code's parts.
use Rattle.std.specs.Prelude.{◌≡◌, ℕ, ◌<◌, ◌==◌, ◌||◌, Bool, true, false, IfSome, List, [], length, slice_index_or, Option, Some, None, refl}
use Rattle.std.specs.List.{enumerate_from}
use Rattle.std.specs.Option.{option_map}
use Rattle.std.proofs.Common.{sym, ◌∙◌, ap, subst, zero-add}
use Rattle.std.proofs.lemmas.List.{get_or-map, length-map}
use Rattle.std.proofs.lemmas.List.FromFn.{length-enumerate_from, get_or-enumerate_from}
use Rattle.sg_circuit.specs.Circuit.{Circuit, Element, Pass, element_at}
use Rattle.sg_circuit.specs.Closed.{IsClosed, AreLatesOf, IsLateOf, HasLates}
use Rattle.sg_circuit.specs.Seen.{circuit_seen, element_seen}
use Rattle.sg_circuit.specs.FanOut.{has}
use Rattle.sg_circuit.specs.declared.checks.CheckTiming.{CheckTiming}
use Rattle.sg_circuit.specs.declared.checks.Event.{Event}
use Rattle.sg_circuit.specs.declared.elements.Element as code_element
use Rattle.sg_circuit.specs.declared.circuits.Parts.{Parts}
use Rattle.time_checks.specs.Adjusted.{AdjustedCheck, adjusted_check, adjusted_checks, check_by, seen_at}
use Rattle.time_checks.specs.Checking.{check_at}
use Rattle.time_checks.specs.Within.{datum_nets}

-- the adjusted check of a number
pub adjusted-at : (c : Circuit) (k : ℕ) (t : CheckTiming) → k < length c.check_timings → t ≡ slice_index_or c.check_timings k t → check_at (adjusted_checks c) k ≡ check_by c k t t.late
adjusted-at c k t l is =
    let all : List (ℕ × CheckTiming) = enumerate_from 0 c.check_timings in
    let m : k < length all = subst (λ n. k < n) (sym (length-enumerate_from 0 c.check_timings)) l in
    let one : slice_index_or all k (0, t) ≡ (k, slice_index_or c.check_timings k t) = get_or-enumerate_from 0 c.check_timings k (0, t) l ∙ ap (λ n. (n, slice_index_or c.check_timings k t)) (zero-add k) in
    get_or-map (adjusted_check c) all k (0, t) _ m ∙ (ap (adjusted_check c) one ∙ ap (λ x. adjusted_check c (k, x)) (sym is))

-- what an element drives
output-at : (parts : Parts) (e : ℕ) (item : code_element.Element) → e < length (circuit_seen parts).elements → item ≡ slice_index_or parts.elements.items e item → (element_at (circuit_seen parts) e).output ≡ item.output
output-at parts e item l is =
    let l' : e < length parts.elements.items = subst (λ n. e < n) (length-map parts.elements.items (element_seen parts)) l in
    ap (λ (x : Element). x.output) (get_or-map (element_seen parts) parts.elements.items e item (record { scope = 0; inputs = []; output = 0; kind = Pass None }) l' ∙ ap (element_seen parts) (sym is))

lates-at : (parts : Parts) (k : ℕ) (t : CheckTiming) (lates : List ℕ) → IsClosed (circuit_seen parts) → k < length parts.check_timings.items → t ≡ slice_index_or parts.check_timings.items k t → t.late ≡ Some lates → AreLatesOf (circuit_seen parts) t lates
lates-at parts k t lates closed l is late =
    let has_lates : HasLates (circuit_seen parts) t = subst (λ x. HasLates (circuit_seen parts) x) (sym is) (closed.lates k t l) in
    subst (λ o. IfSome o (λ ls. AreLatesOf (circuit_seen parts) t ls)) late has_lates.lates

pub refer-late : (parts : Parts) (k : ℕ) (t : CheckTiming) (lates : List ℕ) (item : code_element.Element) → IsClosed (circuit_seen parts) → k < length parts.check_timings.items → t ≡ slice_index_or parts.check_timings.items k t → t.late ≡ Some lates
    → item ≡ slice_index_or parts.elements.items (slice_index_or lates 0 0) item → item.output ≡ (check_at (adjusted_checks (circuit_seen parts)) k).refer.net
refer-late parts k t lates item closed l is late at =
    let fit = lates-at parts k t lates closed l is late in
    sym (ap (λ (x : AdjustedCheck). x.refer.net) (adjusted-at (circuit_seen parts) k t l is ∙ ap (check_by (circuit_seen parts) k t) late) ∙ output-at parts (slice_index_or lates 0 0) item fit.refer.within at)

pub refer-plain : (parts : Parts) (k : ℕ) (t : CheckTiming) → k < length parts.check_timings.items → t ≡ slice_index_or parts.check_timings.items k t → t.late ≡ None → t.refer.net ≡ (check_at (adjusted_checks (circuit_seen parts)) k).refer.net
refer-plain parts k t l is late = sym (ap (λ (x : AdjustedCheck). x.refer.net) (adjusted-at (circuit_seen parts) k t l is ∙ ap (check_by (circuit_seen parts) k t) late))

-- of the data event
abbrev net_of : Option Event → Option ℕ
net_of o = option_map (λ (e : Event). e.net) o

pub datum-late : (parts : Parts) (k : ℕ) (t : CheckTiming) (event : Event) (lates : List ℕ) (item : code_element.Element) → IsClosed (circuit_seen parts) → k < length parts.check_timings.items → t ≡ slice_index_or parts.check_timings.items k t → t.datum ≡ Some event → t.late ≡ Some lates
    → item ≡ slice_index_or parts.elements.items (slice_index_or lates 1 0) item → Some item.output ≡ net_of (check_at (adjusted_checks (circuit_seen parts)) k).datum
datum-late parts k t event lates item closed l is datum late at =
    let fit = lates-at parts k t lates closed l is late in
    let of : IsLateOf (circuit_seen parts) event.net (slice_index_or lates 1 0) = subst (λ o. IfSome o (λ d. IsLateOf (circuit_seen parts) d.net (slice_index_or lates 1 0))) datum fit.datum in
    sym (ap (λ (x : AdjustedCheck). net_of x.datum) (adjusted-at (circuit_seen parts) k t l is ∙ ap (check_by (circuit_seen parts) k t) late)
    ∙ (ap (λ o. net_of (option_map (seen_at (circuit_seen parts) (slice_index_or lates 1 0)) o)) datum ∙ ap (λ n. Some n) (output-at parts (slice_index_or lates 1 0) item of.within at)))

pub datum-plain : (parts : Parts) (k : ℕ) (t : CheckTiming) (event : Event) → k < length parts.check_timings.items → t ≡ slice_index_or parts.check_timings.items k t → t.datum ≡ Some event → t.late ≡ None → Some event.net ≡ net_of (check_at (adjusted_checks (circuit_seen parts)) k).datum
datum-plain parts k t event l is datum late =
    sym (ap (λ (x : AdjustedCheck). net_of x.datum) (adjusted-at (circuit_seen parts) k t l is ∙ ap (check_by (circuit_seen parts) k t) late) ∙ ap net_of datum)

pub datum-none : (parts : Parts) (k : ℕ) (t : CheckTiming) → k < length parts.check_timings.items → t ≡ slice_index_or parts.check_timings.items k t → t.datum ≡ None → None ≡ net_of (check_at (adjusted_checks (circuit_seen parts)) k).datum
datum-none parts k t l is datum = sym (ap (λ (x : AdjustedCheck). net_of x.datum) (adjusted-at (circuit_seen parts) k t l is) ∙ by t.late)
  where
    by : (late : Option (List ℕ)) → net_of (check_by (circuit_seen parts) k t late).datum ≡ None
    by None = ap net_of datum
    by (Some lates) = ap (λ o. net_of (option_map (seen_at (circuit_seen parts) (slice_index_or lates 1 0)) o)) datum

-- whether a net is that of the data event
pub is-datum : (net : ℕ) (o : Option Event) (n : Option ℕ) → n ≡ net_of o → (m : ℕ) → n ≡ Some m → (m == net) ≡ has net (datum_nets o)
is-datum net None n e m f = absurd (let g : None ≡ Some m = sym e ∙ f in cc)
is-datum net (Some event) n e m f =
    let g : Some event.net ≡ Some m = sym e ∙ f in
    let same : m ≡ event.net = cc in
    ap (λ x. x == net) same ∙ or_false (event.net == net)
  where
    or_false : (b : Bool) → b ≡ (b || false)
    or_false true = refl
    or_false false = refl

pub no-datum : (net : ℕ) (o : Option Event) (n : Option ℕ) → n ≡ net_of o → n ≡ None → false ≡ has net (datum_nets o)
no-datum net None n e f = refl
no-datum net (Some event) n e f = absurd (let g : Some event.net ≡ None = sym e ∙ f in cc)
