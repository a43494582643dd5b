-- What is so of an element of a circuit, and of the paths of one.
use Rattle.std.specs.Prelude.{◌≡◌, ℕ, ◌<◌, All, List, [], length, map, None, slice_index_or}
use Rattle.std.proofs.Common.{sym, subst, refl}
use Rattle.std.proofs.lemmas.List.{length-map}
use Rattle.cond_expr.specs.Condition.{Condition}
use Rattle.sg_circuit.specs.Circuit.{Element, Pass, element_at}
use Rattle.sg_circuit.specs.Closed.{IsClosed, IsPathOf, HasDelays, NamesNets, TakesInputs, AreTimings}
use Rattle.sg_circuit.specs.Paths as specify
use Rattle.sg_circuit.specs.PathsSeen.{path_seen, paths_seen}
use Rattle.sg_circuit.specs.Seen.{circuit_seen, element_seen, kind_seen, AreIndexed, IsIndexed}
use Rattle.sg_circuit.specs.TimingsSeen.{timings_at}
use Rattle.sg_circuit.specs.declared.circuits.Parts.{Parts}
use Rattle.sg_circuit.specs.declared.elements.Element as code_element
use Rattle.sg_circuit.specs.declared.elements.LegTiming.{LegTiming}
use Rattle.sg_circuit.specs.declared.paths.Path.{Path}
use Rattle.why_causes.specs.Fitting.{Fits}
use Rattle.why_causes.proofs.DelayLaws.{mapped-at}

-- what is so of the items of a table, mapped, is so of them
each-unmapped : {A B : Type 0} (P : B → Type 0) (f : A → B) (xs : List A) → All P (map f xs) → All (λ x. P (f x)) xs
each-unmapped P f xs h = λ k d l. subst P (sym (mapped-at f xs k (slice_index_or xs k d) d (f d) l refl)) (h k (f d) (subst (λ n. k < n) (sym (length-map xs f)) l))

pub path-inputs : (n : ℕ) (conditions : List Condition) (timings : List LegTiming) (paths spanned : List Path) → paths ≡ spanned → All (IsPathOf n) (paths_seen conditions timings spanned) → All (λ p. p.input < n) paths
path-inputs n conditions timings paths spanned is h =
    let each = each-unmapped (IsPathOf n) (path_seen conditions timings) spanned h in
    subst (All (λ (p : Path). p.input < n)) (sym is) (λ k d l. (each k d l).input)

pub path-timings : (conditions : List Condition) (timings items : List LegTiming) (paths spanned : List Path) → paths ≡ spanned → timings ≡ items → All (λ (p : specify.Path). AreTimings p.timings) (paths_seen conditions items spanned)
    → All (λ p. length (timings_at timings p.timing) ≡ 12) paths
path-timings conditions timings items paths spanned is e h =
    let each = each-unmapped (λ (p : specify.Path). AreTimings p.timings) (path_seen conditions items) spanned h in
    subst (λ ts. All (λ (p : Path). length (timings_at ts p.timing) ≡ 12) paths) (sym e) (subst (All (λ (p : Path). length (timings_at items p.timing) ≡ 12)) (sym is) (λ k d l. (each k d l).0))

-- an element of a circuit fits
pub fits : (parts : Parts) (number n : ℕ) (e d : code_element.Element) → IsClosed (circuit_seen parts) → AreIndexed parts → number < length parts.elements.items → n ≡ length parts.nets.items → e ≡ slice_index_or parts.elements.items number d → Fits n parts e
fits parts number n e d closed indexed l nets is =
    let blank : Element = record { scope = 0; inputs = []; output = 0; kind = Pass None } in
    let same : element_seen parts e ≡ element_at (circuit_seen parts) number = mapped-at (element_seen parts) parts.elements.items number e d blank l is in
    let there : number < length (circuit_seen parts).elements = subst (λ m. number < m) (sym (length-map parts.elements.items (element_seen parts))) l in
    record {
      indexed = subst (λ (x : code_element.Element). IsIndexed parts x.kind) (sym is) (indexed.named number d l);
      counts = indexed.counts;
      delays = subst (λ (x : Element). HasDelays x.kind) (sym same) (closed.has_delays number blank there);
      inputs = subst (λ m. All (λ k. k < m) e.inputs.items) (sym nets) (subst (λ (x : Element). All (λ k. k < length parts.nets.items) x.inputs) (sym same) (closed.inputs number blank there));
      names = subst (λ m. NamesNets m (kind_seen parts e.kind)) (sym nets) (subst (λ (x : Element). NamesNets (length parts.nets.items) x.kind) (sym same) (closed.paths number blank there));
      takes = subst (λ (x : Element). TakesInputs x.kind (length x.inputs)) (sym same) (closed.takes_inputs number blank there);
    }
