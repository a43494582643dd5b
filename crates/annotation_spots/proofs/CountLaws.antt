-- How many legs and paths the code's elements have, and where their timings stand.
use Rattle.std.specs.Prelude.{◌≡◌, ℕ, zero, suc, ◌^◌, ◌-◌, ◌<◌, ◌≤◌, All, List, [], ◌∷◌, length, map, drop, None, slice_index_or, refl}
use Rattle.std.proofs.Common.{sym, ◌∙◌, ap, subst, arith}
use Rattle.std.proofs.lemmas.List.{length-drop, length-map, length-take-le, get_or-map}
use Rattle.std.proofs.lemmas.List.Elements.{All-weaker}
use Rattle.sg_circuit.specs.Circuit.{Circuit, Element, Kind, Gate, Udp, Pass, Leg, Path, Late, element_at}
use Rattle.sg_circuit.specs.Paths as specify
use Rattle.sg_circuit.specs.Timings.{Timing}
use Rattle.sg_circuit.specs.Closed.{IsClosed}
use Rattle.sg_circuit.specs.PathsSeen.{path_seen, paths_seen, spanned}
use Rattle.sg_circuit.specs.Seen.{circuit_seen, element_seen, kind_seen, AreIndexed, IsIndexed}
use Rattle.sg_circuit.specs.TimingsSeen.{leg_timing_seen, timings_at}
use Rattle.sg_circuit.specs.declared.circuits.Parts.{Parts}
use Rattle.sg_circuit.specs.declared.elements.Element as code_element
use Rattle.sg_circuit.specs.declared.elements.ElementKind.{ElementKind}
use Rattle.sg_circuit.specs.declared.elements.ElementKind.TheVariants as kind
use Rattle.sg_circuit.specs.declared.elements.LegTiming.{LegTiming}
use Rattle.sg_circuit.specs.declared.paths.Path as code_path
use Rattle.sg_circuit.specs.declared.paths.PathCondition.TheVariants.{Always}
use Rattle.sg_circuit.specs.declared.paths.Span.{Span}
use Rattle.annotation_model.specs.Spots.{path_spot, scope_of, spots_in, spots_of, timings_of}
use Rattle.annotation_model.specs.Finding.{no_spot}
use Rattle.annotation_spots.specs.Counts.{count_of, counts_of, IsOrdered, IsTimingAt, IsWithin}
use Rattle.annotation_spots.specs.Rows.{spot_of, IsIn}
use Rattle.annotation_spots.specs.declared.spots.Spot as code_spot
use Rattle.annotation_spots.proofs.RowLaws.{spot_counts}

length-spanned : (span : Span) (table : List code_path.Path) → span.start ≤ span.end → span.end ≤ length table → length (spanned table span) ≡ span.end - span.start
length-spanned span table o w = length-take-le (span.end - span.start) (drop span.start table) (let n : length (drop span.start table) ≡ length table - span.start = length-drop span.start table in omega arith)

count-seen : (parts : Parts) (s : ℕ) (is : List ℕ) (o : ℕ) (k : ElementKind) → IsIndexed parts k → count_of k ≡ length (spots_in s is o (kind_seen parts k))
count-seen parts s is o (kind.Gate gate delays) i = refl
count-seen parts s is o (kind.Udp udp delays) i = refl
count-seen parts s is o (kind.Pass constant) i = refl
count-seen parts s is o (kind.Leg timing) i = refl
count-seen parts s is o (kind.Path span style) i =
    sym (length-map (paths_seen parts.conditions.items parts.leg_timings.items (spanned parts.paths.items span)) (path_spot s o)
    ∙ (length-map (spanned parts.paths.items span) (path_seen parts.conditions.items parts.leg_timings.items) ∙ length-spanned span parts.paths.items i.ordered i.within))
count-seen parts s is o (kind.Late delay) i = refl

counts-seen : (parts : Parts) (es : List code_element.Element) → All (λ e. IsIndexed parts e.kind) es → counts_of es ≡ spot_counts (map (element_seen parts) es)
counts-seen parts [] h = refl
counts-seen parts (e ∷ es) h =
    ap (λ n. n ∷ counts_of es) (count-seen parts e.scope e.inputs.items e.output e.kind (h 0 e (omega arith)))
    ∙ ap (λ ns. length (spots_in e.scope e.inputs.items e.output (kind_seen parts e.kind)) ∷ ns) (counts-seen parts es (λ i d l. h (suc i) d (omega arith)))

ordered-kind : (parts : Parts) (k : ElementKind) → IsIndexed parts k → IsOrdered k
ordered-kind parts (kind.Gate gate delays) i = tt
ordered-kind parts (kind.Udp udp delays) i = tt
ordered-kind parts (kind.Pass constant) i = tt
ordered-kind parts (kind.Leg timing) i = tt
ordered-kind parts (kind.Path span style) i = i.ordered
ordered-kind parts (kind.Late delay) i = tt

-- the code's elements, of a circuit
pub elements-ordered : (parts : Parts) → AreIndexed parts → All (λ e. IsOrdered e.kind) parts.elements.items
elements-ordered parts h = All-weaker (λ (e : code_element.Element). IsIndexed parts e.kind) (λ (e : code_element.Element). IsOrdered e.kind) (λ e i. ordered-kind parts e.kind i) parts.elements.items h.named

pub elements-few : (parts : Parts) (c : Circuit) → circuit_seen parts ≡ c → IsClosed c → length parts.elements.items < 2 ^ 31
elements-few parts c seen closed = subst (λ n. n < 2 ^ 31) (ap (λ c. length c.elements) (sym seen) ∙ length-map parts.elements.items (element_seen parts)) closed.few_elements

pub counts-of_circuit : (parts : Parts) (c : Circuit) → circuit_seen parts ≡ c → AreIndexed parts → counts_of parts.elements.items ≡ spot_counts c.elements
counts-of_circuit parts c seen h = counts-seen parts parts.elements.items h.named ∙ ap (λ c. spot_counts c.elements) seen

-- ---- one row

pub row-within : (parts : Parts) (row : code_spot.Spot) → IsIn (circuit_seen parts) row → row.element < length parts.elements.items
row-within parts row h = subst (λ n. row.element < n) (length-map parts.elements.items (element_seen parts)) h.element

-- its element, as it is seen
pub element-seen : (parts : Parts) (row : code_spot.Spot) (e : code_element.Element) → IsIn (circuit_seen parts) row → e ≡ slice_index_or parts.elements.items row.element e
    → element_at (circuit_seen parts) row.element ≡ element_seen parts e
element-seen parts row e h is = get_or-map (element_seen parts) parts.elements.items row.element e _ (row-within parts row h) ∙ ap (element_seen parts) (sym is)

-- what an element is made of stands in its scope
pub scope-in : (s : ℕ) (is : List ℕ) (o : ℕ) (k : Kind) (p : ℕ) → p < length (spots_in s is o k) → scope_of (slice_index_or (spots_in s is o k) p no_spot) ≡ s
scope-in s is o (Gate gate delays) p l = absurd (omega arith)
scope-in s is o (Udp primitive first delays) p l = absurd (omega arith)
scope-in s is o (Pass constant) p l = absurd (omega arith)
scope-in s is o (Leg timings) zero l = refl
scope-in s is o (Leg timings) (suc p) l = absurd (omega arith)
scope-in s is o (Path [] style) p l = absurd (omega arith)
scope-in s is o (Path (x ∷ xs) style) zero l = refl
scope-in s is o (Path (x ∷ xs) style) (suc p) l = scope-in s is o (Path xs style) p (omega arith)
scope-in s is o (Late delay) p l = absurd (omega arith)

pub scope-seen : (parts : Parts) (row : code_spot.Spot) (e : code_element.Element) → IsIn (circuit_seen parts) row → e ≡ slice_index_or parts.elements.items row.element e → e.scope ≡ scope_of (spot_of (circuit_seen parts) row)
scope-seen parts row e h is =
    let x = element_at (circuit_seen parts) row.element in
    sym (scope-in x.scope x.inputs x.output x.kind row.path h.path ∙ ap (λ (y : Element). y.scope) (element-seen parts row e h is))

element-indexed : (parts : Parts) (row : code_spot.Spot) (e : code_element.Element) → AreIndexed parts → IsIn (circuit_seen parts) row → e ≡ slice_index_or parts.elements.items row.element e → IsIndexed parts e.kind
element-indexed parts row e i h is = subst (λ (y : code_element.Element). IsIndexed parts y.kind) (sym is) (i.named row.element e (row-within parts row h))

-- where the timing stands
pub path-among : (parts : Parts) (row : code_spot.Spot) (e : code_element.Element) → AreIndexed parts → IsIn (circuit_seen parts) row → e ≡ slice_index_or parts.elements.items row.element e → row.path < count_of e.kind
path-among parts row e i h is =
    subst (λ n. row.path < n) (ap (λ x. length (spots_of x)) (element-seen parts row e h is) ∙ sym (count-seen parts e.scope e.inputs.items e.output e.kind (element-indexed parts row e i h is))) h.path

kind-within : (parts : Parts) (k : ElementKind) → IsIndexed parts k → IsWithin parts.paths.items k
kind-within parts (kind.Gate gate delays) i = tt
kind-within parts (kind.Udp udp delays) i = tt
kind-within parts (kind.Pass constant) i = tt
kind-within parts (kind.Leg timing) i = tt
kind-within parts (kind.Path span style) i = i.within
kind-within parts (kind.Late delay) i = tt

pub paths-within : (parts : Parts) (row : code_spot.Spot) (e : code_element.Element) (paths : List code_path.Path) → AreIndexed parts → IsIn (circuit_seen parts) row → e ≡ slice_index_or parts.elements.items row.element e → paths ≡ parts.paths.items → IsWithin paths e.kind
paths-within parts row e paths i h is same = subst (λ ps. IsWithin ps e.kind) (sym same) (kind-within parts e.kind (element-indexed parts row e i h is))

-- a timing's place, and what stands there
record IsSeenAt (parts : Parts) (place : ℕ) (timings : List Timing) : Type 0 where
  pub stands : place < length parts.leg_timings.items
  pub seen : timings_at parts.leg_timings.items place ≡ timings

seen-at : (parts : Parts) (s : ℕ) (is : List ℕ) (o : ℕ) (k : ElementKind) (p place : ℕ) → IsIndexed parts k → p < count_of k → IsTimingAt parts.paths.items k p place
    → IsSeenAt parts place (timings_of (slice_index_or (spots_in s is o (kind_seen parts k)) p no_spot))
seen-at parts s is o (kind.Gate gate delays) p place i l e = absurd (omega arith)
seen-at parts s is o (kind.Udp udp delays) p place i l e = absurd (omega arith)
seen-at parts s is o (kind.Pass constant) p place i l e = absurd (omega arith)
seen-at parts s is o (kind.Leg timing) zero place i l e = record { stands = subst (λ n. n < length parts.leg_timings.items) (sym e) i; seen = ap (timings_at parts.leg_timings.items) e }
seen-at parts s is o (kind.Leg timing) (suc p) place i l e = absurd (omega arith)
seen-at parts s is o (kind.Path span style) p place i l e =
    let table = spanned parts.paths.items span in
    let F = path_seen parts.conditions.items parts.leg_timings.items in
    let d : code_path.Path = record { input = 0; edge = None; condition = Always; timing = 0 } in
    let m : p < length table = subst (λ n. p < n) (sym (length-spanned span parts.paths.items i.ordered i.within)) l in
    let n : p < length (map F table) = subst (λ n. p < n) (sym (length-map table F)) m in
    record {
      stands = subst (λ n. n < length parts.leg_timings.items) (sym (e d)) (i.each p d m).timing;
      seen = ap (timings_at parts.leg_timings.items) (e d)
          ∙ (ap (λ (q : specify.Path). q.timings) (sym (get_or-map F table p d (F d) m)) ∙ ap timings_of (sym (get_or-map (path_spot s o) (map F table) p (F d) no_spot n)));
    }
seen-at parts s is o (kind.Late delay) p place i l e = absurd (omega arith)

row-seen : (parts : Parts) (row : code_spot.Spot) (e : code_element.Element) (paths : List code_path.Path) (place : ℕ) → AreIndexed parts → IsIn (circuit_seen parts) row → e ≡ slice_index_or parts.elements.items row.element e
    → paths ≡ parts.paths.items → IsTimingAt paths e.kind row.path place → IsSeenAt parts place (timings_of (spot_of (circuit_seen parts) row))
row-seen parts row e paths place i h is same at =
    subst (λ x. IsSeenAt parts place (timings_of (slice_index_or (spots_of x) row.path no_spot))) (sym (element-seen parts row e h is))
    (seen-at parts e.scope e.inputs.items e.output e.kind row.path place (element-indexed parts row e i h is) (path-among parts row e i h is) (subst (λ ps. IsTimingAt ps e.kind row.path place) same at))

pub timing-within : (parts : Parts) (row : code_spot.Spot) (e : code_element.Element) (paths : List code_path.Path) (place : ℕ) → AreIndexed parts → IsIn (circuit_seen parts) row → e ≡ slice_index_or parts.elements.items row.element e
    → paths ≡ parts.paths.items → IsTimingAt paths e.kind row.path place → place < length parts.leg_timings.items
timing-within parts row e paths place i h is same at = (row-seen parts row e paths place i h is same at).stands

pub timing-seen : (parts : Parts) (row : code_spot.Spot) (e : code_element.Element) (paths : List code_path.Path) (place : ℕ) (t : LegTiming) → AreIndexed parts → IsIn (circuit_seen parts) row
    → e ≡ slice_index_or parts.elements.items row.element e → paths ≡ parts.paths.items → IsTimingAt paths e.kind row.path place → t ≡ slice_index_or parts.leg_timings.items place t
    → leg_timing_seen t ≡ timings_of (spot_of (circuit_seen parts) row)
timing-seen parts row e paths place t i h is same at there =
    let r = row-seen parts row e paths place i h is same at in
    ap leg_timing_seen there ∙ (sym (get_or-map (λ t. leg_timing_seen t) parts.leg_timings.items place t [] r.stands) ∙ r.seen)

-- ---- one element of the code's

pub within-counts : (es : List code_element.Element) (i : ℕ) → i < length es → i < length (counts_of es)
within-counts es i l = subst (λ n. i < n) (sym (length-map es (λ e. count_of e.kind))) l

pub count-at : (es : List code_element.Element) (i : ℕ) (e : code_element.Element) (count : ℕ) → i < length es → e ≡ slice_index_or es i e → count ≡ count_of e.kind → count ≡ slice_index_or (counts_of es) i 0
count-at es i e count l is same = same ∙ (ap (λ (x : code_element.Element). count_of x.kind) is ∙ sym (get_or-map (λ e. count_of e.kind) es i e 0 l))
