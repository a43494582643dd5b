-- What is so of the code's parts where an element's kind, or the timing of one of its paths, is set.
use Rattle.std.specs.Prelude.{◌≡◌, ◌≢◌, ◌⊎◌, ℕ, zero, suc, ◌+◌, ◌-◌, ◌<◌, ◌≤◌, ◌^◌, All, List, [], ◌∷◌, ◌++◌, length, map, take, drop, Option, Some, None, IfSome, slice_index_or, unsigned_abs, ℤ, refl}
use Rattle.std.specs.Global.{Vec}
use Rattle.std.proofs.Common.{sym, ◌∙◌, ap, subst, arith, inl, inr}
use Rattle.std.proofs.lemmas.List.{length-append, length-map, get_or-map, get_or_default}
use Rattle.std.proofs.lemmas.List.Elements.{All-weaker}
use Rattle.cond_expr.specs.Condition.{Condition}
use Rattle.sg_circuit.specs.declared.checks.CheckTiming.{CheckTiming}
use Rattle.sg_circuit.specs.declared.circuits.Parts.{Parts}
use Rattle.sg_circuit.specs.declared.elements.Element as code_element
use Rattle.sg_circuit.specs.declared.elements.ElementKind.{ElementKind}
use Rattle.sg_circuit.specs.declared.elements.ElementKind.TheVariants as kind
use Rattle.sg_circuit.specs.declared.elements.LegTiming.{LegTiming}
use Rattle.sg_circuit.specs.declared.paths.Path as code_path
use Rattle.sg_circuit.specs.declared.paths.Span.{Span}
use Rattle.sg_circuit.specs.Paths as specify
use Rattle.sg_circuit.specs.Circuit.{Circuit, Element, Kind, Pass, Leg, Path, Late, element_at}
use Rattle.sg_circuit.specs.Timings.{Timing}
use Rattle.sg_circuit.specs.Closed.{limit_count, AreTimings, IsClosed, IsLate}
use Rattle.late_limits.specs.Adjusted.{late_kind}
use Rattle.circuit_open.specs.Open.{Open, changed_at, with_kind, with_leg, with_path, with_limit, with_check_limit, place_in, HasPath, HasPathIn, IsLeg, IsLight}
use Rattle.sg_circuit.specs.PathsSeen.{condition_seen, path_seen, paths_seen, spanned, AreIndexedPaths, IsIndexedPath}
use Rattle.sg_circuit.specs.Seen.{circuit_seen, element_seen, kind_seen, paths_of, AreApart, AreIndexed, IsIndexed}
use Rattle.sg_circuit.specs.TimingsSeen.{leg_timing_seen, timings_at}
use Rattle.circuit_open.proofs.ClosedLaws.{closed-kind, closed-limit, keeps-leg, keeps-delay, keeps-path}
use Rattle.circuit_open.proofs.ChangeLaws.{length-changed, All-changed, kept-at, map-same, map-of_changed, map-changed, changed-past, take-changed, drop-changed, drop-unchanged}

if_some : {A : Type 0} (o : Option A) (P Q : A → Type 0) → ((a : A) → P a → Q a) → IfSome o P → IfSome o Q
if_some None P Q f h = tt
if_some (Some a) P Q f h = f a h

-- tables with other timings, paths and elements
abbrev pub grown : Parts → Vec LegTiming → Vec code_path.Path → Vec code_element.Element → Parts
grown parts timings paths elements = record parts { leg_timings = timings; paths = paths; elements = elements }

-- the timings that there were stand where they stood
pub record Grows (before after : List LegTiming) : Type 0 where
  pub more : length before ≤ length after
  pub same : (i : ℕ) → i < length before → timings_at after i ≡ timings_at before i

timings-old : (xs : List LegTiming) (t : LegTiming) (i : ℕ) → i < length xs → timings_at (xs ++ t ∷ []) i ≡ timings_at xs i
timings-old [] t i l = absurd (omega arith)
timings-old (x ∷ xs) t zero l = refl
timings-old (x ∷ xs) t (suc i) l = timings-old xs t i (omega arith)

pub timings-new : (xs : List LegTiming) (t : LegTiming) → timings_at (xs ++ t ∷ []) (length xs) ≡ leg_timing_seen t
timings-new [] t = refl
timings-new (x ∷ xs) t = timings-new xs t

pub grows-one : (before after : List LegTiming) (t : LegTiming) → after ≡ before ++ t ∷ [] → Grows before after
grows-one before after t e =
    subst (λ xs. Grows before xs) (sym e) (record { more = (let n : length (before ++ t ∷ []) ≡ length before + 1 = length-append before (t ∷ []) in omega arith); same = timings-old before t })

pub grows-none : (before : List LegTiming) → Grows before before
grows-none before = record { more = omega arith; same = λ i l. refl }

-- what is seen of an element that isn't set
path-kept : (conditions : List Condition) (before after : List LegTiming) → Grows before after → (p : code_path.Path) → p.timing < length before → path_seen conditions after p ≡ path_seen conditions before p
path-kept conditions before after g p l = ap (λ ts. record { input = p.input; edge = p.edge; condition = condition_seen conditions p.condition; timings = ts }) (g.same p.timing l)

kind-kept : (parts : Parts) (timings : Vec LegTiming) (paths : Vec code_path.Path) (elements : Vec code_element.Element) → Grows parts.leg_timings.items timings.items → (k : ElementKind) → IsIndexed parts k
    → IfSome (paths_of k) (λ s. spanned paths.items s ≡ spanned parts.paths.items s) → kind_seen (grown parts timings paths elements) k ≡ kind_seen parts k
kind-kept parts timings paths elements g (kind.Gate gate delays) i p = refl
kind-kept parts timings paths elements g (kind.Udp udp delays) i p = refl
kind-kept parts timings paths elements g (kind.Pass constant) i p = refl
kind-kept parts timings paths elements g (kind.Leg timing) i p = ap Leg (g.same timing i)
kind-kept parts timings paths elements g (kind.Path span style) i p =
    ap (λ ps. Path ps style) (ap (paths_seen parts.conditions.items timings.items) p
    ∙ map-same (path_seen parts.conditions.items parts.leg_timings.items) (path_seen parts.conditions.items timings.items) (spanned parts.paths.items span)
    (λ k d l. path-kept parts.conditions.items parts.leg_timings.items timings.items g (slice_index_or (spanned parts.paths.items span) k d) (i.each k d l).timing))
kind-kept parts timings paths elements g (kind.Late delay) i p = refl

element-kept : (parts : Parts) (timings : Vec LegTiming) (paths : Vec code_path.Path) (elements : Vec code_element.Element) → Grows parts.leg_timings.items timings.items → (x : code_element.Element) → IsIndexed parts x.kind
    → IfSome (paths_of x.kind) (λ s. spanned paths.items s ≡ spanned parts.paths.items s) → element_seen (grown parts timings paths elements) x ≡ element_seen parts x
element-kept parts timings paths elements g x i p =
    ap (λ k. record { scope = x.scope; inputs = x.inputs.items; output = x.output; kind = k }) (kind-kept parts timings paths elements g x.kind i p)

same-spans : (ps : List code_path.Path) (o : Option Span) → IfSome o (λ s. spanned ps s ≡ spanned ps s)
same-spans ps None = tt
same-spans ps (Some s) = refl

-- an element's kind is set
pub elements-set : (parts : Parts) (timings : Vec LegTiming) (elements : Vec code_element.Element) (e : ℕ) (k : ElementKind) (g : Kind → Kind) → Grows parts.leg_timings.items timings.items → AreIndexed parts
    → ((d : code_element.Element) → e < length parts.elements.items → kind_seen (grown parts timings parts.paths elements) k ≡ g (kind_seen parts (slice_index_or parts.elements.items e d).kind))
    → elements.items ≡ changed_at (λ (x : code_element.Element). record x { kind = k }) e parts.elements.items → circuit_seen (grown parts timings parts.paths elements) ≡ with_kind g e (circuit_seen parts)
elements-set parts timings elements e k g grows h here is =
    let after = grown parts timings parts.paths elements in
    ap (λ es. record (circuit_seen parts) { elements = es })
    (ap (map (element_seen after)) is
    ∙ map-of_changed (element_seen parts) (element_seen after) (λ (x : code_element.Element). record x { kind = k }) (λ (x : Element). record x { kind = g x.kind }) e parts.elements.items
    (λ i d l. (let x = slice_index_or parts.elements.items i d in element-kept parts timings parts.paths elements grows x (h.named i d l) (same-spans parts.paths.items (paths_of x.kind))))
    (λ d l. (let x = slice_index_or parts.elements.items e d in ap (λ q. record { scope = x.scope; inputs = x.inputs.items; output = x.output; kind = q }) (here d l))))

-- what is named stands in the tables
indexed-path : (conditions before after : ℕ) (p : code_path.Path) → before ≤ after → IsIndexedPath conditions before p → IsIndexedPath conditions after p
indexed-path conditions before after p l h = record { condition = h.condition; timing = (let m = h.timing in omega arith) }

indexed-kind : (parts : Parts) (timings : Vec LegTiming) (paths : Vec code_path.Path) (elements : Vec code_element.Element) → length parts.leg_timings.items ≤ length timings.items
    → ((s : Span) → AreIndexedPaths (length parts.conditions.items) (length parts.leg_timings.items) parts.paths.items s → AreIndexedPaths (length parts.conditions.items) (length timings.items) paths.items s)
    → (k : ElementKind) → IsIndexed parts k → IsIndexed (grown parts timings paths elements) k
indexed-kind parts timings paths elements l spans (kind.Gate gate delays) i = i
indexed-kind parts timings paths elements l spans (kind.Udp udp delays) i = i
indexed-kind parts timings paths elements l spans (kind.Pass constant) i = i
indexed-kind parts timings paths elements l spans (kind.Leg timing) i = omega arith
indexed-kind parts timings paths elements l spans (kind.Path span style) i = spans span i
indexed-kind parts timings paths elements l spans (kind.Late delay) i = i

same-paths : (conditions before after : ℕ) (paths : List code_path.Path) → before ≤ after → (s : Span) → AreIndexedPaths conditions before paths s → AreIndexedPaths conditions after paths s
same-paths conditions before after paths l s h = record {
  ordered = h.ordered;
  within = h.within;
  each = All-weaker (IsIndexedPath conditions before) (IsIndexedPath conditions after) (λ p i. indexed-path conditions before after p l i) (spanned paths s) h.each;
}

-- where an element's kind is set, and no paths come or go
pub indexed-set : (parts : Parts) (timings : Vec LegTiming) (elements : Vec code_element.Element) (e : ℕ) (k : ElementKind) → Grows parts.leg_timings.items timings.items → AreIndexed parts
    → IsIndexed (grown parts timings parts.paths elements) k → ((d : code_element.Element) → e < length parts.elements.items → paths_of k ≡ paths_of (slice_index_or parts.elements.items e d).kind)
    → elements.items ≡ changed_at (λ (x : code_element.Element). record x { kind = k }) e parts.elements.items → AreIndexed (grown parts timings parts.paths elements)
indexed-set parts timings elements e k grows h new spans is =
    let set = λ (x : code_element.Element). record x { kind = k } in
    let P = λ (x : code_element.Element). IsIndexed (grown parts timings parts.paths elements) x.kind in
    let every : All P parts.elements.items =
    All-weaker (λ (x : code_element.Element). IsIndexed parts x.kind) P
    (λ x. indexed-kind parts timings parts.paths elements grows.more (same-paths (length parts.conditions.items) (length parts.leg_timings.items) (length timings.items) parts.paths.items grows.more) x.kind) parts.elements.items h.named in
    record {
      named = subst (λ es. All P es) (sym is) (All-changed P set (λ x i. new) e parts.elements.items every);
      few_udps = h.few_udps;
      counts = h.counts;
      written = h.written;
      apart = apart-kept parts.elements.items elements.items set e is spans h.apart;
    }
  where
    apart-kept : (xs ys : List code_element.Element) (f : code_element.Element → code_element.Element) (e : ℕ) → ys ≡ changed_at f e xs
        → ((d : code_element.Element) → e < length xs → paths_of (f (slice_index_or xs e d)).kind ≡ paths_of (slice_index_or xs e d).kind)
        → ((i j : ℕ) (d : code_element.Element) → i < j → j < length xs → AreApart (paths_of (slice_index_or xs i d).kind) (paths_of (slice_index_or xs j d).kind))
        → (i j : ℕ) (d : code_element.Element) → i < j → j < length ys → AreApart (paths_of (slice_index_or ys i d).kind) (paths_of (slice_index_or ys j d).kind)
    apart-kept xs ys f e same stay apart i j d l m =
        let F = λ (x : code_element.Element). paths_of x.kind in
        let at = λ (n : ℕ). ap (λ zs. F (slice_index_or zs n d)) same ∙ kept-at F f e xs stay n d in
        subst (λ a. AreApart a (F (slice_index_or ys j d))) (sym (at i)) (subst (λ b. AreApart (F (slice_index_or xs i d)) b) (sym (at j))
        (apart i j d l (subst (λ n. j < n) (ap length same ∙ length-changed f e xs) m)))

-- the part of a table in which a path is set
length-take-most : {A : Type 0} (n : ℕ) (xs : List A) → length (take n xs) ≤ n
length-take-most zero xs = omega arith
length-take-most (suc n) [] = omega arith
length-take-most (suc n) (x ∷ xs) = let h = length-take-most n xs in omega arith

spanned-changed : (f : code_path.Path → code_path.Path) (place : ℕ) (xs : List code_path.Path) (s : Span) → spanned (changed_at f (s.start + place) xs) s ≡ changed_at f place (spanned xs s)
spanned-changed f place xs s = ap (take (s.end - s.start)) (drop-changed f s.start place xs) ∙ take-changed f (s.end - s.start) place (drop s.start xs)

spanned-before : (f : code_path.Path → code_path.Path) (place : ℕ) (xs : List code_path.Path) (s : Span) → place < s.start → spanned (changed_at f place xs) s ≡ spanned xs s
spanned-before f place xs s l = ap (take (s.end - s.start)) (drop-unchanged f s.start place xs l)

spanned-behind : (f : code_path.Path → code_path.Path) (place : ℕ) (xs : List code_path.Path) (s : Span) → s.start ≤ s.end → s.end ≤ place → spanned (changed_at f place xs) s ≡ spanned xs s
spanned-behind f place xs s o l =
    let e : place ≡ s.start + (place - s.start) = omega arith in
    let most : length (take (s.end - s.start) (drop s.start xs)) ≤ s.end - s.start = length-take-most (s.end - s.start) (drop s.start xs) in
    ap (λ n. spanned (changed_at f n xs) s) e ∙ (spanned-changed f (place - s.start) xs s ∙ changed-past f (place - s.start) (spanned xs s) (omega arith))

sides : (a b : ℕ) → (a < b) ⊎ (b ≤ a)
sides a b = grind arith

each-changed : (P : code_path.Path → Type 0) (f : code_path.Path → code_path.Path) → ((x : code_path.Path) → P x → P (f x)) → (place : ℕ) (xs : List code_path.Path) (s : Span) → All P (spanned xs s) → All P (spanned (changed_at f place xs) s)
each-changed P f g place xs s h =
    elim (sides place s.start) [
      | inl l ↦ subst (λ ys. All P ys) (sym (spanned-before f place xs s l)) h
      | inr l ↦ (let e : s.start + (place - s.start) ≡ place = omega arith in
          subst (λ n. All P (spanned (changed_at f n xs) s)) e (subst (λ ys. All P ys) (sym (spanned-changed f (place - s.start) xs s)) (All-changed P f g (place - s.start) (spanned xs s) h)))
    ]

-- an element's path, in the table
pub record IsPathAt (k : ElementKind) (path : ℕ) (s : Span) : Type 0 where
  pub paths : paths_of k ≡ Some s
  pub place : place_in k path ≡ s.start + path
  pub within : s.start + path < s.end

path-at : (k : ElementKind) (path : ℕ) → HasPathIn path k → (s : Span) × IsPathAt k path s
path-at (kind.Gate gate delays) path h = absurd h
path-at (kind.Udp udp delays) path h = absurd h
path-at (kind.Pass constant) path h = absurd h
path-at (kind.Leg timing) path h = absurd h
path-at (kind.Path span style) path h = (span, record { paths = refl; place = refl; within = omega arith })
path-at (kind.Late delay) path h = absurd h

-- it is none of the others' paths
elsewhere : (f : code_path.Path → code_path.Path) (xs : List code_path.Path) (place : ℕ) (o : Option Span) → IfSome o (λ s. s.start ≤ s.end) → IfSome o (λ s. (place < s.start) ⊎ (s.end ≤ place))
    → IfSome o (λ s. spanned (changed_at f place xs) s ≡ spanned xs s)
elsewhere f xs place None h a = tt
elsewhere f xs place (Some s) h a = elim a [ inl l ↦ spanned-before f place xs s l | inr l ↦ spanned-behind f place xs s h l ]

ordered-of : (parts : Parts) (k : ElementKind) → IsIndexed parts k → IfSome (paths_of k) (λ s. s.start ≤ s.end)
ordered-of parts (kind.Gate gate delays) i = tt
ordered-of parts (kind.Udp udp delays) i = tt
ordered-of parts (kind.Pass constant) i = tt
ordered-of parts (kind.Leg timing) i = tt
ordered-of parts (kind.Path span style) i = i.ordered
ordered-of parts (kind.Late delay) i = tt

apart-from : (parts : Parts) (e i : ℕ) (d : code_element.Element) (place : ℕ) (own : Span) → AreIndexed parts → e < length parts.elements.items → i < length parts.elements.items → i ≢ e
    → paths_of (slice_index_or parts.elements.items e d).kind ≡ Some own → own.start ≤ place → place < own.end
    → IfSome (paths_of (slice_index_or parts.elements.items i d).kind) (λ s. (place < s.start) ⊎ (s.end ≤ place))
apart-from parts e i d place own h le li n is low high =
    elim (apart_sides i e n) [
      | inl l ↦ if_some (paths_of (slice_index_or parts.elements.items i d).kind) (λ s. s.end ≤ own.start) (λ s. (place < s.start) ⊎ (s.end ≤ place)) (λ s m. inr (omega arith)) (before (h.apart i e d l le))
      | inr l ↦ if_some (paths_of (slice_index_or parts.elements.items i d).kind) (λ s. own.end ≤ s.start) (λ s. (place < s.start) ⊎ (s.end ≤ place)) (λ s m. inl (omega arith)) (behind (h.apart e i d l li))
    ]
  where
    apart_sides : (a b : ℕ) → a ≢ b → (a < b) ⊎ (b < a)
    apart_sides a b h = grind arith

    before : AreApart (paths_of (slice_index_or parts.elements.items i d).kind) (paths_of (slice_index_or parts.elements.items e d).kind) → IfSome (paths_of (slice_index_or parts.elements.items i d).kind) (λ s. s.end ≤ own.start)
    before a = subst (λ o. AreApart (paths_of (slice_index_or parts.elements.items i d).kind) o) is a

    behind : AreApart (paths_of (slice_index_or parts.elements.items e d).kind) (paths_of (slice_index_or parts.elements.items i d).kind) → IfSome (paths_of (slice_index_or parts.elements.items i d).kind) (λ s. own.end ≤ s.start)
    behind a = subst (λ o. AreApart o (paths_of (slice_index_or parts.elements.items i d).kind)) is a

path-here : (parts : Parts) (timings : Vec LegTiming) (paths : Vec code_path.Path) (k : ElementKind) (path place : ℕ) (t : LegTiming) → Grows parts.leg_timings.items timings.items → IsIndexed parts k → HasPathIn path k
    → paths.items ≡ changed_at (λ (p : code_path.Path). record p { timing = place }) (place_in k path) parts.paths.items → timings_at timings.items place ≡ leg_timing_seen t
    → kind_seen (grown parts timings paths parts.elements) k ≡ with_path path (leg_timing_seen t) (kind_seen parts k)
path-here parts timings paths (kind.Gate gate delays) path place t g i h is new = absurd h
path-here parts timings paths (kind.Udp udp delays) path place t g i h is new = absurd h
path-here parts timings paths (kind.Pass constant) path place t g i h is new = absurd h
path-here parts timings paths (kind.Leg timing) path place t g i h is new = absurd h
path-here parts timings paths (kind.Path span style) path place t g i h is new =
    let set = λ (p : code_path.Path). record p { timing = place } in
    let conditions = parts.conditions.items in
    ap (λ ps. Path ps style) (ap (λ xs. paths_seen conditions timings.items (spanned xs span)) is ∙ (ap (paths_seen conditions timings.items) (spanned-changed set path parts.paths.items span)
    ∙ map-of_changed (path_seen conditions parts.leg_timings.items) (path_seen conditions timings.items) set (λ (p : specify.Path). record p { timings = leg_timing_seen t }) path (spanned parts.paths.items span)
    (λ k d l. path-kept conditions parts.leg_timings.items timings.items g (slice_index_or (spanned parts.paths.items span) k d) (i.each k d l).timing)
    (λ d l. (let p = slice_index_or (spanned parts.paths.items span) path d in ap (λ ts. record { input = p.input; edge = p.edge; condition = condition_seen conditions p.condition; timings = ts }) new))))
path-here parts timings paths (kind.Late delay) path place t g i h is new = absurd h

-- a path's timing is set
pub elements-path : (parts : Parts) (timings : Vec LegTiming) (paths : Vec code_path.Path) (e path place : ℕ) (k : ElementKind) (t : LegTiming) → Grows parts.leg_timings.items timings.items → AreIndexed parts
    → ((d : code_element.Element) → (slice_index_or parts.elements.items e d).kind ≡ k) → HasPathIn path k → e < length parts.elements.items
    → paths.items ≡ changed_at (λ (p : code_path.Path). record p { timing = place }) (place_in k path) parts.paths.items → timings_at timings.items place ≡ leg_timing_seen t
    → circuit_seen (grown parts timings paths parts.elements) ≡ with_kind (with_path path (leg_timing_seen t)) e (circuit_seen parts)
elements-path parts timings paths e path place k t grows h same has le is new =
    let after = grown parts timings paths parts.elements in
    let at = path-at k path has in
    let own : Span = at.0 in
    let set = λ (p : code_path.Path). record p { timing = place } in
    ap (λ es. record (circuit_seen parts) { elements = es })
    (map-changed (element_seen parts) (element_seen after) (λ (x : Element). record x { kind = with_path path (leg_timing_seen t) x.kind }) e parts.elements.items
    (λ i d l n. (let x = slice_index_or parts.elements.items i d in
    let away : IfSome (paths_of x.kind) (λ s. spanned (changed_at set (place_in k path) parts.paths.items) s ≡ spanned parts.paths.items s) =
    elsewhere set parts.paths.items (place_in k path) (paths_of x.kind) (ordered-of parts x.kind (h.named i d l))
    (apart-from parts e i d (place_in k path) own h le l n (ap paths_of (same d) ∙ at.1.paths) (let p = at.1.place in omega arith) (let p = at.1.place in let w = at.1.within in omega arith)) in
    element-kept parts timings paths parts.elements grows x (h.named i d l) (subst (λ ps. IfSome (paths_of x.kind) (λ s. spanned ps s ≡ spanned parts.paths.items s)) (sym is) away)))
    (λ d l. (let x = slice_index_or parts.elements.items e d in
    ap (λ q. record { scope = x.scope; inputs = x.inputs.items; output = x.output; kind = q })
    (path-here parts timings paths x.kind path place t grows (h.named e d l) (subst (HasPathIn path) (sym (same d)) has) (is ∙ ap (λ q. changed_at set (place_in q path) parts.paths.items) (sym (same d))) new))))

pub indexed-path_set : (parts : Parts) (timings : Vec LegTiming) (paths : Vec code_path.Path) (at place : ℕ) → Grows parts.leg_timings.items timings.items → AreIndexed parts → place < length timings.items
    → paths.items ≡ changed_at (λ (p : code_path.Path). record p { timing = place }) at parts.paths.items → AreIndexed (grown parts timings paths parts.elements)
indexed-path_set parts timings paths at place grows h new is =
    let set = λ (p : code_path.Path). record p { timing = place } in
    let conditions = length parts.conditions.items in
    let before = length parts.leg_timings.items in
    let after = length timings.items in
    let spans = λ (s : Span) (i : AreIndexedPaths conditions before parts.paths.items s). spans-set conditions before after at parts.paths.items paths.items set grows.more is
    (λ p i. record { condition = i.condition; timing = new }) s i in
    record {
      named = All-weaker (λ (x : code_element.Element). IsIndexed parts x.kind) (λ (x : code_element.Element). IsIndexed (grown parts timings paths parts.elements) x.kind)
          (λ x. indexed-kind parts timings paths parts.elements grows.more spans x.kind) parts.elements.items h.named;
      few_udps = h.few_udps;
      counts = h.counts;
      written = h.written;
      apart = h.apart;
    }
  where
    spans-set : (conditions before after at : ℕ) (xs ys : List code_path.Path) (set : code_path.Path → code_path.Path) → before ≤ after → ys ≡ changed_at set at xs
        → ((p : code_path.Path) → IsIndexedPath conditions after p → IsIndexedPath conditions after (set p)) → (s : Span) → AreIndexedPaths conditions before xs s → AreIndexedPaths conditions after ys s
    spans-set conditions before after at xs ys set l is keeps s i = record {
      ordered = i.ordered;
      within = subst (λ n. s.end ≤ n) (sym (ap length is ∙ length-changed set at xs)) i.within;
      each = subst (λ zs. All (IsIndexedPath conditions after) (spanned zs s)) (sym is)
          (each-changed (IsIndexedPath conditions after) set keeps at xs s (All-weaker (IsIndexedPath conditions before) (IsIndexedPath conditions after) (λ p. indexed-path conditions before after p l) (spanned xs s) i.each));
    }

-- the kind of an element that is seen
pub kind-at : (parts : Parts) (e : ℕ) (d : code_element.Element) → e < length parts.elements.items → (element_at (circuit_seen parts) e).kind ≡ kind_seen parts (slice_index_or parts.elements.items e d).kind
kind-at parts e d l = ap (λ (x : Element). x.kind) (get_or-map (element_seen parts) parts.elements.items e d (record { scope = 0; inputs = []; output = 0; kind = Pass None }) l)

pub leg-was : (parts : Parts) (timings : List Timing) (k : ElementKind) → IsLeg (kind_seen parts k) → (paths_of k ≡ None) × (with_leg timings (kind_seen parts k) ≡ Leg timings)
leg-was parts timings (kind.Gate gate delays) h = absurd h
leg-was parts timings (kind.Udp udp delays) h = absurd h
leg-was parts timings (kind.Pass constant) h = absurd h
leg-was parts timings (kind.Leg timing) h = (refl, refl)
leg-was parts timings (kind.Path span style) h = absurd h
leg-was parts timings (kind.Late delay) h = absurd h

pub late-was : (parts : Parts) (delay : ℕ) (k : ElementKind) → IsLate (kind_seen parts k) → (paths_of k ≡ None) × (late_kind delay (kind_seen parts k) ≡ Late delay)
late-was parts delay (kind.Gate gate delays) h = absurd h
late-was parts delay (kind.Udp udp delays) h = absurd h
late-was parts delay (kind.Pass constant) h = absurd h
late-was parts delay (kind.Leg timing) h = absurd h
late-was parts delay (kind.Path span style) h = absurd h
late-was parts delay (kind.Late before) h = (refl, refl)

pub path-was : (parts : Parts) (path : ℕ) (k : ElementKind) → IsIndexed parts k → HasPath path (kind_seen parts k) → HasPathIn path k
path-was parts path (kind.Gate gate delays) i h = absurd h
path-was parts path (kind.Udp udp delays) i h = absurd h
path-was parts path (kind.Pass constant) i h = absurd h
path-was parts path (kind.Leg timing) i h = absurd h
path-was parts path (kind.Path span style) i h =
    let seen : length (map (path_seen parts.conditions.items parts.leg_timings.items) (spanned parts.paths.items span)) ≡ length (spanned parts.paths.items span) = length-map (spanned parts.paths.items span) (path_seen parts.conditions.items parts.leg_timings.items) in
    let most : length (take (span.end - span.start) (drop span.start parts.paths.items)) ≤ span.end - span.start = length-take-most (span.end - span.start) (drop span.start parts.paths.items) in
    let low : path < length (spanned parts.paths.items span) = subst (λ n. path < n) seen h in
    let o = i.ordered in
    omega arith
path-was parts path (kind.Late delay) i h = absurd h

-- ---- what each call leaves

-- a table with more room
pub seen-same : (parts : Parts) (timings : Vec LegTiming) → timings.items ≡ parts.leg_timings.items → AreIndexed parts → circuit_seen (grown parts timings parts.paths parts.elements) ≡ circuit_seen parts
seen-same parts timings e h =
    ap (λ es. record (circuit_seen parts) { elements = es })
    (map-same (element_seen parts) (element_seen (grown parts timings parts.paths parts.elements)) parts.elements.items
    (λ i d l. (let x = slice_index_or parts.elements.items i d in
    element-kept parts timings parts.paths parts.elements (subst (Grows parts.leg_timings.items) (sym e) (grows-none parts.leg_timings.items)) x (h.named i d l) (same-spans parts.paths.items (paths_of x.kind)))))

pub indexed-same : (parts : Parts) (timings : Vec LegTiming) → timings.items ≡ parts.leg_timings.items → AreIndexed parts → AreIndexed (grown parts timings parts.paths parts.elements)
indexed-same parts timings e h =
    let grows : Grows parts.leg_timings.items timings.items = subst (Grows parts.leg_timings.items) (sym e) (grows-none parts.leg_timings.items) in
    record {
      named = All-weaker (λ (x : code_element.Element). IsIndexed parts x.kind) (λ (x : code_element.Element). IsIndexed (grown parts timings parts.paths parts.elements) x.kind)
          (λ x. indexed-kind parts timings parts.paths parts.elements grows.more (same-paths (length parts.conditions.items) (length parts.leg_timings.items) (length timings.items) parts.paths.items grows.more) x.kind) parts.elements.items h.named;
      few_udps = h.few_udps;
      counts = h.counts;
      written = h.written;
      apart = h.apart;
    }

-- tables that fit together, and what they stand for beside the circuit that was
pub record IsSet (before : Open) (after : Parts) (room : ℕ) (change : Circuit → Circuit) : Type 0 where
  pub closed : IsClosed (circuit_seen after)
  pub indexed : AreIndexed after
  pub seen : circuit_seen after ≡ change before.circuit

is-set : (parts after : Parts) (room : ℕ) (before : Open) (g : Kind → Kind) (e : ℕ) → record { circuit = circuit_seen parts; room = room } ≡ before → IsClosed (with_kind g e (circuit_seen parts)) → AreIndexed after
    → circuit_seen after ≡ with_kind g e (circuit_seen parts) → IsSet before after room (with_kind g e)
is-set parts after room before g e view closed indexed seen = record {
  closed = subst IsClosed (sym seen) closed;
  indexed = indexed;
  seen = seen ∙ ap (λ (o : Open). with_kind g e o.circuit) view;
}

-- an element that the circuit before has
within-before : (parts : Parts) (room : ℕ) (before : Open) (e : ℕ) → record { circuit = circuit_seen parts; room = room } ≡ before → e < length before.circuit.elements → e < length parts.elements.items
within-before parts room before e view l = subst (λ n. e < n) (ap (λ (o : Open). length o.circuit.elements) (sym view) ∙ length-map parts.elements.items (element_seen parts)) l

kind-before : (P : Kind → Type 0) (parts : Parts) (room : ℕ) (before : Open) (e : ℕ) (d : code_element.Element) → record { circuit = circuit_seen parts; room = room } ≡ before → e < length before.circuit.elements
    → P (element_at before.circuit e).kind → P (kind_seen parts (slice_index_or parts.elements.items e d).kind)
kind-before P parts room before e d view l h =
    subst P (ap (λ (o : Open). (element_at o.circuit e).kind) (sym view) ∙ kind-at parts e d (within-before parts room before e view l)) h

pub late-set : (parts : Parts) (elements : Vec code_element.Element) (room e delay : ℕ) (before : Open) → record { circuit = circuit_seen parts; room = room } ≡ before → e < length before.circuit.elements
    → IsLate (element_at before.circuit e).kind → delay < 2 ^ 60 → IsClosed (circuit_seen parts) → AreIndexed parts
    → elements.items ≡ changed_at (λ (x : code_element.Element). record x { kind = kind.Late delay }) e parts.elements.items
    → IsSet before (grown parts parts.leg_timings parts.paths elements) room (with_kind (late_kind delay) e)
late-set parts elements room e delay before view l late short closed h is =
    let was = λ (d : code_element.Element). late-was parts delay (slice_index_or parts.elements.items e d).kind (kind-before IsLate parts room before e d view l late) in
    is-set parts (grown parts parts.leg_timings parts.paths elements) room before (late_kind delay) e view
    (closed-kind (circuit_seen parts) (late_kind delay) e (keeps-delay (length parts.nets.items) delay short) closed)
    (indexed-set parts parts.leg_timings elements e (kind.Late delay) (grows-none parts.leg_timings.items) h tt (λ d m. sym (was d).0) is)
    (elements-set parts parts.leg_timings elements e (kind.Late delay) (late_kind delay) (grows-none parts.leg_timings.items) h (λ d m. sym (was d).1) is)

pub leg-set : (parts : Parts) (timings : Vec LegTiming) (elements : Vec code_element.Element) (room e place : ℕ) (t : LegTiming) (before : Open) → record { circuit = circuit_seen parts; room = room } ≡ before
    → e < length before.circuit.elements → IsLeg (element_at before.circuit e).kind → AreTimings (leg_timing_seen t) → IsClosed (circuit_seen parts) → AreIndexed parts
    → timings.items ≡ parts.leg_timings.items ++ t ∷ [] → place ≡ length parts.leg_timings.items
    → elements.items ≡ changed_at (λ (x : code_element.Element). record x { kind = kind.Leg place }) e parts.elements.items
    → IsSet before (grown parts timings parts.paths elements) room (with_kind (with_leg (leg_timing_seen t)) e)
leg-set parts timings elements room e place t before view l leg fine closed h pushed at is =
    let seen = leg_timing_seen t in
    let grows = grows-one parts.leg_timings.items timings.items t pushed in
    let new : timings_at timings.items place ≡ seen = ap (λ ts. timings_at ts place) pushed ∙ (ap (timings_at (parts.leg_timings.items ++ t ∷ [])) at ∙ timings-new parts.leg_timings.items t) in
    let stands : place < length timings.items = (let n : length timings.items ≡ length parts.leg_timings.items + 1 = ap length pushed ∙ length-append parts.leg_timings.items (t ∷ []) in omega arith) in
    let was = λ (d : code_element.Element). leg-was parts seen (slice_index_or parts.elements.items e d).kind (kind-before IsLeg parts room before e d view l leg) in
    is-set parts (grown parts timings parts.paths elements) room before (with_leg seen) e view
    (closed-kind (circuit_seen parts) (with_leg seen) e (keeps-leg (length parts.nets.items) seen fine) closed)
    (indexed-set parts timings elements e (kind.Leg place) grows h stands (λ d m. sym (was d).0) is)
    (elements-set parts timings elements e (kind.Leg place) (with_leg seen) grows h (λ d m. ap Leg new ∙ sym (was d).1) is)

-- the path that is set, in its table
pub path-had : (parts : Parts) (room e path : ℕ) (d : code_element.Element) (before : Open) → record { circuit = circuit_seen parts; room = room } ≡ before → e < length before.circuit.elements
    → HasPath path (element_at before.circuit e).kind → AreIndexed parts → HasPathIn path (slice_index_or parts.elements.items e d).kind
path-had parts room e path d before view l has h =
    path-was parts path (slice_index_or parts.elements.items e d).kind (h.named e d (within-before parts room before e view l)) (kind-before (HasPath path) parts room before e d view l has)

pub path-within : (parts : Parts) (k : ElementKind) (path : ℕ) → IsIndexed parts k → HasPathIn path k → place_in k path < length parts.paths.items
path-within parts (kind.Gate gate delays) path i h = absurd h
path-within parts (kind.Udp udp delays) path i h = absurd h
path-within parts (kind.Pass constant) path i h = absurd h
path-within parts (kind.Leg timing) path i h = absurd h
path-within parts (kind.Path span style) path i h = let w = i.within in omega arith
path-within parts (kind.Late delay) path i h = absurd h

pub place-within : (parts : Parts) (room e path : ℕ) (d : code_element.Element) (before : Open) → record { circuit = circuit_seen parts; room = room } ≡ before → e < length before.circuit.elements
    → HasPath path (element_at before.circuit e).kind → AreIndexed parts → place_in (slice_index_or parts.elements.items e d).kind path < length parts.paths.items
place-within parts room e path d before view l has h =
    path-within parts (slice_index_or parts.elements.items e d).kind path (h.named e d (within-before parts room before e view l)) (path-had parts room e path d before view l has h)

pub path-set : (parts : Parts) (timings : Vec LegTiming) (paths : Vec code_path.Path) (room e path place : ℕ) (d : code_element.Element) (t : LegTiming) (before : Open)
    → record { circuit = circuit_seen parts; room = room } ≡ before → e < length before.circuit.elements → HasPath path (element_at before.circuit e).kind → AreTimings (leg_timing_seen t) → IsClosed (circuit_seen parts)
    → AreIndexed parts → timings.items ≡ parts.leg_timings.items ++ t ∷ [] → place ≡ length parts.leg_timings.items
    → paths.items ≡ changed_at (λ (p : code_path.Path). record p { timing = place }) (place_in (slice_index_or parts.elements.items e d).kind path) parts.paths.items
    → IsSet before (grown parts timings paths parts.elements) room (with_kind (with_path path (leg_timing_seen t)) e)
path-set parts timings paths room e path place d t before view l has fine closed h pushed at is =
    let seen = leg_timing_seen t in
    let own = (slice_index_or parts.elements.items e d).kind in
    let le = within-before parts room before e view l in
    let grows = grows-one parts.leg_timings.items timings.items t pushed in
    let new : timings_at timings.items place ≡ seen = ap (λ ts. timings_at ts place) pushed ∙ (ap (timings_at (parts.leg_timings.items ++ t ∷ [])) at ∙ timings-new parts.leg_timings.items t) in
    let stands : place < length timings.items = (let n : length timings.items ≡ length parts.leg_timings.items + 1 = ap length pushed ∙ length-append parts.leg_timings.items (t ∷ []) in omega arith) in
    is-set parts (grown parts timings paths parts.elements) room before (with_path path seen) e view
    (closed-kind (circuit_seen parts) (with_path path seen) e (keeps-path (length parts.nets.items) path seen fine) closed)
    (indexed-path_set parts timings paths (place_in own path) place grows h stands is)
    (elements-path parts timings paths e path place own t grows h (λ c. ap (λ (x : code_element.Element). x.kind) (get_or_default parts.elements.items e c d le)) (path-had parts room e path d before view l has h) le is new)

-- a check's limit is set: the elements stay as they were
pub limit-set : (parts : Parts) (timings : Vec CheckTiming) (check part : ℕ) (value : ℤ) → ((t : CheckTiming) → part < limit_count (slice_index_or parts.check_timings.items check t).kind) → unsigned_abs value < 2 ^ 60
    → IsLight (circuit_seen parts) check value → IsClosed (circuit_seen parts) → AreIndexed parts
    → timings.items ≡ changed_at (with_limit part value) check parts.check_timings.items
    → IsClosed (circuit_seen (record parts { check_timings = timings })) × AreIndexed (record parts { check_timings = timings })
limit-set parts timings check part value own short light closed h is =
    let after = record parts { check_timings = timings } in
    let seen : circuit_seen after ≡ with_check_limit check part value (circuit_seen parts) =
    ap (λ ts. record (circuit_seen parts) { elements = map (element_seen after) parts.elements.items; check_timings = ts }) is
    ∙ ap (λ es. record (with_check_limit check part value (circuit_seen parts)) { elements = es }) (map-same (element_seen parts) (element_seen after) parts.elements.items (λ i d l. same-element parts timings (slice_index_or parts.elements.items i d))) in (
      subst IsClosed (sym seen) (closed-limit (circuit_seen parts) check part value own short light closed),
      record {
        named = All-weaker (λ (x : code_element.Element). IsIndexed parts x.kind) (λ (x : code_element.Element). IsIndexed after x.kind) (λ x. same-indexed parts timings x.kind) parts.elements.items h.named;
        few_udps = h.few_udps;
        counts = h.counts;
        written = h.written;
        apart = h.apart;
      },
    )
  where
    same-kind : (parts : Parts) (timings : Vec CheckTiming) (k : ElementKind) → kind_seen (record parts { check_timings = timings }) k ≡ kind_seen parts k
    same-kind parts timings (kind.Gate gate delays) = refl
    same-kind parts timings (kind.Udp udp delays) = refl
    same-kind parts timings (kind.Pass constant) = refl
    same-kind parts timings (kind.Leg timing) = refl
    same-kind parts timings (kind.Path span style) = refl
    same-kind parts timings (kind.Late delay) = refl

    same-element : (parts : Parts) (timings : Vec CheckTiming) (x : code_element.Element) → element_seen (record parts { check_timings = timings }) x ≡ element_seen parts x
    same-element parts timings x = ap (λ k. record { scope = x.scope; inputs = x.inputs.items; output = x.output; kind = k }) (same-kind parts timings x.kind)

    same-indexed : (parts : Parts) (timings : Vec CheckTiming) (k : ElementKind) → IsIndexed parts k → IsIndexed (record parts { check_timings = timings }) k
    same-indexed parts timings (kind.Gate gate delays) i = i
    same-indexed parts timings (kind.Udp udp delays) i = i
    same-indexed parts timings (kind.Pass constant) i = i
    same-indexed parts timings (kind.Leg timing) i = i
    same-indexed parts timings (kind.Path span style) i = i
    same-indexed parts timings (kind.Late delay) i = i
