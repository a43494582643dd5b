-- What elements mean stays as more conditions come behind those of paths.
use Rattle.std.specs.Prelude.{◌≡◌, ℕ, ◌<◌, List, [], ◌∷◌, ◌++◌, length, map, slice_index_or, refl}
use Rattle.std.specs.List.{AllByRecursion}
use Rattle.std.proofs.Common.{◌∙◌, ap, arith, length-append}
use Rattle.std.proofs.lemmas.List.{length-map, map-append, get_or_append_left}
use Rattle.std.proofs.lemmas.List.Elements.{All-weaker, recursion_from_All}
use Rattle.cond_expr.specs.Condition.{Condition}
use Rattle.sg_circuit.specs.Circuit.{Path}
use Rattle.sg_circuit.specs.TimingsSeen.{timings_at}
use Rattle.sg_circuit.specs.PathsSeen.{written_at, condition_seen, path_seen, paths_seen, spanned, IsIndexedCondition, IsIndexedPath}
use Rattle.sg_circuit.specs.Paths as circuit
use Rattle.sg_circuit.specs.declared.elements.Element as code
use Rattle.sg_circuit.specs.declared.elements.ElementKind.{ElementKind}
use Rattle.sg_circuit.specs.declared.elements.ElementKind.TheVariants as kind
use Rattle.sg_circuit.specs.declared.elements.LegTiming.{LegTiming}
use Rattle.sg_circuit.specs.declared.paths.Path as code_path
use Rattle.sg_circuit.specs.declared.paths.PathCondition as code_condition
use Rattle.sg_circuit.specs.declared.paths.PathCondition.TheVariants as code_kind
use Rattle.elab_checks.specs.AllPaths.{Tables, kind_with, element_with, NamesTables}

-- ---- conditions by their places

written-longer : (old more : List Condition) (w : ℕ) → w < length old → written_at (old ++ more) w ≡ written_at old w
written-longer old more w lt =
    ap (λ ts. slice_index_or ts w []) (map-append (λ c. c.tokens) old more)
    ∙ get_or_append_left (map (λ c. c.tokens) old) (map (λ c. c.tokens) more) [] w (let l = length-map old (λ c. c.tokens) in omega (arith, l, lt))

condition-longer : (old more : List Condition) (c : code_condition.PathCondition) → IsIndexedCondition (length old) c → condition_seen (old ++ more) c ≡ condition_seen old c
condition-longer old more code_kind.Always h = refl
condition-longer old more (code_kind.If w bound) h = ap (λ ts. circuit.If ts bound) (written-longer old more w h)
condition-longer old more code_kind.IfNone h = refl

paths-longer : (old more : List Condition) (timings : List LegTiming) (ps : List code_path.Path) → AllByRecursion (IsIndexedPath (length old) (length timings)) ps
    → paths_seen (old ++ more) timings ps ≡ paths_seen old timings ps
paths-longer old more timings [] h = refl
paths-longer old more timings (p ∷ ps) h =
    ap (λ c. record { input = p.input; edge = p.edge; condition = c; timings = timings_at timings p.timing } ∷ paths_seen (old ++ more) timings ps) (condition-longer old more p.condition h.0.condition)
    ∙ ap (λ qs. path_seen old timings p ∷ qs) (paths-longer old more timings ps h.1)

-- ---- elements

abbrev pub with_more : Tables → List Condition → Tables
with_more t more = record { gate_delays = t.gate_delays; udps = t.udps; timings = t.timings; conditions = t.conditions ++ more; paths = t.paths }

kind-longer : (t : Tables) (more : List Condition) (k : ElementKind) → NamesTables t k → kind_with (with_more t more) k ≡ kind_with t k
kind-longer t more (kind.Gate g d) h = refl
kind-longer t more (kind.Udp u d) h = refl
kind-longer t more (kind.Pass v) h = refl
kind-longer t more (kind.Leg i) h = refl
kind-longer t more (kind.Late d) h = refl
kind-longer t more (kind.Path span style) h =
    ap (λ ps. Path ps style) (paths-longer t.conditions more t.timings (spanned t.paths span) (recursion_from_All (IsIndexedPath (length t.conditions) (length t.timings)) (spanned t.paths span) h.each))

pub elements-longer : (t : Tables) (more : List Condition) (es : List code.Element) → AllByRecursion (λ e. NamesTables t e.kind) es → map (element_with (with_more t more)) es ≡ map (element_with t) es
elements-longer t more [] h = refl
elements-longer t more (e ∷ es) h =
    ap (λ k. record { scope = e.scope; inputs = e.inputs.items; output = e.output; kind = k } ∷ map (element_with (with_more t more)) es) (kind-longer t more e.kind h.0)
    ∙ ap (λ xs. element_with t e ∷ xs) (elements-longer t more es h.1)

-- ---- what they name

condition-indexed : (old more : List Condition) (c : code_condition.PathCondition) → IsIndexedCondition (length old) c → IsIndexedCondition (length (old ++ more)) c
condition-indexed old more code_kind.Always h = tt
condition-indexed old more (code_kind.If w bound) h = let l = length-append old more in omega (arith, l, h)
condition-indexed old more code_kind.IfNone h = tt

names-longer : (t : Tables) (more : List Condition) (k : ElementKind) → NamesTables t k → NamesTables (with_more t more) k
names-longer t more (kind.Gate g d) h = h
names-longer t more (kind.Udp u d) h = h
names-longer t more (kind.Pass v) h = tt
names-longer t more (kind.Leg i) h = h
names-longer t more (kind.Late d) h = tt
names-longer t more (kind.Path span style) h = record {
  ordered = h.ordered;
  within = h.within;
  each = All-weaker (IsIndexedPath (length t.conditions) (length t.timings)) (IsIndexedPath (length (t.conditions ++ more)) (length t.timings))
      (λ p i. record { condition = condition-indexed t.conditions more p.condition i.condition; timing = i.timing }) (spanned t.paths span) h.each;
}

pub named-longer : (t : Tables) (more : List Condition) (es : List code.Element) → AllByRecursion (λ e. NamesTables t e.kind) es → AllByRecursion (λ e. NamesTables (with_more t more) e.kind) es
named-longer t more [] h = tt
named-longer t more (e ∷ es) h = (names-longer t more e.kind h.0, named-longer t more es h.1)
