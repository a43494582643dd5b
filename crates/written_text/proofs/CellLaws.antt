-- The lines of elements and of timing checks.
use Rattle.std.proofs.Common.{◌≡◌, ℕ, zero, suc, ◌<◌, Bool, true, false, List, [], ◌∷◌, ◌++◌, length, get_or, refl, sym, ◌∙◌, ap, subst, arith, append-nil}
use Rattle.std.specs.Prelude.{◌==◌, All, map, cond, flat_map, Option, Some, None, IfSome, if◌then◌else◌}
use Rattle.std.specs.List.{filter}
use Rattle.std.proofs.lemmas.Bool.{eq-eqb, ne_eqb}
use Rattle.std.proofs.lemmas.List.{get_or-map, length-map}
use Rattle.sg_circuit.specs.declared.checks.Check.{Check}
use Rattle.sg_circuit.specs.declared.checks.CheckConditions as code_conditions
use Rattle.sg_circuit.specs.declared.checks.CheckTiming.{CheckTiming}
use Rattle.sg_circuit.specs.declared.checks.Event.{Event}
use Rattle.sg_circuit.specs.declared.circuits.Parts.{Parts}
use Rattle.sg_circuit.specs.declared.elements.Element as code_element
use Rattle.sg_circuit.specs.declared.elements.ElementKind.{ElementKind}
use Rattle.sg_circuit.specs.declared.elements.ElementKind.TheVariants as kind
use Rattle.sg_circuit.specs.declared.elements.LegTiming.{LegTiming}
use Rattle.sg_circuit.specs.declared.paths.Path as code_path
use Rattle.sg_circuit.specs.Checks.{CheckConditions}
use Rattle.sg_circuit.specs.ChecksSeen.{AreWritten, written_seen}
use Rattle.sg_circuit.specs.Circuit.{element_at}
use Rattle.sg_circuit.specs.Closed.{IsCheckTiming, IsEventOf, NamesNets, IsPathOf as IsNetPath}
use Rattle.sg_circuit.specs.Paths as specify
use Rattle.sg_circuit.specs.PathsSeen.{path_seen, paths_seen, spanned}
use Rattle.sg_circuit.specs.Seen.{circuit_seen, element_seen, kind_seen, IsIndexed}
use Rattle.sg_circuit.proofs.SeenLaws.{all-unmapped}
use Rattle.sg_circuit.specs.TimingsSeen.{leg_timing_seen, timings_at}
use Rattle.annotation_model.specs.Spots.{path_spot, Checked, checked, spots_of}
use Rattle.written_text.specs.declared.pages.Page.{Page}
use Rattle.written_model.specs.declared.parts.Part.TheVariants as part
use Rattle.written_model.specs.Entries.{PathEntry, numbers_of, legs_at, paths_at, checks_at, check_entry, path_rank, check_rank, parts_of}
use Rattle.written_text.specs.Page.{IsPage, IsElementOf, IsPathOf, IsCheckOf, circuit_of, leg_line, path_line, check_line, lines_of_legs, leg_lines, leg_lines_at, has_path_rank, lines_of_paths, path_lines, path_lines_at, ranked_line, path_entry_of, has_check_rank, check_lines, check_lines_at, checked_at, key_of_part, entries_of_check}

-- ---- legs

timings_is : (table : List LegTiming) (t : ℕ) (T : LegTiming) → t < length table → T ≡ get_or table t T → timings_at table t ≡ leg_timing_seen T
timings_is table t T l at = get_or-map (λ x. leg_timing_seen x) table t T [] l ∙ ap (λ x. leg_timing_seen x) (sym at)

pub leg_is : (p : Page) (e : code_element.Element) (t : ℕ) (T : LegTiming) → e.scope ≡ p.scope → e.kind ≡ kind.Leg t → t < length p.parts.now.leg_timings.items → T ≡ get_or p.parts.now.leg_timings.items t T
    → leg_line p (record { net = e.output; numbers = map numbers_of (leg_timing_seen T) }) ≡ leg_lines p e
leg_is p e t T same is l at =
    sym (ap (λ k. flat_map (leg_line p) (flat_map (legs_at p.scope) (spots_of (element_seen p.parts.now (record e { kind = k }))))) is
    ∙ (ap (λ b. flat_map (leg_line p) (cond b (record { net = e.output; numbers = map numbers_of (timings_at p.parts.now.leg_timings.items t) } ∷ []) [] ++ [])) (eq-eqb e.scope p.scope same)
    ∙ (append-nil _ ∙ ap (λ ts. leg_line p (record { net = e.output; numbers = map numbers_of ts })) (timings_is p.parts.now.leg_timings.items t T l at))))

no-legs : (s scope output : ℕ) (ps : List specify.Path) → flat_map (legs_at s) (map (path_spot scope output) ps) ≡ []
no-legs s scope output [] = refl
no-legs s scope output (q ∷ qs) = no-legs s scope output qs

no-leg-kind : (p : Page) (e : code_element.Element) (k : ElementKind) → ((t : ℕ) → k ≡ kind.Leg t → ⊥) → leg_lines p (record e { kind = k }) ≡ []
no-leg-kind p e (kind.Gate gate delays) h = refl
no-leg-kind p e (kind.Udp udp delays) h = refl
no-leg-kind p e (kind.Pass constant) h = refl
no-leg-kind p e (kind.Leg t) h = absurd (h t refl)
no-leg-kind p e (kind.Path paths style) h = ap (λ xs. flat_map (leg_line p) xs) (no-legs p.scope e.scope e.output (paths_seen p.parts.now.conditions.items p.parts.now.leg_timings.items (spanned p.parts.now.paths.items paths)))
no-leg-kind p e (kind.Late delay) h = refl

pub no_leg : (p : Page) (e : code_element.Element) (text : List ℕ) → ((t : ℕ) → e.kind ≡ kind.Leg t → ⊥) → text ≡ text ++ leg_lines p e
no_leg p e text h = sym (ap (λ x. text ++ x) (no-leg-kind p e e.kind h) ∙ append-nil text)

-- ---- paths

ranked-cons : (p : Page) (rank : ℕ) (b : Bool) (x : PathEntry) (xs : List PathEntry) → flat_map (path_line p) (cond b (x ∷ xs) xs) ≡ (if b then path_line p x else []) ++ flat_map (path_line p) xs
ranked-cons p rank true x xs = refl
ranked-cons p rank false x xs = refl

ranked-paths : (p : Page) (rank scope output : ℕ) (ps : List code_path.Path) → scope ≡ p.scope
    → flat_map (path_line p) (filter (has_path_rank rank) (flat_map (paths_at p.scope) (map (path_spot scope output) (paths_seen p.parts.now.conditions.items p.parts.now.leg_timings.items ps)))) ≡ flat_map (ranked_line p rank output) ps
ranked-paths p rank scope output [] same = refl
ranked-paths p rank scope output (q ∷ qs) same =
    let rest = flat_map (paths_at p.scope) (map (path_spot scope output) (paths_seen p.parts.now.conditions.items p.parts.now.leg_timings.items qs)) in
    ap (λ b. flat_map (path_line p) (filter (has_path_rank rank) (cond b (path_entry_of p output q ∷ []) [] ++ rest))) (eq-eqb scope p.scope same)
    ∙ (ranked-cons p rank (has_path_rank rank (path_entry_of p output q)) (path_entry_of p output q) (filter (has_path_rank rank) rest)
    ∙ ap (λ x. ranked_line p rank output q ++ x) (ranked-paths p rank scope output qs same))

pub paths_are : (p : Page) (rank : ℕ) (e : code_element.Element) → e.scope ≡ p.scope → (span : _) (style : _) → e.kind ≡ kind.Path span style → flat_map (ranked_line p rank e.output) (spanned p.parts.now.paths.items span) ≡ path_lines p rank e
paths_are p rank e same span style is =
    sym (ap (λ k. path_lines p rank (record e { kind = k })) is ∙ ranked-paths p rank e.scope e.output (spanned p.parts.now.paths.items span) same)

no-path-kind : (p : Page) (rank : ℕ) (e : code_element.Element) (k : ElementKind) → ((span : _) (style : _) → k ≡ kind.Path span style → ⊥) → path_lines p rank (record e { kind = k }) ≡ []
no-path-kind p rank e (kind.Gate gate delays) h = refl
no-path-kind p rank e (kind.Udp udp delays) h = refl
no-path-kind p rank e (kind.Pass constant) h = refl
no-path-kind p rank e (kind.Leg t) h = refl
no-path-kind p rank e (kind.Path paths style) h = absurd (h paths style refl)
no-path-kind p rank e (kind.Late delay) h = refl

pub no_path : (p : Page) (rank : ℕ) (e : code_element.Element) (text : List ℕ) → ((span : _) (style : _) → e.kind ≡ kind.Path span style → ⊥) → text ≡ text ++ path_lines p rank e
no_path p rank e text h = sym (ap (λ x. text ++ x) (no-path-kind p rank e e.kind h) ∙ append-nil text)

pub paths_added : (p : Page) (rank : ℕ) (e : code_element.Element) (ps : List code_path.Path) (span : _) (style : _) → IsElementOf p e → e.kind ≡ kind.Path span style → ps ≡ spanned p.parts.now.paths.items span
    → flat_map (ranked_line p rank e.output) ps ≡ path_lines p rank e
paths_added p rank e ps span style element is at = ap (flat_map (ranked_line p rank e.output)) at ∙ paths_are p rank e element.scope span style is

pub paths_of_element : (p : Page) (e : code_element.Element) (ps : List code_path.Path) (span : _) (style : _) → IsElementOf p e → e.kind ≡ kind.Path span style → ps ≡ spanned p.parts.now.paths.items span → All (IsPathOf p) ps
paths_of_element p e ps span style element is at =
    let nets = all-unmapped (λ q. IsNetPath (length p.parts.now.nets.items) q) (path_seen p.parts.now.conditions.items p.parts.now.leg_timings.items) (spanned p.parts.now.paths.items span)
    (subst (λ k. NamesNets (length p.parts.now.nets.items) (kind_seen p.parts.now k)) is element.nets) in
    let indexed = subst (λ k. IsIndexed p.parts.now k) is element.indexed in
    subst (λ xs. All (IsPathOf p) xs) (sym at) (λ k d l. record { input = (nets k d l).input; indexed = indexed.each k d l })

pub not_ranked : (p : Page) (rank output : ℕ) (path : code_path.Path) (r : ℕ) (text : List ℕ) → r ≡ path_rank (path_entry_of p output path).key → (r ≡ rank → ⊥) → text ≡ text ++ ranked_line p rank output path
not_ranked p rank output path r text is other =
    sym (ap (λ b. text ++ cond b (path_line p (path_entry_of p output path)) []) (ne_eqb (path_rank (path_entry_of p output path).key) rank (λ e. other (is ∙ e))) ∙ append-nil text)

pub is_ranked : (p : Page) (rank output : ℕ) (path : code_path.Path) (r : ℕ) → r ≡ path_rank (path_entry_of p output path).key → r ≡ rank → path_line p (path_entry_of p output path) ≡ ranked_line p rank output path
is_ranked p rank output path r is same = sym (ap (λ b. cond b (path_line p (path_entry_of p output path)) []) (eq-eqb (path_rank (path_entry_of p output path).key) rank (sym is ∙ same)))

-- ---- elements by their numbers

pub element_is : (parts : Parts) (k : ℕ) (e : code_element.Element) → k < length parts.elements.items → e ≡ get_or parts.elements.items k e → element_seen parts e ≡ element_at (circuit_seen parts) k
element_is parts k e l at = ap (λ x. element_seen parts x) at ∙ sym (get_or-map (element_seen parts) parts.elements.items k e _ l)

pub is_element_of : (p : Page) → IsPage p → (k : ℕ) (e : code_element.Element) → k < length p.parts.now.elements.items → e ≡ get_or p.parts.now.elements.items k e → ((d : code_element.Element) → (get_or p.parts.now.elements.items k d).scope ≡ p.scope) → IsElementOf p e
is_element_of p page k e l at same =
    let long : k < length (circuit_of p).elements = (let n = length-map p.parts.now.elements.items (element_seen p.parts.now) in omega (arith, n, l)) in
    let seen : element_at (circuit_of p) k ≡ element_seen p.parts.now e = sym (element_is p.parts.now k e l at) in record {
      scope = ap (λ x. x.scope) at ∙ same e;
      output = subst (λ x. x.output < length p.parts.now.nets.items) seen (page.closed.outputs k _ long);
      indexed = subst (λ x. IsIndexed p.parts.now x.kind) (sym at) (page.indexed.named k e l);
      nets = subst (λ x. NamesNets (length p.parts.now.nets.items) x.kind) seen (page.closed.paths k _ long);
    }

pub leg_lines_is : (p : Page) (k : ℕ) (e : code_element.Element) → k < length p.parts.now.elements.items → e ≡ get_or p.parts.now.elements.items k e → leg_lines p e ≡ leg_lines_at p k
leg_lines_is p k e l at = ap (lines_of_legs p) (element_is p.parts.now k e l at)

pub path_lines_is : (p : Page) (rank k : ℕ) (e : code_element.Element) → k < length p.parts.now.elements.items → e ≡ get_or p.parts.now.elements.items k e → path_lines p rank e ≡ path_lines_at p rank k
path_lines_is p rank k e l at = ap (lines_of_paths p rank) (element_is p.parts.now k e l at)

-- ---- timing checks

checked-at : (ks : List Check) (ts : List CheckTiming) (ws : List CheckConditions) (i : ℕ) (k : Check) (t : CheckTiming) (w : CheckConditions) (d : Checked) → i < length ks → length ts ≡ length ks → length ws ≡ length ks
    → get_or (checked ks ts ws) i d ≡ record { check = get_or ks i k; timing = get_or ts i t; written = get_or ws i w }
checked-at [] ts ws i k t w d l m n = absurd (omega (arith, l))
checked-at (x ∷ ks) [] ws i k t w d l m n = absurd (omega (arith, m))
checked-at (x ∷ ks) (y ∷ ts) [] i k t w d l m n = absurd (omega (arith, n))
checked-at (x ∷ ks) (y ∷ ts) (z ∷ ws) zero k t w d l m n = refl
checked-at (x ∷ ks) (y ∷ ts) (z ∷ ws) (suc i) k t w d l m n = checked-at ks ts ws i k t w d (omega (arith, l)) (omega (arith, m)) (omega (arith, n))

filter-same : {A : Type 0} (test : A → Bool) (b : Bool) (xs : List A) → ((x : A) → test x ≡ b) → filter test xs ≡ (if b then xs else [])
filter-same test true [] h = refl
filter-same test false [] h = refl
filter-same test true (x ∷ xs) h = ap (λ c. cond c (x ∷ filter test xs) (filter test xs)) (h x) ∙ ap (λ ys. x ∷ ys) (filter-same test true xs h)
filter-same test false (x ∷ xs) h = ap (λ c. cond c (x ∷ filter test xs) (filter test xs)) (h x) ∙ filter-same test false xs h

filter-map : {A B : Type 0} (test : B → Bool) (f : A → B) (b : Bool) (xs : List A) → ((x : A) → test (f x) ≡ b) → filter test (map f xs) ≡ (if b then map f xs else [])
filter-map test f true [] h = refl
filter-map test f false [] h = refl
filter-map test f true (x ∷ xs) h = ap (λ c. cond c (f x ∷ filter test (map f xs)) (filter test (map f xs))) (h x) ∙ ap (λ ys. f x ∷ ys) (filter-map test f true xs h)
filter-map test f false (x ∷ xs) h = ap (λ c. cond c (f x ∷ filter test (map f xs)) (filter test (map f xs))) (h x) ∙ filter-map test f false xs h

flat-if : {A : Type 0} (f : A → List ℕ) (b : Bool) (xs : List A) → flat_map f (if b then xs else []) ≡ (if b then flat_map f xs else [])
flat-if f true xs = refl
flat-if f false xs = refl

pub check_lines_is : (p : Page) (page : IsPage p) (rank i : ℕ) (t : CheckTiming) (w : code_conditions.CheckConditions) → i < length p.parts.now.checks.items → t ≡ get_or p.parts.now.check_timings.items i t → w ≡ get_or p.parts.now.check_conditions.items i w
    → ((k : Check) → (get_or p.parts.now.checks.items i k).scope ≡ p.scope) → check_lines p rank t w ≡ check_lines_at p rank i
check_lines_is p page rank i t w l at_t at_w same =
    let c = circuit_of p in
    let W = written_seen p.parts.now.conditions.items w in
    let few : i < length p.parts.now.check_conditions.items = (let n = page.closed.conditions_of_each in let m = length-map p.parts.now.check_conditions.items (written_seen p.parts.now.conditions.items) in omega (arith, n, m, l)) in
    let k : Check = get_or p.parts.now.checks.items i (checked_at c i).check in
    let seen : checked_at c i ≡ record { check = k; timing = t; written = W } =
    checked-at c.checks c.check_timings c.check_conditions i (checked_at c i).check t W _ l page.closed.timing_of_each page.closed.conditions_of_each
    ∙ (ap {B = Checked} (λ x. record { check = k; timing = x; written = get_or c.check_conditions i W }) (sym at_t)
    ∙ ap {B = Checked} (λ x. record { check = k; timing = t; written = x }) (get_or-map (written_seen p.parts.now.conditions.items) p.parts.now.check_conditions.items i w W few ∙ ap (written_seen p.parts.now.conditions.items) (sym at_w))) in
    let K : Checked = record { check = k; timing = t; written = W } in
    sym (ap (λ x. flat_map (check_line p) (filter (has_check_rank rank) (checks_at p.scope x))) seen
    ∙ (ap (λ b. flat_map (check_line p) (filter (has_check_rank rank) (cond b (map (check_entry K) (parts_of t.kind t.limits)) []))) (eq-eqb k.scope p.scope (same _))
    ∙ (ap (flat_map (check_line p)) (filter-map (has_check_rank rank) (check_entry K) (check_rank (key_of_part p t w part.Setup) == rank) (parts_of t.kind t.limits) (λ x. refl))
    ∙ flat-if (check_line p) (check_rank (key_of_part p t w part.Setup) == rank) (map (check_entry K) (parts_of t.kind t.limits)))))

pub is_check_of : (p : Page) (page : IsPage p) (i : ℕ) (t : CheckTiming) (w : code_conditions.CheckConditions) → i < length p.parts.now.checks.items → t ≡ get_or p.parts.now.check_timings.items i t → w ≡ get_or p.parts.now.check_conditions.items i w → IsCheckOf p t w
is_check_of p page i t w l at_t at_w =
    let few : i < length p.parts.now.check_timings.items = (let n = page.closed.timing_of_each in omega (arith, n, l)) in
    let many : i < length p.parts.now.check_conditions.items = (let n = page.closed.conditions_of_each in let m = length-map p.parts.now.check_conditions.items (written_seen p.parts.now.conditions.items) in omega (arith, n, m, l)) in
    let good : IsCheckTiming (length p.parts.now.nets.items) t = subst (λ x. IsCheckTiming (length p.parts.now.nets.items) x) (sym at_t) (page.closed.check_timings i t few) in record {
      refer = good.refer.net;
      datum = datum t.datum good.datum;
      written = subst (λ x. AreWritten (length p.parts.now.conditions.items) x) (sym at_w) (page.indexed.written i w many);
    }
  where
    datum : (o : Option Event) → IfSome o (λ e. IsEventOf (length p.parts.now.nets.items) e) → IfSome o (λ e. e.net < length p.parts.now.nets.items)
    datum None h = tt
    datum (Some e) h = h.net

pub not_check_rank : (p : Page) (rank : ℕ) (t : CheckTiming) (w : code_conditions.CheckConditions) (r : ℕ) (text : List ℕ) → r ≡ check_rank (key_of_part p t w part.Setup) → (r ≡ rank → ⊥) → text ≡ text ++ check_lines p rank t w
not_check_rank p rank t w r text is other =
    sym (ap (λ b. text ++ cond b (flat_map (check_line p) (entries_of_check p t w)) []) (ne_eqb (check_rank (key_of_part p t w part.Setup)) rank (λ e. other (is ∙ e))) ∙ append-nil text)

pub is_check_rank : (p : Page) (rank : ℕ) (t : CheckTiming) (w : code_conditions.CheckConditions) (r : ℕ) → r ≡ check_rank (key_of_part p t w part.Setup) → r ≡ rank → flat_map (check_line p) (entries_of_check p t w) ≡ check_lines p rank t w
is_check_rank p rank t w r is same = sym (ap (λ b. cond b (flat_map (check_line p) (entries_of_check p t w)) []) (eq-eqb (check_rank (key_of_part p t w part.Setup)) rank (sym is ∙ same)))
