-- The lines of a scope, from the elements and the timing checks that it has.
use Rattle.std.proofs.Common.{◌≡◌, ℕ, ◌+◌, ◌<◌, ◌≤◌, Bool, true, false, List, [], ◌∷◌, ◌++◌, length, get_or, refl, sym, ◌∙◌, ap, subst, arith, append-nil}
use Rattle.std.specs.Prelude.{◌==◌, ◌&&◌, All, map, cond, flat_map, Option, Some, None, Result, OnOk, codes}
use Rattle.std.specs.List.{filter}
use Rattle.std.proofs.lemmas.Bool.{eqb-true, ne_eqb}
use Rattle.std.proofs.lemmas.Grind.{flat_map-append}
use Rattle.std.proofs.lemmas.List.{get_or_default, length-map}
use Rattle.std.proofs.lemmas.List.Elements.{filter-append}
use Rattle.std.proofs.lemmas.List.Folds.{flat_map-map}
use Rattle.late_limits.specs.Grouping.{element_scope, pins_by}
use Rattle.sg_circuit.specs.declared.checks.Check.{Check}
use Rattle.sg_circuit.specs.declared.checks.CheckTiming.{CheckTiming}
use Rattle.sg_circuit.specs.declared.circuits.Parts.{Parts}
use Rattle.sg_circuit.specs.declared.elements.Element as code_element
use Rattle.sg_circuit.specs.declared.elements.ElementKind.{ElementKind}
use Rattle.sg_circuit.specs.declared.elements.ElementKind.TheVariants as kind
use Rattle.sg_circuit.specs.declared.scopes.Scope as code_scope
use Rattle.sg_circuit.specs.declared.scopes.Variable as code_variable
use Rattle.sg_circuit.specs.Checks.{CheckConditions}
use Rattle.sg_circuit.specs.Circuit.{Element, Scope, Variable, scope_at}
use Rattle.sg_circuit.specs.Closed.{IsClosed}
use Rattle.sg_circuit.specs.FanOut.{readers_at}
use Rattle.sg_circuit.specs.Paths as specify
use Rattle.sg_circuit.specs.PathsSeen.{paths_seen, spanned}
use Rattle.sg_circuit.specs.Pins.{elements_on}
use Rattle.sg_circuit.specs.Seen.{circuit_seen, element_seen, scope_seen, variable_seen}
use Rattle.sg_circuit.proofs.SeenLaws.{all-unmapped}
use Rattle.sg_circuit.specs.TimingsSeen.{timings_at}
use Rattle.annotation_model.specs.Finding.{no_check}
use Rattle.annotation_model.specs.Spots.{path_spot, Checked, checked, all_checked, spots_of}
use Rattle.sdf_tree.specs.Written.{PathCondition, always, otherwise, if_words}
use Rattle.written_entries.specs.declared.groups.Groups.{Groups}
use Rattle.written_entries.specs.Groups.{AreGroups, any_check, check_scope, is_delayed, is_delayed_kind}
use Rattle.written_entries.proofs.GroupLaws.{gathered_all}
use Rattle.written_entries.proofs.NumberLaws.{element_numbers, check_numbers}
use Rattle.written_model.specs.Entries.{PathEntry, PathKey, legs, legs_at, numbers_of, path_key, paths_at, path_entries, path_rank, one_if, condition_rank, checks_at, check_entry, check_entries, parts_of}
use Rattle.written_model.specs.Text.{delay_lines, check_lines, parts_text, cell_line, cell_text, enclosed, line}
use Rattle.written_text.specs.declared.pages.Page.{Page}
use Rattle.written_text.specs.Page.{circuit_of, leg_line, path_line, check_line, lines_of_legs, leg_lines, leg_lines_at, has_path_rank, lines_of_paths, path_lines, path_lines_at, has_check_rank, check_lines_at, delay_lines_of, check_lines_of, parts_text_of}
use Rattle.written_text.proofs.CellLaws.{leg_lines_is, path_lines_is}
use Rattle.written_text.proofs.PageLaws.{scope_is}

-- ---- flat_map of flat_map, of filter, and of what is the same at each item

flat-flat : {A B C : Type 0} (g : B → List C) (f : A → List B) (xs : List A) → flat_map g (flat_map f xs) ≡ flat_map (λ x. flat_map g (f x)) xs
flat-flat g f [] = refl
flat-flat g f (x ∷ xs) = flat_map-append g (f x) (flat_map f xs) ∙ ap (λ ys. flat_map g (f x) ++ ys) (flat-flat g f xs)

flat-same : {A B : Type 0} (f g : A → List B) (xs : List A) → ((x : A) → f x ≡ g x) → flat_map f xs ≡ flat_map g xs
flat-same f g [] h = refl
flat-same f g (x ∷ xs) h = ap (λ y. y ++ flat_map f xs) (h x) ∙ ap (λ ys. g x ++ ys) (flat-same f g xs h)

filter-flat : {A B : Type 0} (test : B → Bool) (f : A → List B) (xs : List A) → filter test (flat_map f xs) ≡ flat_map (λ x. filter test (f x)) xs
filter-flat test f [] = refl
filter-flat test f (x ∷ xs) = filter-append test (f x) (flat_map f xs) ∙ ap (λ ys. filter test (f x) ++ ys) (filter-flat test f xs)

filter-none : {A : Type 0} (test : A → Bool) (xs : List A) → ((x : A) → test x ≡ false) → filter test xs ≡ []
filter-none test [] h = refl
filter-none test (x ∷ xs) h = ap (λ c. cond c (x ∷ filter test xs) (filter test xs)) (h x) ∙ filter-none test xs h

-- a fourth and a fifth that are empty
last-empty : (a b c d e a' b' c' : List ℕ) → a ≡ a' → b ≡ b' → c ≡ c' → d ≡ [] → e ≡ [] → a ++ (b ++ (c ++ (d ++ (e ++ [])))) ≡ a' ++ (b' ++ (c' ++ []))
last-empty a b c d e a' b' c' p q r s t =
    ap (λ x. x ++ (b ++ (c ++ (d ++ (e ++ []))))) p ∙ (ap (λ x. a' ++ (x ++ (c ++ (d ++ (e ++ []))))) q ∙ (ap (λ x. a' ++ (b' ++ (x ++ (d ++ (e ++ []))))) r
    ∙ (ap (λ x. a' ++ (b' ++ (c' ++ (x ++ (e ++ []))))) s ∙ ap (λ x. a' ++ (b' ++ (c' ++ (x ++ [])))) t)))

-- ---- elements that have no lines

no-paths-there : (s scope output : ℕ) (ps : List specify.Path) → (scope == s) ≡ false → flat_map (paths_at s) (map (path_spot scope output) ps) ≡ []
no-paths-there s scope output [] e = refl
no-paths-there s scope output (q ∷ qs) e = ap (λ b. cond b (record { key = path_key output q; numbers = map numbers_of q.timings } ∷ []) [] ++ flat_map (paths_at s) (map (path_spot scope output) qs)) e ∙ no-paths-there s scope output qs e

no-legs-there : (s scope output : ℕ) (ps : List specify.Path) → flat_map (legs_at s) (map (path_spot scope output) ps) ≡ []
no-legs-there s scope output [] = refl
no-legs-there s scope output (q ∷ qs) = no-legs-there s scope output qs

and-true : (b : Bool) → (b && true) ≡ false → b ≡ false
and-true true e = e
and-true false e = e

module _ (p : Page) (e : code_element.Element) where
  no-legs-kind : (k : ElementKind) → ((e.scope == p.scope) && is_delayed_kind k) ≡ false → leg_lines p (record e { kind = k }) ≡ []
  no-legs-kind (kind.Gate gate delays) h = refl
  no-legs-kind (kind.Udp udp delays) h = refl
  no-legs-kind (kind.Pass constant) h = refl
  no-legs-kind (kind.Leg t) h = ap (λ b. flat_map (leg_line p) (cond b (record { net = e.output; numbers = map numbers_of (timings_at p.parts.now.leg_timings.items t) } ∷ []) [] ++ [])) (and-true (e.scope == p.scope) h)
  no-legs-kind (kind.Path paths style) h =
      ap (λ xs. flat_map (leg_line p) xs) (no-legs-there p.scope e.scope e.output (paths_seen p.parts.now.conditions.items p.parts.now.leg_timings.items (spanned p.parts.now.paths.items paths)))
  no-legs-kind (kind.Late delay) h = refl

  no-paths-kind : (rank : ℕ) (k : ElementKind) → ((e.scope == p.scope) && is_delayed_kind k) ≡ false → path_lines p rank (record e { kind = k }) ≡ []
  no-paths-kind rank (kind.Gate gate delays) h = refl
  no-paths-kind rank (kind.Udp udp delays) h = refl
  no-paths-kind rank (kind.Pass constant) h = refl
  no-paths-kind rank (kind.Leg t) h = refl
  no-paths-kind rank (kind.Path paths style) h =
      ap (λ xs. flat_map (path_line p) (filter (has_path_rank rank) xs))
      (no-paths-there p.scope e.scope e.output (paths_seen p.parts.now.conditions.items p.parts.now.leg_timings.items (spanned p.parts.now.paths.items paths)) (and-true (e.scope == p.scope) h))
  no-paths-kind rank (kind.Late delay) h = refl

-- ---- ranks

one-most : {A : Type 0} (o : Option A) → one_if o ≤ 1
one-most None = omega arith
one-most (Some a) = omega arith

condition-most : (k : PathCondition) → condition_rank k ≤ 1
condition-most always = omega arith
condition-most (if_words words) = omega arith
condition-most otherwise = omega arith

none-ranks : (k : PathKey) (rank : ℕ) → 2 < rank → (path_rank k == rank) ≡ false
none-ranks k rank l = ne_eqb (path_rank k) rank (λ e. (let m = one-most k.edge in let n = condition-most k.condition in omega (arith, m, n, l, e)))

-- ---- the lines of all elements

module _ (p : Page) (g : Groups) (groups : AreGroups p.parts.now g) (within : p.scope < length p.parts.now.scopes.items) where
  leg-lines-are : flat_map (leg_lines_at p) (readers_at g.elements p.scope) ≡ flat_map (leg_line p) (legs (circuit_of p) p.scope)
  leg-lines-are =
      let es = (circuit_of p).elements in
      let items = p.parts.now.elements.items in
      ap (flat_map (leg_lines_at p)) (element_numbers p.parts.now g groups p.scope within)
      ∙ (gathered_all element_scope is_delayed p.scope (leg_lines_at p) (leg_lines p) items (λ i x l at. sym (leg_lines_is p i x l at)) (λ x h. no-legs-kind p x x.kind h)
      ∙ (sym (flat_map-map (lines_of_legs p) (element_seen p.parts.now) items)
      ∙ sym (ap (flat_map (leg_line p)) (flat-flat (legs_at p.scope) spots_of es) ∙ flat-flat (leg_line p) (λ (e : Element). flat_map (legs_at p.scope) (spots_of e)) es)))

  path-lines-are : (rank : ℕ) → flat_map (path_lines_at p rank) (readers_at g.elements p.scope) ≡ flat_map (path_line p) (filter (has_path_rank rank) (path_entries (circuit_of p) p.scope))
  path-lines-are rank =
      let es = (circuit_of p).elements in
      let items = p.parts.now.elements.items in
      let of : Element → List PathEntry = λ e. flat_map (paths_at p.scope) (spots_of e) in
      ap (flat_map (path_lines_at p rank)) (element_numbers p.parts.now g groups p.scope within)
      ∙ (gathered_all element_scope is_delayed p.scope (path_lines_at p rank) (path_lines p rank) items (λ i x l at. sym (path_lines_is p rank i x l at)) (λ x h. no-paths-kind p x rank x.kind h)
      ∙ (sym (flat_map-map (lines_of_paths p rank) (element_seen p.parts.now) items)
      ∙ sym (ap (λ xs. flat_map (path_line p) (filter (has_path_rank rank) xs)) (flat-flat (paths_at p.scope) spots_of es)
      ∙ (ap (flat_map (path_line p)) (filter-flat (has_path_rank rank) of es) ∙ flat-flat (path_line p) (λ (e : Element). filter (has_path_rank rank) (of e)) es))))

  no-lines : (rank : ℕ) → 2 < rank → flat_map (path_line p) (filter (has_path_rank rank) (path_entries (circuit_of p) p.scope)) ≡ []
  no-lines rank l = ap (flat_map (path_line p)) (filter-none (has_path_rank rank) (path_entries (circuit_of p) p.scope) (λ e. none-ranks e.key rank l))

  delay-lines-are : delay_lines_of p (readers_at g.elements p.scope) ≡ delay_lines (circuit_of p) p.scope
  delay-lines-are =
      let es = path_entries (circuit_of p) p.scope in
      let F : ℕ → List ℕ = λ rank. flat_map (path_line p) (filter (has_path_rank rank) es) in
      let G : ℕ → List ℕ = λ rank. flat_map (path_lines_at p rank) (readers_at g.elements p.scope) in
      ap (λ x. x ++ flat_map G (0 ∷ 1 ∷ 2 ∷ [])) leg-lines-are
      ∙ ap (λ x. flat_map (leg_line p) (legs (circuit_of p) p.scope) ++ x)
      (sym (flat-flat (path_line p) (λ rank. filter (has_path_rank rank) es) (0 ∷ 1 ∷ 2 ∷ 3 ∷ 4 ∷ [])
      ∙ last-empty (F 0) (F 1) (F 2) (F 3) (F 4) (G 0) (G 1) (G 2) (sym (path-lines-are 0)) (sym (path-lines-are 1)) (sym (path-lines-are 2)) (no-lines 3 (omega arith)) (no-lines 4 (omega arith))))

-- ---- the lines of all timing checks

pins-checked : (n : ℕ) (ks : List Check) (ts : List CheckTiming) (ws : List CheckConditions) → length ts ≡ length ks → length ws ≡ length ks
    → pins_by check_scope any_check n ks ≡ pins_by (λ (w : Checked). w.check.scope) (λ (w : Checked). true) n (checked ks ts ws)
pins-checked n [] ts ws l m = refl
pins-checked n (k ∷ ks) [] ws l m = absurd (omega (arith, l))
pins-checked n (k ∷ ks) (t ∷ ts) [] l m = absurd (omega (arith, m))
pins-checked n (k ∷ ks) (t ∷ ts) (w ∷ ws) l m = ap (λ ps. record { net = k.scope; element = n } ∷ ps) (pins-checked (n + 1) ks ts ws (omega (arith, l)) (omega (arith, m)))

module _ (p : Page) (closed : IsClosed (circuit_of p)) (g : Groups) (groups : AreGroups p.parts.now g) (within : p.scope < length p.parts.now.scopes.items) where
  check-lines-are : (rank : ℕ) → flat_map (check_lines_at p rank) (readers_at g.checks p.scope) ≡ flat_map (check_line p) (filter (has_check_rank rank) (check_entries (circuit_of p) p.scope))
  check-lines-are rank =
      let c = circuit_of p in
      let ks = all_checked c in
      let F : Checked → List ℕ = λ w. flat_map (check_line p) (filter (has_check_rank rank) (checks_at p.scope w)) in
      ap (flat_map (check_lines_at p rank)) (check_numbers p.parts.now g groups p.scope within ∙ ap (elements_on p.scope) (pins-checked 0 c.checks c.check_timings c.check_conditions closed.timing_of_each closed.conditions_of_each))
      ∙ (gathered_all (λ (w : Checked). w.check.scope) (λ (w : Checked). true) p.scope (check_lines_at p rank) F ks (λ i x l at. ap F (get_or_default ks i no_check x l ∙ sym at))
      (λ x h. ap (λ b. flat_map (check_line p) (filter (has_check_rank rank) (cond b (map (check_entry x) (parts_of x.timing.kind x.timing.limits)) []))) (and-true (x.check.scope == p.scope) h))
      ∙ sym (ap (flat_map (check_line p)) (filter-flat (has_check_rank rank) (checks_at p.scope) ks) ∙ flat-flat (check_line p) (λ w. filter (has_check_rank rank) (checks_at p.scope w)) ks))

  all-check-lines-are : check_lines_of p (readers_at g.checks p.scope) ≡ check_lines (circuit_of p) p.scope
  all-check-lines-are =
      let es = check_entries (circuit_of p) p.scope in
      let ranks = 0 ∷ 1 ∷ 2 ∷ 3 ∷ 4 ∷ [] in
      flat-same (λ rank. flat_map (check_lines_at p rank) (readers_at g.checks p.scope)) (λ rank. flat_map (check_line p) (filter (has_check_rank rank) es)) ranks check-lines-are
      ∙ sym (flat-flat (check_line p) (λ rank. filter (has_check_rank rank) es) ranks)

  -- what is written of the numbers of a scope is what is meant
  pub parts_text_is : parts_text_of p (readers_at g.elements p.scope) (readers_at g.checks p.scope) ≡ parts_text (circuit_of p) p.scope
  parts_text_is = both (line (codes "(DELAY (ABSOLUTE")) (line (codes "))")) (line (codes "(TIMINGCHECK")) (line (codes ")")) _ _ _ _ (delay-lines-are p g groups within) all-check-lines-are
    where
      both : (a b c d x x' y y' : List ℕ) → x ≡ x' → y ≡ y' → enclosed a b x ++ enclosed c d y ≡ enclosed a b x' ++ enclosed c d y'
      both a b c d x x' y y' e f = ap (λ z. enclosed a b z ++ enclosed c d y) e ∙ ap (λ z. enclosed a b x' ++ enclosed c d z) f

-- ---- the cell of a scope

module _ (parts : Parts) (closed : IsClosed (circuit_seen parts)) (g : Groups) (groups : AreGroups parts g) (s : ℕ) (within : s < length parts.scopes.items) where
  abbrev pub page : Page
  page = record { parts = record { ref_ptr = (0, 0); now = parts }; scope = s; places = record { ref_ptr = (0, 0); now = [] } }

  text-is : (elements checks : List ℕ) → elements ≡ readers_at g.elements s → checks ≡ readers_at g.checks s → parts_text_of page elements checks ≡ parts_text (circuit_seen parts) s
  text-is elements checks e f =
      ap (λ xs. parts_text_of page xs checks) e ∙ (ap (λ xs. parts_text_of page (readers_at g.elements s) xs) f ∙ parts_text_is page closed g groups within)

  pub cell_added : {E : Type 0} (r : Result Unit E) (text elements checks new : List ℕ) → elements ≡ readers_at g.elements s → checks ≡ readers_at g.checks s
      → OnOk r (new ≡ text ++ enclosed (cell_line (circuit_seen parts) s) (line (codes ")")) (parts_text_of page elements checks)) → OnOk r (new ≡ text ++ cell_text (circuit_seen parts) s)
  cell_added r text elements checks new e f h = subst (λ t. OnOk r (new ≡ text ++ enclosed (cell_line (circuit_seen parts) s) (line (codes ")")) t)) (text-is elements checks e f) h

  -- a scope without elements and timing checks has none
  pub no_cell : (elements checks text : List ℕ) → elements ≡ readers_at g.elements s → checks ≡ readers_at g.checks s → (length elements == 0) ≡ true → (length checks == 0) ≡ true → text ≡ text ++ cell_text (circuit_seen parts) s
  no_cell elements checks text e f none none' =
      sym (ap (λ t. text ++ enclosed (cell_line (circuit_seen parts) s) (line (codes ")")) t) (sym (text-is [] [] (sym (length-zero elements none) ∙ e) (sym (length-zero checks none') ∙ f))) ∙ append-nil text)
    where
      length-zero : (xs : List ℕ) → (length xs == 0) ≡ true → xs ≡ []
      length-zero [] h = refl
      length-zero (x ∷ xs) h = absurd (let e : length (x ∷ xs) ≡ 0 = eqb-true (length (x ∷ xs)) 0 h in omega (arith, e))

-- the nets of a scope's variables are nets of the circuit
pub bits_within : (parts : Parts) → IsClosed (circuit_seen parts) → (s : ℕ) (S : code_scope.Scope) (vs : List code_variable.Variable) (nets : ℕ) → s < length parts.scopes.items → S ≡ get_or parts.scopes.items s S → vs ≡ S.variables.items → nets ≡ length parts.nets.items
    → All (λ v. All (λ n. n < nets) v.bits.items) vs
bits_within parts closed s S vs nets within at same many =
    let long : s < length (circuit_seen parts).scopes = (let n = length-map parts.scopes.items (λ x. scope_seen x) in omega (arith, n, within)) in
    let seen : scope_at (circuit_seen parts) s ≡ scope_seen S = scope_is parts s S within at in
    let all : All (λ (v : Variable). All (λ n. n < length parts.nets.items) v.bits) (map (λ v. variable_seen v) S.variables.items) =
    subst (λ (x : Scope). All (λ v. All (λ n. n < length parts.nets.items) v.bits) x.variables) seen (closed.bits s _ long) in
    subst (λ xs. All (λ v. All (λ n. n < nets) v.bits.items) xs) (sym same) (subst (λ m. All (λ v. All (λ n. n < m) v.bits.items) S.variables.items) (sym many) (all-unmapped (λ (v : Variable). All (λ n. n < length parts.nets.items) v.bits) (λ v. variable_seen v) S.variables.items all))
