-- The pairs that are read of the elements of a scope differ where its specify paths disagree.
use Rattle.std.proofs.Common.{◌≡◌, refl, sym, ◌∙◌, ap, subst, ℕ, ◌<◌, Bool, true, false, List, [], ◌∷◌, ◌++◌, length, map, slice_index_or}
use Rattle.std.specs.Prelude.{◌==◌, ◌&&◌, ◌↔◌, All, IsTrue, cond, flat_map, if◌then◌else◌}
use Rattle.std.proofs.lemmas.Bool.{eq-eqb}
use Rattle.std.proofs.lemmas.List.Elements.{All-map, All-nil}
use Rattle.std.proofs.lemmas.List.Folds.{flat_map-map}
use Rattle.late_limits.specs.Grouping.{element_scope, pins_by}
use Rattle.sg_circuit.specs.declared.circuits.Parts.{Parts}
use Rattle.sg_circuit.specs.declared.elements.Element as code_element
use Rattle.sg_circuit.specs.declared.elements.ElementKind.{ElementKind}
use Rattle.sg_circuit.specs.declared.elements.ElementKind.TheVariants as kind
use Rattle.sg_circuit.specs.declared.paths.Path as code_path
use Rattle.sg_circuit.specs.Circuit.{Element}
use Rattle.sg_circuit.specs.FanOut.{readers_at}
use Rattle.sg_circuit.specs.PathsSeen.{path_seen, paths_seen, spanned, IsIndexedPath}
use Rattle.sg_circuit.specs.Pins.{elements_on}
use Rattle.sg_circuit.specs.Seen.{circuit_seen, element_seen, kind_seen, AreIndexed, IsIndexed}
use Rattle.annotation_model.specs.Spots.{path_spot, spots_in, spots_of}
use Rattle.written_entries.specs.declared.groups.Groups.{Groups}
use Rattle.written_entries.specs.Groups.{AreGroups, is_delayed, is_delayed_kind}
use Rattle.written_entries.proofs.NumberLaws.{element_numbers}
use Rattle.written_model.specs.Entries.{PathEntry, Numbers, path_key, paths_at, path_entries}
use Rattle.written_model.specs.Faults.{Disagree}
use Rattle.written_faults.specs.Ambiguities.{numbers_at, path_pair, path_pairs, kind_pairs, element_pairs, pairs_of_elements}
use Rattle.written_faults.specs.Classes.{AreClasses}
use Rattle.written_faults.specs.Keys.{PathCode}
use Rattle.written_faults.specs.Reading.{Differ}
use Rattle.written_faults.proofs.AlikeLaws.{path_keys, path_codes}
use Rattle.written_faults.proofs.GatherLaws.{all-flat, flat-flat, flat-same, flat-mapped, gathered_items}
use Rattle.written_faults.proofs.DisagreeLaws.{differ-alike}

module _ (parts : Parts) (classes : List ℕ) (s : ℕ) where
  abbrev Step : Type 0
  Step = ℕ × code_path.Path

  abbrev paths_of_kind : ElementKind → List code_path.Path
  paths_of_kind (kind.Path paths style) = spanned parts.paths.items paths
  paths_of_kind _ = []

  abbrev step : ℕ → code_path.Path → Step
  step output p = (output, p)

  abbrev steps : Bool → ℕ → ElementKind → List Step
  steps there output k = if there then map (step output) (paths_of_kind k) else []

  abbrev steps_of : code_element.Element → List Step
  steps_of e = steps (e.scope == s) e.output e.kind

  abbrev all_steps : List Step
  all_steps = flat_map steps_of parts.elements.items

  abbrev step_pair : Step → PathCode × List Numbers
  step_pair x = path_pair parts.leg_timings.items classes x.0 x.1

  abbrev step_entry : Step → PathEntry
  step_entry x = record { key = path_key x.0 (path_seen parts.conditions.items parts.leg_timings.items x.1); numbers = numbers_at parts.leg_timings.items x.1.timing }

  -- the pairs of its elements are those of its paths
  pairs-of-steps : (output : ℕ) (ps : List code_path.Path) → path_pairs parts.leg_timings.items classes output ps ≡ map step_pair (map (step output) ps)
  pairs-of-steps output [] = refl
  pairs-of-steps output (p ∷ ps) = ap (λ qs. path_pair parts.leg_timings.items classes output p ∷ qs) (pairs-of-steps output ps)

  pairs-of-kind : (output : ℕ) (k : ElementKind) → kind_pairs parts classes output k ≡ map step_pair (steps true output k)
  pairs-of-kind output (kind.Gate gate delays) = refl
  pairs-of-kind output (kind.Udp udp delays) = refl
  pairs-of-kind output (kind.Pass constant) = refl
  pairs-of-kind output (kind.Leg timing) = refl
  pairs-of-kind output (kind.Path paths style) = pairs-of-steps output (spanned parts.paths.items paths)
  pairs-of-kind output (kind.Late delay) = refl

  no-steps : (there : Bool) (output : ℕ) (k : ElementKind) → (there && is_delayed_kind k) ≡ false → map step_pair (steps there output k) ≡ []
  no-steps false output k h = refl
  no-steps true output (kind.Gate gate delays) h = refl
  no-steps true output (kind.Udp udp delays) h = refl
  no-steps true output (kind.Pass constant) h = refl
  no-steps true output (kind.Leg timing) h = refl
  no-steps true output (kind.Path paths style) h = absurd cc
  no-steps true output (kind.Late delay) h = refl

  pairs-are : (numbers : List ℕ) → numbers ≡ elements_on s (pins_by element_scope is_delayed 0 parts.elements.items) → pairs_of_elements parts classes numbers ≡ map step_pair all_steps
  pairs-are numbers e =
      ap (pairs_of_elements parts classes) e
      ∙ (gathered_items element_scope is_delayed s parts.elements.items (element_pairs parts classes) (λ (x : code_element.Element). map step_pair (steps_of x))
      (λ x same. pairs-of-kind x.output x.kind ∙ sym (ap (λ b. map step_pair (steps b x.output x.kind)) (eq-eqb x.scope s same)))
      (λ x h. no-steps (x.scope == s) x.output x.kind h)
      ∙ flat-mapped step_pair steps_of parts.elements.items)

  -- its entries are those of its paths
  entries-of-steps : (scope output : ℕ) (there : Bool) → (scope == s) ≡ there → (ps : List code_path.Path)
      → flat_map (paths_at s) (map (path_spot scope output) (paths_seen parts.conditions.items parts.leg_timings.items ps)) ≡ map step_entry (if there then map (step output) ps else [])
  entries-of-steps scope output true e [] = refl
  entries-of-steps scope output false e [] = refl
  entries-of-steps scope output true e (p ∷ ps) =
      ap (λ b. cond b (step_entry (output, p) ∷ []) [] ++ flat_map (paths_at s) (map (path_spot scope output) (paths_seen parts.conditions.items parts.leg_timings.items ps))) e
      ∙ ap (λ xs. step_entry (output, p) ∷ xs) (entries-of-steps scope output true e ps)
  entries-of-steps scope output false e (p ∷ ps) =
      ap (λ b. cond b (step_entry (output, p) ∷ []) [] ++ flat_map (paths_at s) (map (path_spot scope output) (paths_seen parts.conditions.items parts.leg_timings.items ps))) e
      ∙ entries-of-steps scope output false e ps

  no-entries : (there : Bool) → map step_entry (if there then [] else []) ≡ []
  no-entries true = refl
  no-entries false = refl

  entries-of-kind : (scope : ℕ) (inputs : List ℕ) (output : ℕ) (k : ElementKind) → flat_map (paths_at s) (spots_in scope inputs output (kind_seen parts k)) ≡ map step_entry (steps (scope == s) output k)
  entries-of-kind scope inputs output (kind.Gate gate delays) = sym (no-entries (scope == s))
  entries-of-kind scope inputs output (kind.Udp udp delays) = sym (no-entries (scope == s))
  entries-of-kind scope inputs output (kind.Pass constant) = sym (no-entries (scope == s))
  entries-of-kind scope inputs output (kind.Leg timing) = sym (no-entries (scope == s))
  entries-of-kind scope inputs output (kind.Path paths style) = entries-of-steps scope output (scope == s) refl (spanned parts.paths.items paths)
  entries-of-kind scope inputs output (kind.Late delay) = sym (no-entries (scope == s))

  pub path-entries-are : path_entries (circuit_seen parts) s ≡ map step_entry all_steps
  path-entries-are =
      flat-flat (paths_at s) spots_of (circuit_seen parts).elements
      ∙ (flat_map-map (λ (e : Element). flat_map (paths_at s) (spots_of e)) (element_seen parts) parts.elements.items
      ∙ (flat-same (λ (e : code_element.Element). flat_map (paths_at s) (spots_of (element_seen parts e))) (λ (e : code_element.Element). map step_entry (steps_of e)) parts.elements.items (λ e. entries-of-kind e.scope e.inputs.items e.output e.kind)
      ∙ flat-mapped step_entry steps_of parts.elements.items))

  -- what its paths name stands in the tables
  abbrev IsGood : Step → Type 0
  IsGood x = IsIndexedPath (length parts.conditions.items) (length parts.leg_timings.items) x.1

  good-kind : (there : Bool) (output : ℕ) (k : ElementKind) → IsIndexed parts k → All IsGood (steps there output k)
  good-kind false output k h = All-nil IsGood
  good-kind true output (kind.Gate gate delays) h = All-nil IsGood
  good-kind true output (kind.Udp udp delays) h = All-nil IsGood
  good-kind true output (kind.Pass constant) h = All-nil IsGood
  good-kind true output (kind.Leg timing) h = All-nil IsGood
  good-kind true output (kind.Path paths style) h = All-map IsGood (step output) (spanned parts.paths.items paths) h.each
  good-kind true output (kind.Late delay) h = All-nil IsGood

  module _ (indexed : AreIndexed parts) (are : AreClasses parts.conditions.items classes) where
    good-steps : All IsGood all_steps
    good-steps = all-flat IsGood steps_of parts.elements.items (λ k d l. good-kind ((slice_index_or parts.elements.items k d).scope == s) (slice_index_or parts.elements.items k d).output (slice_index_or parts.elements.items k d).kind (indexed.named k d l))

    paths-alike : Differ (map step_pair all_steps) ↔ Disagree (λ (e : PathEntry). e.key) (λ (e : PathEntry). e.numbers) (map step_entry all_steps)
    paths-alike =
        differ-alike IsGood step_pair step_entry (λ (e : PathEntry). e.key) (λ (e : PathEntry). e.numbers) all_steps good-steps
        (λ x y g f. path_codes parts.conditions.items classes are parts.leg_timings.items x.0 y.0 x.1 y.1 g f) (λ x y g f. path_keys parts.conditions.items classes are parts.leg_timings.items x.0 y.0 x.1 y.1 g f)
        (λ x y e. e) (λ x y e. e)

    pub paths_disagree : (g : Groups) → AreGroups parts g → s < length parts.scopes.items → (numbers : List ℕ) → numbers ≡ readers_at g.elements s → (b : Bool) → IsTrue b ↔ Differ (pairs_of_elements parts classes numbers)
        → IsTrue b ↔ Disagree (λ (e : PathEntry). e.key) (λ (e : PathEntry). e.numbers) (path_entries (circuit_seen parts) s)
    paths_disagree g groups within numbers e b both =
        let is = pairs-are numbers (e ∙ element_numbers parts g groups s within) in
        subst (λ es. IsTrue b ↔ Disagree (λ (x : PathEntry). x.key) (λ (x : PathEntry). x.numbers) es) (sym path-entries-are)
        (λ t. paths-alike.0 (subst (λ ps. Differ ps) is (both.0 t)), λ d. both.1 (subst (λ ps. Differ ps) (sym is) (paths-alike.1 d)))
