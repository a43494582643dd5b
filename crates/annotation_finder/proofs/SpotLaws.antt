-- Legs and paths by their rows.
use Rattle.std.specs.Prelude.{◌≡◌, ℕ, ◌<◌, ◌&&◌, nat_lt, Bool, true, List, [], length, None, slice_index_or}
use Rattle.std.proofs.Common.{ap, sym, ◌∙◌, subst, arith}
use Rattle.std.proofs.lemmas.Bool.Decides.{nat_tests}
use Rattle.std.proofs.lemmas.List.{length-map, get_or-map}
use Rattle.sg_delay.specs.declared.limits.PulseStyle.{PulseStyle}
use Rattle.sg_circuit.specs.Circuit.{Circuit, Element, element_at}
use Rattle.sg_circuit.specs.Closed.{IsClosed}
use Rattle.sg_circuit.specs.Paths as specify
use Rattle.sg_circuit.specs.PathsSeen.{AreIndexedPaths, path_seen, paths_seen, spanned}
use Rattle.sg_circuit.specs.Seen.{circuit_seen, element_seen, kind_seen, scope_seen, AreIndexed, IsIndexed}
use Rattle.sg_circuit.specs.TimingsSeen.{timings_at}
use Rattle.sg_circuit.specs.declared.circuits.Parts.{Parts}
use Rattle.sg_circuit.specs.declared.elements.Element as code_element
use Rattle.sg_circuit.specs.declared.elements.ElementKind.{ElementKind}
use Rattle.sg_circuit.specs.declared.elements.ElementKind.TheVariants as kind
use Rattle.sg_circuit.specs.declared.paths.Path as code_path
use Rattle.sg_circuit.specs.declared.paths.Span.{Span}
use Rattle.sg_circuit.specs.declared.scopes.Scope as code_scope
use Rattle.annotation_model.specs.Finding.{no_spot, spot_at}
use Rattle.annotation_model.specs.Matching.{only}
use Rattle.annotation_model.specs.Spots.{leg_spot, path_spot, spots}
use Rattle.annotation_index.specs.Candidates.{Lookups}
use Rattle.annotation_spots.specs.Rows.{AreRows, IsIn, spot_of}
use Rattle.annotation_spots.specs.declared.spots.Spot as code_spot
use Rattle.annotation_spots.proofs.RowLaws.{spot-of_row, row-of_leg, row-of_path}
use Rattle.annotation_finder.specs.Finding.{is_marked}
use Rattle.annotation_finder.specs.Fitting.{leg_fits, path_fits, spot_fits, spot_passes}
use Rattle.annotation_finder.specs.Sought.{Search}

module _ (parts : Parts) (row : code_spot.Spot) (inside : IsIn (circuit_seen parts) row) (x : code_element.Element) (is : x ≡ slice_index_or parts.elements.items row.element x) where
  pub element_within : row.element < length parts.elements.items
  element_within = let n = length-map parts.elements.items (element_seen parts) in let l = inside.element in omega (arith, n, l)

  element_is : element_at (circuit_seen parts) row.element ≡ element_seen parts x
  element_is = get_or-map (element_seen parts) parts.elements.items row.element x _ element_within ∙ ap (element_seen parts) (sym is)

  kind_is : (k : ElementKind) → x.kind ≡ k → (element_at (circuit_seen parts) row.element).kind ≡ kind_seen parts k
  kind_is k e = ap (λ (y : Element). y.kind) element_is ∙ ap (kind_seen parts) e

  pub element_scope : IsClosed (circuit_seen parts) → x.scope < length parts.scopes.items
  element_scope closed =
      let n = length-map parts.scopes.items (λ (s : code_scope.Scope). scope_seen s) in
      let l : x.scope < length (circuit_seen parts).scopes = subst (λ (e : Element). e.scope < length (circuit_seen parts).scopes) element_is (closed.element_scopes row.element _ inside.element) in
      omega (arith, n, l)

  -- a leg
  pub leg_case : (l : Lookups) (cell : ℕ → Bool) (search : Search) (timing input : ℕ) (r : Bool) → x.kind ≡ kind.Leg timing → input ≡ only x.inputs.items
      → r ≡ leg_fits (circuit_seen parts) l cell search x.scope input x.output → r ≡ spot_fits (circuit_seen parts) l cell search (spot_of (circuit_seen parts) row)
  leg_case l cell search timing input r k i e =
      e
      ∙ (ap (λ n. leg_fits (circuit_seen parts) l cell search x.scope n x.output) i
      ∙ sym (ap (spot_fits (circuit_seen parts) l cell search)
      ((row-of_leg (circuit_seen parts) row (timings_at parts.leg_timings.items timing) inside (kind_is (kind.Leg timing) k)).1
      ∙ ap (λ (y : Element). leg_spot y.scope y.inputs y.output (timings_at parts.leg_timings.items timing)) element_is)))

  -- a path
  module _ (span : Span) (style : PulseStyle) (k : x.kind ≡ kind.Path span style) where
    pub path_span : AreIndexed parts → AreIndexedPaths (length parts.conditions.items) (length parts.leg_timings.items) parts.paths.items span
    path_span indexed = subst (IsIndexed parts) k (subst (λ (y : code_element.Element). IsIndexed parts y.kind) (sym is) (indexed.named row.element x element_within))

    pub path_within : row.path < length (spanned parts.paths.items span)
    path_within =
        let paths = spanned parts.paths.items span in
        let l = (row-of_path (circuit_seen parts) row (paths_seen parts.conditions.items parts.leg_timings.items paths) style no_path inside (kind_is (kind.Path span style) k)).0 in
        let n = length-map paths (path_seen parts.conditions.items parts.leg_timings.items) in
        omega (arith, l, n)
      where
        no_path : specify.Path
        no_path = record { input = 0; edge = None; condition = specify.Always; timings = [] }

    pub path_case : (l : Lookups) (cell : ℕ → Bool) (search : Search) (given : List code_path.Path) (p : code_path.Path) (r : Bool) → given ≡ spanned parts.paths.items span → p ≡ slice_index_or given row.path p
        → r ≡ (cell x.scope && path_fits (circuit_seen parts) search x.scope x.output (path_seen parts.conditions.items parts.leg_timings.items p))
        → r ≡ spot_fits (circuit_seen parts) l cell search (spot_of (circuit_seen parts) row)
    path_case l cell search given p r g h e =
        e
        ∙ sym (ap (spot_fits (circuit_seen parts) l cell search)
        ((row-of_path (circuit_seen parts) row (paths_seen parts.conditions.items parts.leg_timings.items (spanned parts.paths.items span)) style seen inside (kind_is (kind.Path span style) k)).1
        ∙ (ap (λ (y : Element). path_spot y.scope y.output (slice_index_or (paths_seen parts.conditions.items parts.leg_timings.items (spanned parts.paths.items span)) row.path seen)) element_is
        ∙ ap (path_spot x.scope x.output) at)))
      where
        seen : specify.Path
        seen = path_seen parts.conditions.items parts.leg_timings.items p

        at : slice_index_or (paths_seen parts.conditions.items parts.leg_timings.items (spanned parts.paths.items span)) row.path seen ≡ seen
        at = get_or-map (path_seen parts.conditions.items parts.leg_timings.items) (spanned parts.paths.items span) row.path p seen path_within
            ∙ ap (path_seen parts.conditions.items parts.leg_timings.items) (sym (h ∙ ap (λ ps. slice_index_or ps row.path p) g))

-- what stands at a number passes where its row's fits
pub row_passes : (c : Circuit) (l : Lookups) (marks : List Bool) (search : Search) (rows : List code_spot.Spot) (k : ℕ) (row : code_spot.Spot) (r : Bool) → AreRows c rows → k < length rows
    → row ≡ slice_index_or rows k row → r ≡ spot_fits c l (is_marked marks) search (spot_of c row) → r ≡ spot_passes c l marks search k
row_passes c l marks search rows k row r are m e f =
    f
    ∙ (ap (spot_fits c l (is_marked marks) search) (ap (spot_of c) e ∙ sym (spot-of_row c rows k row no_spot are m))
    ∙ sym (ap (λ b. b && spot_fits c l (is_marked marks) search (spot_at c k)) below))
  where
    below : nat_lt k (length (spots c)) ≡ true
    below = let n = are.count in grind (arith, nat_tests)

pub row_in : (c : Circuit) (rows : List code_spot.Spot) (k : ℕ) (row : code_spot.Spot) → AreRows c rows → k < length rows → row ≡ slice_index_or rows k row → IsIn c row
row_in c rows k row are m e = subst (IsIn c) (sym e) (are.within k row m)
