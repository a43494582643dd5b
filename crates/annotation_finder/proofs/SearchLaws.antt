-- What the code asks for is what the entry is for.
use Rattle.std.specs.Prelude.{◌≡◌, refl, ℕ, ◌<◌, ◌&&◌, Bool, true, false, if◌then◌else◌, List, [], ◌∷◌, length, Option, Some, None, IfSome}
use Rattle.std.proofs.Common.{ap, sym, ◌∙◌}
use Rattle.std.proofs.Math.Bool.{and-true}
use Rattle.sg_circuit.specs.Circuit.{Circuit, scope_at}
use Rattle.sg_circuit.specs.Closed.{IsClosed}
use Rattle.sg_circuit.specs.Paths as specify
use Rattle.sdf_tree.specs.declared.words.Divider.{Divider}
use Rattle.sdf_tree.specs.declared.tree.Edge.{Edge}
use Rattle.sdf_tree.specs.Written.{Port, PathCondition}
use Rattle.sdf_tree.specs.Meant.{EntryKind, io_path, device, port_delay, interconnect, path_pulse, a_check, skipped_entry}
use Rattle.annotation_model.specs.Given.{Given}
use Rattle.annotation_model.specs.Scopes.{names_back, climb, is_of_cell}
use Rattle.annotation_model.specs.Ports.{has, is_input, nets_named}
use Rattle.annotation_model.specs.Matching.{named_from, leads_below, leads_between, is_cell_scope, is_source, only, fits_path, fits_leg}
use Rattle.annotation_model.specs.Spots.{Spot, leg_spot, path_spot, scope_of, is_for_spot}
use Rattle.annotation_index.specs.Candidates.{Lookups, spots_for, is_source_down}
use Rattle.annotation_index.proofs.ScopeLaws.{climb-within}
use Rattle.annotation_finder.specs.Fitting.{candidates, path_fits, below, is_in, is_led, leg_fits, spot_fits}
use Rattle.annotation_finder.specs.Sought.{Named, search_for, named, between, connecting}

pub same_between : (f g : Named) (edge : Option Edge) (t u : Named) (v w : PathCondition) → f ≡ g → t ≡ u → v ≡ w → between f edge t v ≡ between g edge u w
same_between f g edge t u v w p q r = ap (λ x. between x edge t v) p ∙ (ap (λ x. between g edge x v) q ∙ ap (λ x. between g edge u x) r)

pub same_connecting : (f g t u : Named) → f ≡ g → t ≡ u → connecting f t ≡ connecting g u
same_connecting f g t u p q = ap (λ x. connecting x t) p ∙ ap (λ x. connecting g x) q

pub same_candidates : (c : Circuit) (divider : Divider) (l : Lookups) (kind : EntryKind) (scopes : List ℕ) → candidates c l (search_for divider kind) scopes ≡ spots_for c divider l kind scopes
same_candidates c divider l (io_path condition from to ds) scopes = refl
same_candidates c divider l (device None ds) scopes = refl
same_candidates c divider l (device (Some port) ds) scopes = refl
same_candidates c divider l (path_pulse percent None reject error) scopes = refl
same_candidates c divider l (path_pulse percent (Some ports) reject error) scopes = refl
same_candidates c divider l (port_delay port ds) scopes = refl
same_candidates c divider l (interconnect from to ds) scopes = refl
same_candidates c divider l (a_check check) scopes = refl
same_candidates c divider l (skipped_entry skipped) scopes = refl

module _ (c : Circuit) (divider : Divider) where
  -- paths
  pub same_path : (kind : EntryKind) (s output : ℕ) (p : specify.Path) → path_fits c (search_for divider kind) s output p ≡ fits_path c divider kind s output p
  same_path (io_path condition from to ds) s output p = refl
  same_path (device None ds) s output p = refl
  same_path (device (Some port) ds) s output p = refl
  same_path (path_pulse percent None reject error) s output p = refl
  same_path (path_pulse percent (Some ports) reject error) s output p = and-true (leads_between c divider s ports.0 ports.1 output p && true) ∙ and-true (leads_between c divider s ports.0 ports.1 output p)
  same_path (port_delay port ds) s output p = refl
  same_path (interconnect from to ds) s output p = refl
  same_path (a_check check) s output p = refl
  same_path (skipped_entry skipped) s output p = refl

  -- the scope below which a port is named
  same_below : (s net : ℕ) (to : Port) → below c s (named divider to) net ≡ leads_below c divider s net to
  same_below s net to = by (names_back divider to.path)
    where
      by : (names : List (List ℕ)) → named_from c is_input s names net (record { path = []; bit = to.bit }) ≡ named_from c is_input s names net to
      by [] = refl
      by (name ∷ path) = refl

module _ (c : Circuit) (divider : Divider) (l : Lookups) (closed : IsClosed c) (g : Given) (cell : ℕ → Bool) (of_cell : (s : ℕ) → s < length c.scopes → cell s ≡ is_of_cell c divider g.cell_type g.instance s)
    (source : (from : Port) (net t : ℕ) → is_source c divider from net (Some t) ≡ is_source_down c l (names_back divider from.path) from.bit net t) where
  below-within : (s net : ℕ) (to : Port) → s < length c.scopes → IfSome (leads_below c divider s net to) (λ t. t < length c.scopes)
  below-within s net to m = by (names_back divider to.path)
    where
      if_named : (b : Bool) (path : List (List ℕ)) → IfSome (if b then climb c path (Some s) else None) (λ t. t < length c.scopes)
      if_named true path = climb-within c closed path (Some s) m
      if_named false path = tt

      by : (names : List (List ℕ)) → IfSome (named_from c is_input s names net to) (λ t. t < length c.scopes)
      by [] = tt
      by (name ∷ path) = if_named (has net (nets_named is_input (scope_at c s).variables name to.bit)) path

  in-cell : (up : Option ℕ) → IfSome up (λ t. t < length c.scopes) → is_in cell up ≡ is_cell_scope c divider g up
  in-cell None h = refl
  in-cell (Some t) h = of_cell t h

  led : (up : Option ℕ) (from : Port) (net : ℕ) → IfSome up (λ t. t < length c.scopes) → is_led c l cell (named divider from) net up ≡ (is_cell_scope c divider g up && is_source c divider from net up)
  led None from net h = refl
  led (Some t) from net h =
      ap (λ b. b && is_source_down c l (names_back divider from.path) from.bit net t) (of_cell t h) ∙ ap (λ b. is_of_cell c divider g.cell_type g.instance t && b) (sym (source from net t))

  -- legs
  same_leg : (kind : EntryKind) (s : ℕ) (inputs : List ℕ) (output : ℕ) → s < length c.scopes
      → leg_fits c l cell (search_for divider kind) s (only inputs) output ≡ fits_leg c divider g kind s inputs output
  same_leg (port_delay to ds) s inputs output m =
      ap (is_in cell) (same_below c divider s output to) ∙ in-cell (leads_below c divider s output to) (below-within s output to m)
  same_leg (interconnect from to ds) s inputs output m =
      ap (is_led c l cell (named divider from) (only inputs)) (same_below c divider s output to)
      ∙ led (leads_below c divider s output to) from (only inputs) (below-within s output to m)
  same_leg (io_path condition from to ds) s inputs output m = refl
  same_leg (device None ds) s inputs output m = refl
  same_leg (device (Some port) ds) s inputs output m = refl
  same_leg (path_pulse percent None reject error) s inputs output m = refl
  same_leg (path_pulse percent (Some ports) reject error) s inputs output m = refl
  same_leg (a_check check) s inputs output m = refl
  same_leg (skipped_entry skipped) s inputs output m = refl

  pub same_spot : (spot : Spot) → scope_of spot < length c.scopes → spot_fits c l cell (search_for divider g.entry.kind) spot ≡ is_for_spot c divider g spot
  same_spot (leg_spot s inputs output timings) m = same_leg g.entry.kind s inputs output m
  same_spot (path_spot s output path) m =
      ap (λ b. b && path_fits c (search_for divider g.entry.kind) s output path) (of_cell s m)
      ∙ ap (λ b. is_of_cell c divider g.cell_type g.instance s && b) (same_path c divider g.entry.kind s output path)
