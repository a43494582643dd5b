-- Circuits with the same scopes match entries alike, and places of entries don't matter.
use Rattle.std.proofs.Common.{◌≡◌, Bool, true, false, List, [], ◌∷◌, refl, ◌∙◌, ap}
use Rattle.std.specs.Prelude.{ℕ, pos, ◌==◌, ◌&&◌, ◌||◌, length, slice_index_or, Option, Some, None, bytes_eq, if◌then◌else◌}
use Rattle.std.specs.List.{list_any, range_with_len}
use Rattle.annotation_model.proofs.EntryLaws.{any-same}
use Rattle.cond_expr.specs.Token.{Tok}
use Rattle.sg_circuit.specs.declared.checks.CheckTiming.{CheckTiming}
use Rattle.sg_circuit.specs.declared.checks.Event.{Event}
use Rattle.sg_circuit.specs.declared.scopes.Port.{Port as PortKind}
use Rattle.sg_circuit.specs.Checks.{CheckConditions}
use Rattle.sg_circuit.specs.Circuit.{Circuit, Scope, scope_at}
use Rattle.sg_circuit.specs.Paths as specify
use Rattle.sdf_tree.specs.declared.words.Divider.{Divider}
use Rattle.sdf_tree.specs.Written.{Instance, the_top, all_of_type, the_path, Port, Terminal}
use Rattle.sdf_tree.specs.Meant.{CellCheck, EntryKind, io_path, device, port_delay, interconnect, path_pulse, a_check, skipped_entry}
use Rattle.annotation_model.specs.Given.{Given}
use Rattle.annotation_model.specs.Matching.{port_nets, fits_condition, fits_path, fits_leg, is_source, is_source_in, only, leads_between, is_for_path, is_cell_scope, named_from, leads_below, fits_event, fits_datum, fits_check, terminals_of, limits_for, given_by, none_given}
use Rattle.annotation_model.specs.Ports.{has, is_input, is_output, is_any, nets_named, own_nets}
use Rattle.annotation_model.specs.Same.{fits_edge, fits_words}
use Rattle.annotation_model.specs.Scopes.{names_back, climb, is_scope, is_of_cell}
use Rattle.annotation_model.specs.Spots.{Spot, leg_spot, path_spot, is_for_spot, Checked, given_to}
use Rattle.written_giving.proofs.PlaceLaws.{unplaced}

module _ (a b : Circuit) (scopes : a.scopes ≡ b.scopes) where
  pub same : (s : ℕ) → scope_at a s ≡ scope_at b s
  same s = ap (λ (xs : List Scope). slice_index_or xs s (record { parent = None; name = []; module_name = []; unit = pos 0; precision = pos 0; is_leaf = false; variables = [] })) scopes

  climb-alike : (ns : List (List ℕ)) (o : Option ℕ) → climb a ns o ≡ climb b ns o
  climb-alike [] o = refl
  climb-alike (n ∷ ns) None = refl
  climb-alike (n ∷ ns) (Some s) =
      ap (λ (x : Scope). if bytes_eq x.name n then climb a ns x.parent else None) (same s) ∙ by (bytes_eq (scope_at b s).name n) (climb-alike ns (scope_at b s).parent)
    where
      by : (t : Bool) → climb a ns (scope_at b s).parent ≡ climb b ns (scope_at b s).parent → (if t then climb a ns (scope_at b s).parent else None) ≡ (if t then climb b ns (scope_at b s).parent else None)
      by true e = e
      by false e = refl

  cell-alike : (d : Divider) (t : List ℕ) (i : Instance) (s : ℕ) → is_of_cell a d t i s ≡ is_of_cell b d t i s
  cell-alike d t the_top s = refl
  cell-alike d t all_of_type s = ap (λ (x : Scope). bytes_eq x.module_name t) (same s)
  cell-alike d t (the_path path) s = ap (is_scope 0) (climb-alike (names_back d path) (Some s))

  nets-alike : (d : Divider) (role : PortKind → Bool) (s : ℕ) (p : Port) → port_nets a d role s p ≡ port_nets b d role s p
  nets-alike d role s p = by (names_back d p.path)
    where
      by : (ns : List (List ℕ)) → own_nets a role s ns p.bit ≡ own_nets b role s ns p.bit
      by [] = refl
      by (n ∷ []) = ap (λ (x : Scope). nets_named role x.variables n p.bit) (same s)
      by (n ∷ m ∷ ns) = refl

  leads-alike : (d : Divider) (s : ℕ) (from to : Port) (o : ℕ) (p : specify.Path) → leads_between a d s from to o p ≡ leads_between b d s from to o p
  leads-alike d s from to o p =
      ap (λ ns. has p.input ns && has o (port_nets a d is_output s to)) (nets-alike d is_input s from) ∙ ap (λ ns. has p.input (port_nets b d is_input s from) && has o ns) (nets-alike d is_output s to)

  fits-alike : (d : Divider) (k : EntryKind) (s o : ℕ) (p : specify.Path) → fits_path a d k s o p ≡ fits_path b d k s o p
  fits-alike d (io_path condition from to ds) s o p = ap (λ t. (t && fits_edge from.edge p.edge) && fits_condition condition p.condition) (leads-alike d s from.port to o p)
  fits-alike d (device None ds) s o p = refl
  fits-alike d (device (Some port) ds) s o p = ap (has o) (nets-alike d is_output s port)
  fits-alike d (path_pulse percent None reject error) s o p = refl
  fits-alike d (path_pulse percent (Some ports) reject error) s o p = leads-alike d s ports.0 ports.1 o p
  fits-alike d (port_delay port ds) s o p = refl
  fits-alike d (interconnect from to ds) s o p = refl
  fits-alike d (a_check check) s o p = refl
  fits-alike d (skipped_entry skipped) s o p = refl

  path-alike : (d : Divider) (g : Given) (s o : ℕ) (p : specify.Path) → is_for_path a d g s o p ≡ is_for_path b d g s o p
  path-alike d g s o p = ap (λ t. t && fits_path a d g.entry.kind s o p) (cell-alike d g.cell_type g.instance s) ∙ ap (λ t. is_of_cell b d g.cell_type g.instance s && t) (fits-alike d g.entry.kind s o p)

  named-alike : (role : PortKind → Bool) (s : ℕ) (ns : List (List ℕ)) (net : ℕ) (p : Port) → named_from a role s ns net p ≡ named_from b role s ns net p
  named-alike role s [] net p = refl
  named-alike role s (n ∷ ns) net p =
      ap (λ (x : Scope). if has net (nets_named role x.variables n p.bit) then climb a ns (Some s) else None) (same s)
      ∙ ap (λ o. if has net (nets_named role (scope_at b s).variables n p.bit) then o else None) (climb-alike ns (Some s))

  scope-alike : (d : Divider) (g : Given) (r : Option ℕ) → is_cell_scope a d g r ≡ is_cell_scope b d g r
  scope-alike d g None = refl
  scope-alike d g (Some r) = cell-alike d g.cell_type g.instance r

  below-alike : (d : Divider) (g : Given) (s o : ℕ) (port : Port) → is_cell_scope a d g (leads_below a d s o port) ≡ is_cell_scope b d g (leads_below b d s o port)
  below-alike d g s o port = ap (is_cell_scope a d g) (named-alike is_input s (names_back d port.path) o port) ∙ scope-alike d g (leads_below b d s o port)

  source-in-alike : (d : Divider) (below : ℕ) (port : Port) (net u : ℕ) → is_source_in a d below port net u ≡ is_source_in b d below port net u
  source-in-alike d below port net u =
      ap (λ (x : Scope). (x.is_leaf && is_scope below (named_from a is_output u (names_back d port.path) net port)) || ((u == 0) && is_scope below (named_from a is_input u (names_back d port.path) net port))) (same u)
      ∙ (ap (λ o. ((scope_at b u).is_leaf && is_scope below o) || ((u == 0) && is_scope below (named_from a is_input u (names_back d port.path) net port))) (named-alike is_output u (names_back d port.path) net port)
      ∙ ap (λ o. ((scope_at b u).is_leaf && is_scope below (named_from b is_output u (names_back d port.path) net port)) || ((u == 0) && is_scope below o)) (named-alike is_input u (names_back d port.path) net port))

  source-alike : (d : Divider) (port : Port) (net : ℕ) (r : Option ℕ) → is_source a d port net r ≡ is_source b d port net r
  source-alike d port net None = refl
  source-alike d port net (Some below) =
      any-same (is_source_in a d below port net) (is_source_in b d below port net) (range_with_len 0 (length a.scopes)) (λ u. source-in-alike d below port net u)
      ∙ ap (λ (xs : List Scope). list_any (is_source_in b d below port net) (range_with_len 0 (length xs))) scopes

  leg-alike : (d : Divider) (g : Given) (k : EntryKind) (s : ℕ) (inputs : List ℕ) (o : ℕ) → fits_leg a d g k s inputs o ≡ fits_leg b d g k s inputs o
  leg-alike d g (port_delay port ds) s inputs o = below-alike d g s o port
  leg-alike d g (interconnect from to ds) s inputs o =
      ap (λ t. t && is_source a d from (only inputs) (leads_below a d s o to)) (below-alike d g s o to)
      ∙ ap (λ t. is_cell_scope b d g (leads_below b d s o to) && t) (ap (is_source a d from (only inputs)) (named-alike is_input s (names_back d to.path) o to) ∙ source-alike d from (only inputs) (leads_below b d s o to))
  leg-alike d g (io_path condition from to ds) s inputs o = refl
  leg-alike d g (device port ds) s inputs o = refl
  leg-alike d g (path_pulse percent ports reject error) s inputs o = refl
  leg-alike d g (a_check check) s inputs o = refl
  leg-alike d g (skipped_entry skipped) s inputs o = refl

  pub spot-alike : (d : Divider) (g : Given) (s : Spot) → is_for_spot a d g s ≡ is_for_spot b d g s
  spot-alike d g (path_spot s o p) = path-alike d g s o p
  spot-alike d g (leg_spot s inputs o ts) = leg-alike d g g.entry.kind s inputs o

  event-alike : (d : Divider) (s : ℕ) (t : Terminal) (e : Event) (w : Option (List Tok)) → fits_event a d s t e w ≡ fits_event b d s t e w
  event-alike d s t e w = ap (λ ns. (has e.net ns && fits_edge t.edge e.edge) && fits_words t.condition w) (nets-alike d is_any s t.port)

  datum-alike : (d : Divider) (s : ℕ) (o : Option Terminal) (e : Option Event) (w : Option (List Tok)) → fits_datum a d s o e w ≡ fits_datum b d s o e w
  datum-alike d s None e w = refl
  datum-alike d s (Some t) None w = refl
  datum-alike d s (Some t) (Some e) w = event-alike d s t e w

  check-alike : (d : Divider) (k : CellCheck) (s : ℕ) (t : CheckTiming) (w : CheckConditions) → fits_check a d k s t w ≡ fits_check b d k s t w
  check-alike d k s t w =
      ap (λ x. x && fits_datum a d s (terminals_of k).1 t.datum w.datum) (event-alike d s (terminals_of k).0 t.refer w.refer)
      ∙ ap (λ x. fits_event b d s (terminals_of k).0 t.refer w.refer && x) (datum-alike d s (terminals_of k).1 t.datum w.datum)

  pub given-alike : (d : Divider) (g : Given) (c : Checked) → given_to a d g c ≡ given_to b d g c
  given-alike d g c = by g.entry.kind
    where
      by : (e : EntryKind) → given_by a d g e c.check.scope c.timing c.written ≡ given_by b d g e c.check.scope c.timing c.written
      by (a_check k) =
          ap (λ x. if x && fits_check a d k c.check.scope c.timing c.written then limits_for k c.timing.kind else none_given) (cell-alike d g.cell_type g.instance c.check.scope)
          ∙ ap (λ x. if is_of_cell b d g.cell_type g.instance c.check.scope && x then limits_for k c.timing.kind else none_given) (check-alike d k c.check.scope c.timing c.written)
      by (port_delay port ds) = refl
      by (interconnect from to ds) = refl
      by (io_path condition from to ds) = refl
      by (device port ds) = refl
      by (path_pulse percent ports reject error) = refl
      by (skipped_entry skipped) = refl

-- ---- places

module _ (a : Circuit) (d : Divider) (g : Given) where
  scope-unplaced : (o : Option ℕ) → is_cell_scope a d g o ≡ is_cell_scope a d (unplaced g) o
  scope-unplaced None = refl
  scope-unplaced (Some r) = refl

  pub spot-unplaced : (s : Spot) → is_for_spot a d g s ≡ is_for_spot a d (unplaced g) s
  spot-unplaced (path_spot s o p) = refl
  spot-unplaced (leg_spot s inputs o ts) = by g.entry.kind
    where
      by : (k : EntryKind) → fits_leg a d g k s inputs o ≡ fits_leg a d (unplaced g) k s inputs o
      by (port_delay port ds) = scope-unplaced (leads_below a d s o port)
      by (interconnect from to ds) = ap (λ t. t && is_source a d from (only inputs) (leads_below a d s o to)) (scope-unplaced (leads_below a d s o to))
      by (io_path condition from to ds) = refl
      by (device port ds) = refl
      by (path_pulse percent ports reject error) = refl
      by (a_check check) = refl
      by (skipped_entry skipped) = refl

  pub given-unplaced : (k : Checked) → given_to a d g k ≡ given_to a d (unplaced g) k
  given-unplaced k = by g.entry.kind
    where
      by : (e : EntryKind) → given_by a d g e k.check.scope k.timing k.written ≡ given_by a d (unplaced g) e k.check.scope k.timing k.written
      by (a_check check) = refl
      by (port_delay port ds) = refl
      by (interconnect from to ds) = refl
      by (io_path condition from to ds) = refl
      by (device port ds) = refl
      by (path_pulse percent ports reject error) = refl
      by (skipped_entry skipped) = refl
