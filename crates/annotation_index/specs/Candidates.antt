-- The candidates that indexes by scopes, names and nets give for an entry.
use Rattle.std.specs.Prelude.{◌≡◌, ℕ, ◌<◌, ◌==◌, ℤ, ◌&&◌, ◌||◌, bytes_eq, Bool, true, false, List, [], ◌∷◌, map, reverse, length, Option, Some, None}
use Rattle.std.specs.List.{flat_map, list_any}
use Rattle.sg_circuit.specs.Circuit.{Circuit, scope_at}
use Rattle.sdf_lex.specs.Names.{called, path_parts}
use Rattle.sdf_tree.specs.declared.words.Divider.{Divider}
use Rattle.sdf_tree.specs.Words.{divider_byte}
use Rattle.sdf_tree.specs.Written.{Instance, the_top, all_of_type, the_path, Port}
use Rattle.sdf_tree.specs.Meant.{EntryKind, io_path, device, port_delay, interconnect, path_pulse, a_check, skipped_entry}
use Rattle.annotation_model.specs.Given.{Given}
use Rattle.annotation_model.specs.Scopes.{names_back, is_scope, is_of_cell}
use Rattle.annotation_model.specs.Ports.{has, is_input, is_output, is_any, nets_named}
use Rattle.annotation_model.specs.Matching.{port_nets, terminals_of}
use Rattle.annotation_model.specs.Spots.{Spot, leg_spot, path_spot, spots, scope_of, all_checked}
use Rattle.annotation_model.specs.Finding.{spot_at, check_at}

-- ---- what indexes give

-- the net to which a leg or a path leads
abbrev pub output_of : Spot → ℕ
output_of (leg_spot s inputs output timings) = output
output_of (path_spot s output path) = output

-- instances by the scope in which they stand and their name, scopes by their module, legs and paths by the net to which they lead and by
-- their scope, and timing checks by the net of their reference
pub record Lookups : Type 0 where
  pub inside : ℕ → List ℕ → List ℕ
  pub of_module : List ℕ → List ℕ
  pub leading : ℕ → List ℕ
  pub standing : ℕ → List ℕ
  pub referring : ℕ → List ℕ

-- Scopes are given where they are asked for and nowhere else; of places all that are asked for are given, and perhaps others.
pub record AreOf (c : Circuit) (l : Lookups) : Type 0 where
  pub inside_of : (s p : ℕ) (name : List ℕ) → has s (l.inside p name) ≡ (bytes_eq (scope_at c s).name name && is_scope p (scope_at c s).parent)
  pub by_module : (s : ℕ) (name : List ℕ) → s < length c.scopes → has s (l.of_module name) ≡ bytes_eq (scope_at c s).module_name name
  pub by_net : (k : ℕ) → k < length (spots c) → has k (l.leading (output_of (spot_at c k))) ≡ true
  pub by_scope : (k : ℕ) → k < length (spots c) → has k (l.standing (scope_of (spot_at c k))) ≡ true
  pub by_reference : (k : ℕ) → k < length (all_checked c) → has k (l.referring (check_at c k).timing.refer.net) ≡ true

-- ---- scopes

-- the scopes to which names lead from a scope, the first name first
abbrev pub descend : (inside : ℕ → List ℕ → List ℕ) → List (List ℕ) → ℕ → List ℕ
descend inside [] s = s ∷ []
descend inside (n ∷ ns) s = flat_map (descend inside ns) (inside s n)

-- the scopes of a cell
abbrev pub cell_scopes : Lookups → Divider → (cell_type : List ℕ) → Instance → List ℕ
cell_scopes l divider cell_type the_top = 0 ∷ []
cell_scopes l divider cell_type all_of_type = l.of_module cell_type
cell_scopes l divider cell_type (the_path path) = descend l.inside (map called (path_parts (divider_byte divider) path)) 0

-- a list has the scopes of a circuit that are of a cell, and no other
abbrev pub AreOfCell : Circuit → Divider → Given → List ℕ → Type 0
AreOfCell c divider g scopes = (s : ℕ) → s < length c.scopes → has s scopes ≡ is_of_cell c divider g.cell_type g.instance s

-- ---- legs and paths

-- what leads to a net of an output port of scopes
abbrev pub to_output : Circuit → Divider → Lookups → Port → (scopes : List ℕ) → List ℕ
to_output c divider l to scopes = flat_map (λ s. flat_map l.leading (port_nets c divider is_output s to)) scopes

-- what leads to a net of an input port that is named below scopes: the names come last first, and the last is the port's own
abbrev pub to_named : Circuit → Lookups → List (List ℕ) → (bit : Option ℤ) → (scopes : List ℕ) → List ℕ
to_named c l [] bit scopes = []
to_named c l (name ∷ path) bit scopes =
    flat_map (λ s. flat_map l.leading (nets_named is_input (scope_at c s).variables name bit)) (flat_map (descend l.inside (reverse path)) scopes)

abbrev pub to_input : Circuit → Divider → Lookups → Port → (scopes : List ℕ) → List ℕ
to_input c divider l to scopes = to_named c l (names_back divider to.path) to.bit scopes

-- Of a cell's entry: what leads to a net of the output port that it names, or of the input port below the cell's scopes, or what stands in these.
abbrev pub spots_for : Circuit → Divider → Lookups → EntryKind → (scopes : List ℕ) → List ℕ
spots_for c divider l (io_path condition from to delays) scopes = to_output c divider l to scopes
spots_for c divider l (device None delays) scopes = flat_map l.standing scopes
spots_for c divider l (device (Some to) delays) scopes = to_output c divider l to scopes
spots_for c divider l (path_pulse percent None reject error) scopes = flat_map l.standing scopes
spots_for c divider l (path_pulse percent (Some ports) reject error) scopes = to_output c divider l ports.1 scopes
spots_for c divider l (port_delay to delays) scopes = to_input c divider l to scopes
spots_for c divider l (interconnect from to delays) scopes = to_input c divider l to scopes
spots_for c divider l (a_check check) scopes = []
spots_for c divider l (skipped_entry skipped) scopes = []

-- whether a net is a bit of a port of a scope: of a leaf's output, or of the top's input
abbrev pub is_source_at : Circuit → (name : List ℕ) → (bit : Option ℤ) → (net s : ℕ) → Bool
is_source_at c name bit net s =
    ((scope_at c s).is_leaf && has net (nets_named is_output (scope_at c s).variables name bit)) || ((s == 0) && has net (nets_named is_input (scope_at c s).variables name bit))

-- whether it is one in a scope to which names lead from another
abbrev pub is_source_down : Circuit → Lookups → List (List ℕ) → (bit : Option ℤ) → (net below : ℕ) → Bool
is_source_down c l [] bit net below = false
is_source_down c l (name ∷ path) bit net below = list_any (is_source_at c name bit net) (descend l.inside (reverse path) below)

-- ---- timing checks

-- of a cell's entry of a timing check: those whose reference is a net of the port that it names
abbrev pub checks_for : Circuit → Divider → Lookups → EntryKind → (scopes : List ℕ) → List ℕ
checks_for c divider l (a_check check) scopes = flat_map (λ s. flat_map l.referring (port_nets c divider is_any s (terminals_of check).0.port)) scopes
checks_for c divider l _ scopes = []
