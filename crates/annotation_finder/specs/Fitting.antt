-- Which legs and paths fit what is asked for, and which may.
use Rattle.std.specs.Prelude.{ℕ, ◌&&◌, nat_lt, Bool, true, false, List, [], length, Option, Some, None}
use Rattle.std.specs.List.{flat_map}
use Rattle.sg_circuit.specs.Circuit.{Circuit}
use Rattle.sg_circuit.specs.Paths as specify
use Rattle.annotation_model.specs.Ports.{has, is_input, is_output, own_nets}
use Rattle.annotation_model.specs.Same.{fits_edge}
use Rattle.annotation_model.specs.Matching.{fits_condition, named_from, only}
use Rattle.annotation_model.specs.Spots.{Spot, leg_spot, path_spot, spots}
use Rattle.annotation_model.specs.Finding.{spot_at}
use Rattle.annotation_index.specs.Candidates.{Lookups, to_named, is_source_down}
use Rattle.annotation_finder.specs.Finding.{is_marked}
use Rattle.annotation_finder.specs.Sought.{Named, Search, between, to_output, all_paths, to_input, connecting, nothing}

-- ---- what may fit

abbrev pub leading_to : Circuit → Lookups → Named → (scopes : List ℕ) → List ℕ
leading_to c l to scopes = flat_map (λ s. flat_map l.leading (own_nets c is_output s to.names to.bit)) scopes

abbrev pub candidates : Circuit → Lookups → Search → (scopes : List ℕ) → List ℕ
candidates c l (between from edge to condition) scopes = leading_to c l to scopes
candidates c l (to_output to) scopes = leading_to c l to scopes
candidates c l all_paths scopes = flat_map l.standing scopes
candidates c l (to_input to) scopes = to_named c l to.names to.bit scopes
candidates c l (connecting from to) scopes = to_named c l to.names to.bit scopes
candidates c l nothing scopes = []

-- ---- what fits, in a cell that is told by a test of scopes

abbrev pub is_output_of : Circuit → ℕ → Named → (net : ℕ) → Bool
is_output_of c s port net = has net (own_nets c is_output s port.names port.bit)

abbrev pub is_input_of : Circuit → ℕ → Named → (net : ℕ) → Bool
is_input_of c s port net = has net (own_nets c is_input s port.names port.bit)

abbrev pub path_fits : Circuit → Search → ℕ → (output : ℕ) → specify.Path → Bool
path_fits c (between from edge to condition) s output p =
    is_input_of c s from p.input && is_output_of c s to output && fits_edge edge p.edge && fits_condition condition p.condition
path_fits c (to_output to) s output p = is_output_of c s to output
path_fits c all_paths s output p = true
path_fits c _ s output p = false

-- the scope below which an input port is named that has a net in a scope
abbrev pub below : Circuit → ℕ → Named → (net : ℕ) → Option ℕ
below c s to net = named_from c is_input s to.names net (record { path = []; bit = to.bit })

abbrev pub is_in : (ℕ → Bool) → Option ℕ → Bool
is_in cell None = false
is_in cell (Some t) = cell t

-- whether it is one of the cell's, and has a net's source where one is asked for
abbrev pub is_led : Circuit → Lookups → (ℕ → Bool) → (from : Named) → (net : ℕ) → Option ℕ → Bool
is_led c l cell from net None = false
is_led c l cell from net (Some t) = cell t && is_source_down c l from.names from.bit net t

abbrev pub leg_fits : Circuit → Lookups → (ℕ → Bool) → Search → ℕ → (input output : ℕ) → Bool
leg_fits c l cell (to_input to) s input output = is_in cell (below c s to output)
leg_fits c l cell (connecting from to) s input output = is_led c l cell from input (below c s to output)
leg_fits c l cell _ s input output = false

abbrev pub spot_fits : Circuit → Lookups → (ℕ → Bool) → Search → Spot → Bool
spot_fits c l cell search (leg_spot s inputs output timings) = leg_fits c l cell search s (only inputs) output
spot_fits c l cell search (path_spot s output path) = cell s && path_fits c search s output path

-- whether the one of a number does, where scopes are marked
abbrev pub spot_passes : Circuit → Lookups → List Bool → Search → ℕ → Bool
spot_passes c l marks search k = nat_lt k (length (spots c)) && spot_fits c l (is_marked marks) search (spot_at c k)
