-- The paths of a module, each from an input bit to an output bit, in text order (IEEE 1364-2005, 14.2 to 14.6).
use Rattle.std.specs.Prelude.{ℕ, List, ◌&&◌, Option, map, flat_map}
use Rattle.std.specs.List.{list_any}
use Rattle.std.specs.Option.{option_map}
use Rattle.sg_circuit.specs.Timings.{Timing}
use Rattle.sg_circuit.specs.Paths as circuit
use Rattle.sg_logic.specs.declared.edges.Edge.{Edge}
use Rattle.sg_logic.specs.declared.edges.TheConstants.{POSEDGE, NEGEDGE}
use Rattle.sg_logic.specs.Edges.{edge_changes}
use Rattle.sg_logic.specs.Values.{is_same}
use Rattle.sg_text.specs.declared.places.Place.{Place}
use Rattle.vl_tree.specs.Tree.{EdgeWord, posedge, negedge, pairs, SpecifyPath, SpecifyItem}
use Rattle.elab_model.specs.Names.{Variable}
use Rattle.specify_model.specs.Blocks.{parameters, pulses, specify_paths}
use Rattle.specify_model.specs.Conditions.{ModuleCondition, Always, If, IfNone, condition_of, over}
use Rattle.specify_model.specs.PulseLimits.{Limits, limits_of}
use Rattle.elab_model.specs.Terms.{NetBit, path_pairs}
use Rattle.specify_model.specs.Values.{Measure, Values, value_of, twelve_delays}

-- the changes that an edge is (15.4)
abbrev pub edge_of : EdgeWord → Edge
edge_of posedge = POSEDGE
edge_of negedge = NEGEDGE
edge_of (pairs ps) = record { has = map (λ c. list_any (λ p. is_same p.from c.0 && is_same p.to c.1) ps) edge_changes }

-- a path: its input, the changes of it that the path is for, when it may be taken, and a timing for each of the twelve transitions
pub record ModulePath : Type 0 where
  pub input : NetBit
  pub edge : Option Edge
  pub condition : ModuleCondition
  pub timings : List Timing

-- and the output bit that it leads to, with the place of the specify path
pub record PathTo : Type 0 where
  pub output : NetBit
  pub place : Place
  pub path : ModulePath

-- each transition has its delay, and all have the limits that a text gives
abbrev pub timings_with : Option (ℕ × ℕ) → List ℕ → List Timing
timings_with limits ds = map (λ d. record { delay = d; limits = limits }) ds

-- polarity and data source have no effect
abbrev pub path_between : Measure → List Variable → Values → Limits → SpecifyPath → NetBit × NetBit → PathTo
path_between by vs values limits p ends = record {
  output = ends.1;
  place = p.place;
  path = record {
    input = ends.0;
    edge = option_map edge_of p.edge;
    condition = condition_of vs p.condition;
    timings = timings_with (limits ends.0.name ends.1.name) (twelve_delays by values p.delays);
  };
}

abbrev pub paths_of : Measure → List Variable → Values → Limits → SpecifyPath → List PathTo
paths_of by vs values limits p = map (path_between by vs values limits p) (path_pairs vs p)

abbrev pub module_paths : Measure → List Variable → List SpecifyItem → List PathTo
module_paths by vs items = flat_map (paths_of by vs (value_of (parameters items)) (limits_of by vs (pulses items))) (specify_paths items)

-- a path of an instance, in which the module's bits have these nets
abbrev pub circuit_condition : (NetBit → ℕ) → ModuleCondition → circuit.PathCondition
circuit_condition net Always = circuit.Always
circuit_condition net (If written bound) = circuit.If written (over net bound)
circuit_condition net IfNone = circuit.IfNone

abbrev pub circuit_path : (NetBit → ℕ) → ModulePath → circuit.Path
circuit_path net p = record { input = net p.input; edge = p.edge; condition = circuit_condition net p.condition; timings = p.timings }
