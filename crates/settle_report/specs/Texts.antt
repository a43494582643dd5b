-- The report of a circuit's settle bounds, or of a cycle (its form is this project's).
use Rattle.std.specs.Prelude.{ℕ, max, List, [], ◌∷◌, ◌++◌, length, Bool, true, false, codes, decimal, flat_map, slice_index_or}
use Rattle.std.specs.List.{filter}
use Rattle.sg_circuit.specs.declared.scopes.Port.{Port}
use Rattle.sg_circuit.specs.declared.scopes.Port.TheVariants.{Output}
use Rattle.sg_circuit.specs.Circuit.{Circuit, Variable, scope_at}
use Rattle.settle_bound.specs.Hops.{net_driven}
use Rattle.settle_bound.specs.declared.hops.Hop.{Hop}
use Rattle.run_report.specs.Report.{named_net, net_text}
use Rattle.wave_out.specs.Texts.{line}

abbrev pub is_output : Port → Bool
is_output Output = true
is_output _ = false

-- the output ports of the top, in the order of its ports (IEEE 1364-2005, 12.3.2), each from its leftmost bit on
abbrev pub output_bits : Circuit → List ℕ
output_bits circuit = flat_map (λ (v : Variable). v.bits) (filter (λ (v : Variable). is_output v.port) (scope_at circuit 0).variables)

-- the bound of a net, in ticks
abbrev pub bound_line : Circuit → List ℕ → ℕ → List ℕ
bound_line circuit bounds net = line (codes "settle " ++ net_text circuit net ++ codes " " ++ decimal (slice_index_or bounds net 0))

abbrev pub greatest : List ℕ → ℕ
greatest [] = 0
greatest (b ∷ bs) = max b (greatest bs)

-- those of the outputs, and the greatest of all
abbrev pub bounds_text : Circuit → List ℕ → List ℕ
bounds_text circuit bounds = flat_map (bound_line circuit bounds) (output_bits circuit) ++ line (codes "bound " ++ decimal (greatest bounds))

abbrev pub through_line : Circuit → Hop → List ℕ
through_line circuit hop = line (codes "through " ++ named_net circuit (net_driven circuit hop))

-- how many hops a cycle has, and the nets that they drive
abbrev pub cycle_text : Circuit → List Hop → List ℕ
cycle_text circuit hops = line (codes "cycle " ++ decimal (length hops)) ++ flat_map (through_line circuit) hops
