-- What the ports of an instance are connected to (IEEE 1364-2005, 12.3.5, 12.3.6).
use Rattle.std.specs.Prelude.{ℕ, List, [], ◌∷◌, Option, Some, None, find, filter_map, zip, slice_get, bytes_eq, if◌then◌else◌}
use Rattle.std.specs.Option.{option_and_then}
use Rattle.vl_tree.specs.Tree.{Named, Expression, Connections, by_order, by_name}
use Rattle.elab_model.specs.Ports.{port_list}
use Rattle.elab_model.specs.Names.{variables}
use Rattle.elab_model.specs.Bits.{Bit, bits}
use Rattle.elab_model.specs.Hierarchy.{Step}

-- the expression at a port, by its place in the list of ports
abbrev pub in_order : List ℕ → List Named → List (Option Expression) → Option Expression
in_order n [] es = None
in_order n (p ∷ ps) [] = None
in_order n (p ∷ ps) (e ∷ es) = if bytes_eq n p.text then e else in_order n ps es

abbrev pub connection_at : Connections → List Named → List ℕ → Option Expression
connection_at (by_order es) ps n = in_order n ps es
connection_at (by_name cs) ps n = option_and_then (λ c. c.value) (find (λ c. bytes_eq n c.port.text) cs)

-- what a bit of a port is connected to in the parent, bits left first
abbrev pub bound_to : Step → Step → List ℕ → ℕ → Option Bit
bound_to s parent n p =
    option_and_then (λ e. slice_get (bits (variables parent.definition) e) p) (connection_at s.connections (port_list s.definition) n)

-- the ports that are connected, each with its expression, in text order
abbrev pub with_port : List ℕ → Option Expression → Option (List ℕ × Expression)
with_port n None = None
with_port n (Some e) = Some (n, e)

abbrev pub port_values : Connections → List Named → List (List ℕ × Expression)
port_values (by_order es) ps = filter_map (λ p. with_port p.0.text p.1) (zip ps es)
port_values (by_name cs) ps = filter_map (λ c. with_port c.port.text c.value) cs
