-- The constants in connections, in text order.
use Rattle.std.specs.Prelude.{ℕ, List, [], ◌∷◌, flat_map}
use Rattle.std.specs.List.{enumerate_from}
use Rattle.sg_logic.specs.declared.values.Value.{Value}
use Rattle.sg_text.specs.declared.places.Place.{Place}
use Rattle.vl_tree.specs.Tree.{Named, Expression, Connections}
use Rattle.elab_model.specs.Bits.{Bit, net, constant, bits}
use Rattle.elab_model.specs.Connections.{port_values}
use Rattle.elab_model.specs.Names.{Variable}
use Rattle.elab_bits.specs.Seen.{bit_at}
use Rattle.elab_ports.specs.declared.constants.PortConstant as code

-- a constant that is bound to a bit of a port
pub record BoundConstant : Type 0 where
  pub port : List ℕ
  pub position : ℕ
  pub place : Place
  pub value : Value

abbrev pub constant_at : List ℕ → ℕ × Bit → List BoundConstant
constant_at n (p, net m q) = []
constant_at n (p, constant at v) = record { port = n; position = p; place = at; value = v } ∷ []

abbrev pub connection_constants : List Variable → List ℕ × Expression → List BoundConstant
connection_constants vs e = flat_map (constant_at e.0) (enumerate_from 0 (bits vs e.1))

abbrev pub constants_in : List Variable → Connections → List Named → List BoundConstant
constants_in vs connections ports = flat_map (connection_constants vs) (port_values connections ports)

abbrev pub view_constant : List Variable → code.PortConstant → BoundConstant
view_constant child c = record { port = (bit_at child c.bit).0.name; position = (bit_at child c.bit).1; place = c.place; value = c.value }
