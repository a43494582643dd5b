-- Instances of primitives.
use Rattle.std.specs.Prelude.{◌≡◌, ℕ, List, [], ◌∷◌, true, false, Option, Some, None, map, refl, codes}
use Rattle.sg_circuit.specs.Circuit.{Udp, Pass}
use Rattle.sg_circuit.specs.declared.nets.Driver.TheVariants as driver
use Rattle.sg_delay.specs.declared.corners.Corner.TheVariants.{Typ}
use Rattle.sg_logic.specs.declared.values.Value.TheVariants.{Zero, One, X}
use Rattle.vl_tree.specs.declared.names.Direction.TheVariants.{Output}
use Rattle.vl_tree.specs.Tree.{one_number, Connections, by_order, by_name, instances, Module, a_module, a_primitive, output_port, output_register, input_ports, Primitive}
use Rattle.elab_model.specs.declared.kinds.ElabKind.TheVariants.{BadTerminal, Udp as Table}
use Rattle.circuit_model.specs.Circuits.{circuit}
use Rattle.elab_model.specs.Faults.{fault}
use Rattle.circuit_model.specs.Faults.{faults}
use Rattle.circuit_model.proofs.Writing.{here, name, use_of, constant_of, port_item, instance_item, in_order_of, to_port, whole_number, plainly, module_as, listing, net, element}
use Rattle.std.proofs.Common.{arith}
use Rattle.udp_rows.specs.declared.cells.Cell.{Cell}
use Rattle.udp_rows.specs.declared.cells.RawRow.{RawRow}
use Rattle.udp_rows.specs.declared.faults.UdpKind.TheVariants.{BadSymbol}
use Rattle.circuit_model.specs.Elaboration.{FaultStands, in_table}

abbrev pub symbol : ℕ → Cell
symbol s = record { first = s; second = 0 }

abbrev pub row : ℕ → List Cell → Option Cell → Cell → RawRow
row n is s o = record { inputs = is; state = s; out = o; place = here n }

-- 1 : ? : 1; and 0 : ? : -;
abbrev pub latch_rows : List RawRow
latch_rows = row 120 (symbol 49 ∷ []) (Some (symbol 63)) (symbol 49) ∷ row 130 (symbol 48 ∷ []) (Some (symbol 63)) (symbol 45) ∷ []

-- primitive p (q, a); output q; input a; reg q; initial q = 0; table .. endtable endprimitive
abbrev pub latch : Primitive
latch = record {
  place = here 99;
  name = name (codes "p") 100;
  ports = name (codes "q") 101 ∷ name (codes "a") 102 ∷ [];
  declarations = output_port (here 103) false (name (codes "q") 104) ∷ input_ports (here 105) (name (codes "a") 106 ∷ []) ∷ output_register (here 107) (name (codes "q") 108) ∷ [];
  initial = Some (record { place = here 109; name = name (codes "q") 110; value = Zero });
  rows = latch_rows;
}

-- module t (y); output y; p #2 (y, 1'b1); endmodule
abbrev pub latched : Module
latched =
    module_as plainly (codes "t") 7 (listing (name (codes "y") 10 ∷ []))
    (port_item Output None (name (codes "y") 20 ∷ [])
    ∷ instances (name (codes "p") 30) (Some (record { place = here 31; values = one_number (whole_number 2) ∷ [] })) (record { place = here 32; name = None; connections = in_order_of (use_of (codes "y") 33 ∷ constant_of 34 (One ∷ []) ∷ []) } ∷ [])
    ∷ [])

latched_nets : (circuit (a_primitive latch ∷ a_module latched ∷ []) latched Typ).nets ≡
    net 0 (codes "y") None (driver.Element 0) ∷ net 0 (codes "y") None (driver.Element 1) ∷ []
latched_nets = refl

latched_elements : (circuit (a_primitive latch ∷ a_module latched ∷ []) latched Typ).elements ≡
    element 0 (1 ∷ []) 0 (Udp (record { inputs = 1; sequential = true; rows = latch_rows }) Zero (2 ∷ [])) ∷ element 0 [] 1 (Pass (Some One)) ∷ []
latched_elements = refl

latched_udps : (circuit (a_primitive latch ∷ a_module latched ∷ []) latched Typ).udps ≡ record { primitive = record { inputs = 1; sequential = true; rows = latch_rows }; first = Zero } ∷ []
latched_udps = refl

latched_faults : faults (a_primitive latch ∷ a_module latched ∷ []) None Typ ≡ []
latched_faults = refl

-- the same without reg: an initial value, and - in a row, are refused
abbrev pub unlatched : Primitive
unlatched = record {
  place = here 99;
  name = name (codes "p") 100;
  ports = name (codes "q") 101 ∷ name (codes "a") 102 ∷ [];
  declarations = output_port (here 103) false (name (codes "q") 104) ∷ input_ports (here 105) (name (codes "a") 106 ∷ []) ∷ [];
  initial = Some (record { place = here 109; name = name (codes "q") 110; value = Zero });
  rows = row 120 (symbol 48 ∷ []) None (symbol 45) ∷ [];
}

unlatched_faults : faults (a_primitive unlatched ∷ a_module latched ∷ []) None Typ ≡ fault BadTerminal (here 110) ∷ []
unlatched_faults = refl

bad_symbol : FaultStands (a_primitive unlatched ∷ a_module latched ∷ []) None Typ (Table BadSymbol) (here 120)
bad_symbol = in_table {p = unlatched} (0, (omega arith, refl)) (0, row 120 (symbol 48 ∷ []) None (symbol 45), omega arith, refl, (refl, refl))

-- primitives stand in order of first use, each once: r, then p, which the text defines first
abbrev pub stateless : Primitive
stateless = record unlatched { name = name (codes "r") 99; initial = None }

abbrev pub both_used : Module
both_used =
    module_as plainly (codes "t") 7 (listing [])
    (instance_item (codes "r") 30 (codes "u") (in_order_of []) ∷ instance_item (codes "p") 40 (codes "v") (in_order_of []) ∷ instance_item (codes "r") 50 (codes "w") (in_order_of []) ∷ [])

in_order_of_use : map (λ u. u.first) (circuit (a_primitive latch ∷ a_primitive stateless ∷ a_module both_used ∷ []) both_used Typ).udps ≡ X ∷ Zero ∷ []
in_order_of_use = refl

-- a primitive connected by name, with an empty terminal, and with one too many
abbrev pub connected_as : Connections → Module
connected_as cs =
    module_as plainly (codes "t") 7 (listing (name (codes "y") 10 ∷ []))
    (port_item Output None (name (codes "y") 20 ∷ []) ∷ instance_item (codes "p") 32 (codes "u") cs ∷ [])

by_names : faults (a_primitive latch ∷ a_module (connected_as (by_name (to_port (codes "q") 33 (Some (use_of (codes "y") 34)) ∷ []))) ∷ []) None Typ ≡ fault BadTerminal (here 32) ∷ []
by_names = refl

with_gap : faults (a_primitive latch ∷ a_module (connected_as (by_order (Some (use_of (codes "y") 33) ∷ None ∷ []))) ∷ []) None Typ ≡ fault BadTerminal (here 32) ∷ []
with_gap = refl

with_two_inputs : faults (a_primitive latch ∷ a_module (connected_as (in_order_of (use_of (codes "y") 33 ∷ use_of (codes "a") 34 ∷ use_of (codes "b") 35 ∷ []))) ∷ []) None Typ ≡ fault BadTerminal (here 32) ∷ []
with_two_inputs = refl
