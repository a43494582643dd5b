-- Netlists with specify paths: their nets and elements, and who drives a net twice.
use Rattle.std.specs.Prelude.{◌≡◌, ℕ, List, [], ◌∷◌, Some, None, refl, codes, pos, replicate}
use Rattle.cond_expr.specs.declared.tokens.Tok.TheVariants as tok
use Rattle.cond_expr.specs.Grammar.{operand_parts, atom_parts, level_parts, primary_parts}
use Rattle.cond_expr.specs.Tree.{leaf}
use Rattle.grammar.specs.Rule.{read_up_to}
use Rattle.sg_circuit.specs.Circuit.{Kind, Gate, Path}
use Rattle.sg_circuit.specs.Paths as paths
use Rattle.sg_circuit.specs.declared.nets.Driver.TheVariants as driver
use Rattle.sg_delay.specs.declared.corners.Corner.TheVariants.{Typ}
use Rattle.sg_delay.specs.declared.limits.PulseStyle.TheVariants.{OnEvent}
use Rattle.sg_logic.specs.declared.gates.GateKind.TheVariants.{And, Buf, Not}
use Rattle.sg_logic.specs.declared.values.Value.TheVariants.{One}
use Rattle.vl_tree.specs.declared.names.Direction.TheVariants.{Input, Output}
use Rattle.vl_tree.specs.declared.paths.Arrow.TheVariants.{Parallel, Full}
use Rattle.vl_tree.specs.Tree.{always, if_words, Item, Module, a_module, Source}
use Rattle.elab_model.specs.declared.kinds.ElabKind.TheVariants.{SecondDriver, BadTerminal}
use Rattle.elab_model.specs.Elements.{leg_kind}
use Rattle.elab_model.specs.Faults.{fault}
use Rattle.circuit_model.specs.Circuits.{circuit}
use Rattle.circuit_model.specs.Faults.{faults}
use Rattle.circuit_model.proofs.Writing.{here, name, use_of, bit_of, constant_of, range, port_item, reg_item, gate_item, instance_item, in_order_of, term, word, path_item, block_item, plainly, as_cell, module_as, listing, net, element}

-- a path with one delay for all transitions
abbrev path_from : ℕ → paths.PathCondition → ℕ → paths.Path
path_from i c delay = record { input = i; edge = None; condition = c; timings = replicate 12 (record { delay = delay; limits = None }) }

abbrev path_kind : List paths.Path → Kind
path_kind ps = Path ps OnEvent

-- module t (y, a); output y; input a; not (y, a); specify (a => y) = 5; endspecify endmodule
abbrev pub with_path : List Item → Module
with_path items =
    module_as plainly (codes "t") 7 (listing (name (codes "y") 10 ∷ name (codes "a") 11 ∷ []))
    (port_item Output None (name (codes "y") 20 ∷ [])
    ∷ port_item Input None (name (codes "a") 21 ∷ [])
    ∷ block_item 30 (path_item 31 always (term (codes "a") 32) Parallel (term (codes "y") 33) 5 ∷ [])
    ∷ items)

abbrev inverter : Module
inverter = with_path (gate_item Not 40 (use_of (codes "y") 41 ∷ use_of (codes "a") 42 ∷ []) ∷ [])

-- y and a, and the inner net, which the gate drives; the specify path stands before the gate
inverter_nets : (circuit (a_module inverter ∷ []) inverter Typ).nets ≡
    net 0 (codes "y") None (driver.Element 0) ∷ net 0 (codes "a") None driver.Stimulus ∷ net 0 (codes "y") None (driver.Element 1) ∷ []
inverter_nets = refl

inverter_elements : (circuit (a_module inverter ∷ []) inverter Typ).elements ≡
    element 0 (2 ∷ []) 0 (path_kind (path_from 1 paths.Always 5 ∷ [])) ∷ element 0 (1 ∷ []) 2 (Gate Not []) ∷ []
inverter_elements = refl

inverter_faults : faults (a_module inverter ∷ []) None Typ ≡ []
inverter_faults = refl

-- a reg to which a path leads: the Path drives it, and so may timing checks
driven_reg : faults (a_module (with_path (reg_item (name (codes "y") 40 ∷ []) ∷ [])) ∷ []) None Typ ≡ fault BadTerminal (here 31) ∷ []
driven_reg = refl

-- module c (Y, A, B); output Y; input A, B; and (Y, A, B); specify if (B) (A => Y) = 3; endspecify endmodule, a cell
abbrev pub cell : Module
cell =
    module_as as_cell (codes "c") 100 (listing (name (codes "Y") 101 ∷ name (codes "A") 102 ∷ name (codes "B") 103 ∷ []))
    (port_item Output None (name (codes "Y") 104 ∷ [])
    ∷ port_item Input None (name (codes "A") 105 ∷ name (codes "B") 106 ∷ [])
    ∷ gate_item And 107 (use_of (codes "Y") 108 ∷ use_of (codes "A") 109 ∷ use_of (codes "B") 110 ∷ [])
    ∷ block_item 120 (path_item 121 (if_words (word 122 (tok.Name (codes "B")) ∷ [])) (term (codes "A") 123) Parallel (term (codes "Y") 124) 3 ∷ [])
    ∷ [])

-- module t (q, a, b); output [1:0] q; input a, b; c u (q[1], a, b); c v (q[0], a, q[1]); endmodule
abbrev pub two_cells : Module
two_cells =
    module_as plainly (codes "t") 7 (listing (name (codes "q") 10 ∷ name (codes "a") 11 ∷ name (codes "b") 12 ∷ []))
    (port_item Output (range (pos 1) (pos 0)) (name (codes "q") 20 ∷ [])
    ∷ port_item Input None (name (codes "a") 21 ∷ name (codes "b") 22 ∷ [])
    ∷ instance_item (codes "c") 30 (codes "u") (in_order_of (bit_of (codes "q") 31 (pos 1) ∷ use_of (codes "a") 32 ∷ use_of (codes "b") 33 ∷ []))
    ∷ instance_item (codes "c") 40 (codes "v") (in_order_of (bit_of (codes "q") 41 (pos 0) ∷ use_of (codes "a") 42 ∷ bit_of (codes "q") 43 (pos 1) ∷ []))
    ∷ [])

abbrev two : Source
two = a_module cell ∷ a_module two_cells ∷ []

-- the nets of the top, then of each cell A and B and the inner net, which has the name of the output in the cell
two_nets : (circuit two two_cells Typ).nets ≡
    net 0 (codes "q") (Some (pos 1)) (driver.Element 3)
    ∷ net 0 (codes "q") (Some (pos 0)) (driver.Element 7)
    ∷ net 0 (codes "a") None driver.Stimulus
    ∷ net 0 (codes "b") None driver.Stimulus
    ∷ net 1 (codes "A") None (driver.Element 0)
    ∷ net 1 (codes "B") None (driver.Element 1)
    ∷ net 1 (codes "Y") None (driver.Element 2)
    ∷ net 2 (codes "A") None (driver.Element 4)
    ∷ net 2 (codes "B") None (driver.Element 5)
    ∷ net 2 (codes "Y") None (driver.Element 6) ∷ []
unfolding operand_parts atom_parts level_parts primary_parts read_up_to
two_nets = refl

-- the Leg of v's B reads the Path's output; paths and conditions are over the nets inside the cells
two_elements : (circuit two two_cells Typ).elements ≡
    element 1 (2 ∷ []) 4 leg_kind
    ∷ element 1 (3 ∷ []) 5 leg_kind
    ∷ element 1 (4 ∷ 5 ∷ []) 6 (Gate And [])
    ∷ element 1 (6 ∷ []) 0 (path_kind (path_from 4 (paths.If (tok.Name (codes "B") ∷ []) (leaf 5)) 3 ∷ []))
    ∷ element 2 (2 ∷ []) 7 leg_kind
    ∷ element 2 (0 ∷ []) 8 leg_kind
    ∷ element 2 (7 ∷ 8 ∷ []) 9 (Gate And [])
    ∷ element 2 (9 ∷ []) 1 (path_kind (path_from 7 (paths.If (tok.Name (codes "B") ∷ []) (leaf 8)) 3 ∷ [])) ∷ []
unfolding operand_parts atom_parts level_parts primary_parts read_up_to
two_elements = refl

two_faults : faults two None Typ ≡ []
unfolding operand_parts atom_parts level_parts primary_parts read_up_to
two_faults = refl

-- c u (y, a, b); and beside it c v (y, a, b): the second driver of y is a Path, at its specify path; or buf (y, a): the gate is in the top, before the cell
abbrev with_cell : List Item → Source
with_cell items =
    a_module cell ∷ a_module (module_as plainly (codes "t") 7 (listing (name (codes "y") 10 ∷ name (codes "a") 11 ∷ []))
    (port_item Output None (name (codes "y") 20 ∷ []) ∷ port_item Input None (name (codes "a") 21 ∷ [])
    ∷ instance_item (codes "c") 30 (codes "u") (in_order_of (use_of (codes "y") 31 ∷ use_of (codes "a") 32 ∷ use_of (codes "a") 33 ∷ []))
    ∷ items)) ∷ []

two_paths : faults (with_cell (instance_item (codes "c") 40 (codes "v") (in_order_of (use_of (codes "y") 41 ∷ use_of (codes "a") 42 ∷ use_of (codes "a") 43 ∷ [])) ∷ [])) None Typ ≡ fault SecondDriver (here 121) ∷ []
unfolding operand_parts atom_parts level_parts primary_parts read_up_to
two_paths = refl

path_and_gate : faults (with_cell (gate_item Buf 40 (use_of (codes "y") 41 ∷ use_of (codes "a") 42 ∷ []) ∷ [])) None Typ ≡ fault SecondDriver (here 121) ∷ []
unfolding operand_parts atom_parts level_parts primary_parts read_up_to
path_and_gate = refl

-- module t (y, a); output [1:0] y; input [1:0] a; buf (y[1], a[1]); buf (y[0], a[0]); specify (a *> y) = 2; endspecify endmodule
abbrev buffers : Module
buffers =
    module_as plainly (codes "t") 7 (listing (name (codes "y") 10 ∷ name (codes "a") 11 ∷ []))
    (port_item Output (range (pos 1) (pos 0)) (name (codes "y") 20 ∷ [])
    ∷ port_item Input (range (pos 1) (pos 0)) (name (codes "a") 21 ∷ [])
    ∷ gate_item Buf 30 (bit_of (codes "y") 31 (pos 1) ∷ bit_of (codes "a") 32 (pos 1) ∷ [])
    ∷ gate_item Buf 40 (bit_of (codes "y") 41 (pos 0) ∷ bit_of (codes "a") 42 (pos 0) ∷ [])
    ∷ block_item 50 (path_item 51 always (term (codes "a") 52) Full (term (codes "y") 53) 2 ∷ [])
    ∷ [])

-- from both bits of a to each bit of y
abbrev from_both : List paths.Path
from_both = path_from 2 paths.Always 2 ∷ path_from 3 paths.Always 2 ∷ []

buffer_nets : (circuit (a_module buffers ∷ []) buffers Typ).nets ≡
    net 0 (codes "y") (Some (pos 1)) (driver.Element 2)
    ∷ net 0 (codes "y") (Some (pos 0)) (driver.Element 3)
    ∷ net 0 (codes "a") (Some (pos 1)) driver.Stimulus
    ∷ net 0 (codes "a") (Some (pos 0)) driver.Stimulus
    ∷ net 0 (codes "y") (Some (pos 1)) (driver.Element 0)
    ∷ net 0 (codes "y") (Some (pos 0)) (driver.Element 1) ∷ []
buffer_nets = refl

buffer_elements : (circuit (a_module buffers ∷ []) buffers Typ).elements ≡
    element 0 (2 ∷ []) 4 (Gate Buf [])
    ∷ element 0 (3 ∷ []) 5 (Gate Buf [])
    ∷ element 0 (4 ∷ []) 0 (path_kind from_both)
    ∷ element 0 (5 ∷ []) 1 (path_kind from_both) ∷ []
buffer_elements = refl

-- the same t with buf (y, a); and (z, a, 1'b1); in place of its gate: the inner net of y stands at the specify path, before the net of the constant
abbrev constant_behind : Module
constant_behind =
    with_path (gate_item Buf 40 (use_of (codes "y") 41 ∷ use_of (codes "a") 42 ∷ []) ∷ gate_item And 43 (use_of (codes "z") 44 ∷ use_of (codes "a") 45 ∷ constant_of 46 (One ∷ []) ∷ []) ∷ [])

constant_nets : (circuit (a_module constant_behind ∷ []) constant_behind Typ).nets ≡
    net 0 (codes "y") None (driver.Element 0)
    ∷ net 0 (codes "a") None driver.Stimulus
    ∷ net 0 (codes "z") None (driver.Element 2)
    ∷ net 0 (codes "y") None (driver.Element 1)
    ∷ net 0 (codes "z") None (driver.Element 3) ∷ []
constant_nets = refl

-- a second specify path to y stands behind the constant: the inner net stays where the first one is
abbrev constant_gate : Item
constant_gate = gate_item And 43 (use_of (codes "y") 44 ∷ use_of (codes "a") 45 ∷ constant_of 46 (One ∷ []) ∷ [])

abbrev second_path : Item
second_path = block_item 50 (path_item 51 always (term (codes "a") 52) Parallel (term (codes "y") 53) 6 ∷ [])

constant_between : (circuit (a_module (with_path (constant_gate ∷ second_path ∷ [])) ∷ []) (with_path (constant_gate ∷ second_path ∷ [])) Typ).nets ≡
    net 0 (codes "y") None (driver.Element 0) ∷ net 0 (codes "a") None driver.Stimulus ∷ net 0 (codes "y") None (driver.Element 1) ∷ net 0 (codes "y") None (driver.Element 2) ∷ []
constant_between = refl

-- module g (Y, A); output Y; input A; buf (Y, A); endmodule, a cell without a path
abbrev plain_cell : Module
plain_cell =
    module_as as_cell (codes "g") 200 (listing (name (codes "Y") 201 ∷ name (codes "A") 202 ∷ []))
    (port_item Output None (name (codes "Y") 204 ∷ []) ∷ port_item Input None (name (codes "A") 205 ∷ []) ∷ gate_item Buf 207 (use_of (codes "Y") 208 ∷ use_of (codes "A") 209 ∷ []) ∷ [])

-- c u (y, a, a); g v (y, a); the second driver of y is the gate in g, since the Path of u stands with u
path_then_gate : faults (a_module plain_cell ∷ with_cell (instance_item (codes "g") 40 (codes "v") (in_order_of (use_of (codes "y") 41 ∷ use_of (codes "a") 42 ∷ [])) ∷ [])) None Typ ≡ fault SecondDriver (here 207) ∷ []
unfolding operand_parts atom_parts level_parts primary_parts read_up_to
path_then_gate = refl
