-- Faults of names, each refused and nearly so.
use Rattle.std.specs.Prelude.{◌≡◌, List, [], ◌∷◌, Some, None, refl, codes, pos}
use Rattle.sg_delay.specs.declared.corners.Corner.TheVariants.{Typ}
use Rattle.sg_logic.specs.declared.gates.GateKind.TheVariants.{Buf}
use Rattle.vl_tree.specs.declared.names.Direction.TheVariants.{Input, Output}
use Rattle.vl_tree.specs.Tree.{Item, gates, Module, a_module, Source}
use Rattle.elab_model.specs.declared.kinds.ElabKind.TheVariants.{DuplicateName, UnknownName, WidthMismatch, BadTerminal, TooMany}
use Rattle.elab_model.specs.Faults.{fault}
use Rattle.circuit_model.specs.Faults.{faults}
use Rattle.circuit_model.proofs.Writing.{here, name, use_of, range, port_item, net_name, wire_item, gate_item, term, width_item, block_item, plainly, none_implicit, module_as, listing}
use Rattle.elab_model.specs.NameFaults.{declaration_faults}

-- module t (a, y); input a; output y; .. endmodule
abbrev pub with_items : List Item → Module
with_items items =
    module_as plainly (codes "t") 7 (listing (name (codes "a") 10 ∷ name (codes "y") 13 ∷ []))
    (port_item Input None (name (codes "a") 23 ∷ []) ∷ port_item Output None (name (codes "y") 33 ∷ []) ∷ items)

abbrev pub alone : List Item → Source
alone items = a_module (with_items items) ∷ []

-- wire w; wire w;
two_nets : faults (alone (wire_item None (net_name (name (codes "w") 40) None ∷ net_name (name (codes "w") 41) None ∷ []) ∷ [])) None Typ ≡ fault DuplicateName (here 41) ∷ []
two_nets = refl

-- wire y; a port and its own net are one name, and so may be a net and an instance: buf a (y, a);
one_name : faults (alone (wire_item None (net_name (name (codes "y") 40) None ∷ []) ∷ gates (here 0) Buf None (record { place = here 50; name = Some (name (codes "a") 50); terminals = use_of (codes "y") 51 ∷ use_of (codes "a") 52 ∷ [] } ∷ []) ∷ [])) None Typ ≡ []
one_name = refl

-- wire [1:0] y; the port has no range
two_ranges : faults (alone (wire_item (range (pos 1) (pos 0)) (net_name (name (codes "y") 40) None ∷ []) ∷ [])) None Typ ≡ fault WidthMismatch (here 40) ∷ []
two_ranges = refl

-- output b; which isn't in the list of ports
no_such_port : faults (alone (port_item Output None (name (codes "b") 40 ∷ []) ∷ [])) None Typ ≡ fault UnknownName (here 40) ∷ []
no_such_port = refl

-- a port without direction
abbrev pub without_direction : Module
without_direction = module_as plainly (codes "t") 7 (listing (name (codes "a") 10 ∷ [])) []

no_direction : faults (a_module without_direction ∷ []) None Typ ≡ fault BadTerminal (here 10) ∷ []
no_direction = refl

-- wire [65536:0] v; and wire [65535:0] v;
too_wide : declaration_faults (with_items (wire_item (range (pos 65536) (pos 0)) (net_name (name (codes "v") 40) None ∷ []) ∷ [])) ≡ fault TooMany (here 40) ∷ []
too_wide = refl

widest : declaration_faults (with_items (wire_item (range (pos 65535) (pos 0)) (net_name (name (codes "v") 40) None ∷ []) ∷ [])) ≡ []
widest = refl

-- specify endspecify specify $width (posedge a, 1); endspecify
two_blocks : faults (alone (block_item 40 [] ∷ block_item 60 (width_item 61 (term (codes "a") 62) 1 ∷ []) ∷ [])) None Typ ≡ []
two_blocks = refl

-- buf (y, w); with no implicit nets, and with w declared
abbrev pub strict : List Item → Source
strict items =
    a_module (module_as none_implicit (codes "t") 7 (listing (name (codes "y") 13 ∷ [])) (port_item Output None (name (codes "y") 33 ∷ []) ∷ items)) ∷ []

not_implicit : faults (strict (gate_item Buf 40 (use_of (codes "y") 41 ∷ use_of (codes "w") 42 ∷ []) ∷ [])) None Typ ≡ fault UnknownName (here 42) ∷ []
not_implicit = refl

explicit : faults (strict (gate_item Buf 40 (use_of (codes "y") 41 ∷ use_of (codes "w") 42 ∷ []) ∷ wire_item None (net_name (name (codes "w") 50) None ∷ []) ∷ [])) None Typ ≡ []
explicit = refl
