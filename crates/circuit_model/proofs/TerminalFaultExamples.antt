-- Faults of terminals, widths, indices, delays and drivers, each refused and nearly so.
use Rattle.std.specs.Prelude.{◌≡◌, List, [], ◌∷◌, Some, None, refl, codes, pos}
use Rattle.sg_delay.specs.declared.corners.Corner.TheVariants.{Typ, Max}
use Rattle.sg_logic.specs.declared.gates.GateKind.TheVariants.{And, Buf, Bufif0, Bufif1}
use Rattle.sg_logic.specs.declared.values.Value.TheVariants.{Zero, One}
use Rattle.vl_tree.specs.Tree.{MinTypMax, one_number, three_numbers, Source}
use Rattle.elab_model.specs.declared.kinds.ElabKind.TheVariants.{UnknownName, WidthMismatch, SecondDriver, BadTerminal, BadDelay}
use Rattle.elab_model.specs.Faults.{fault}
use Rattle.circuit_model.specs.Faults.{faults}
use Rattle.circuit_model.proofs.Writing.{here, name, use_of, bit_of, constant_of, braces, range, net_name, wire_item, reg_item, assign_item, gate_with, gate_item, whole_number}
use Rattle.circuit_model.proofs.NameFaultExamples.{alone}

-- wire [1:0] v; buf (y, v); buf (y[3], 1'b0); buf (1'b1, n[0]);
several : faults (alone (wire_item (range (pos 1) (pos 0)) (net_name (name (codes "v") 40) None ∷ [])
    ∷ gate_item Buf 50 (use_of (codes "y") 51 ∷ use_of (codes "v") 54 ∷ [])
    ∷ gate_item Buf 60 (bit_of (codes "y") 61 (pos 3) ∷ constant_of 64 (Zero ∷ []) ∷ [])
    ∷ gate_item Buf 70 (constant_of 71 (One ∷ []) ∷ bit_of (codes "n") 72 (pos 0) ∷ []) ∷ [])) None Typ
    ≡ fault WidthMismatch (here 54) ∷ fault BadTerminal (here 61) ∷ fault UnknownName (here 72) ∷ fault BadTerminal (here 71) ∷ []
several = refl

-- wire [3:2] v; assign v[4] = a; and assign v[2] = a;
out_of_range : faults (alone (wire_item (range (pos 3) (pos 2)) (net_name (name (codes "v") 40) None ∷ []) ∷ assign_item 50 (bit_of (codes "v") 50 (pos 4)) (use_of (codes "a") 51) ∷ [])) None Typ ≡ fault BadTerminal (here 50) ∷ []
out_of_range = refl

in_range : faults (alone (wire_item (range (pos 3) (pos 2)) (net_name (name (codes "v") 40) None ∷ []) ∷ assign_item 50 (bit_of (codes "v") 50 (pos 2)) (use_of (codes "a") 51) ∷ [])) None Typ ≡ []
in_range = refl

-- assign {y, w} = a; and assign {y, w} = {a, 1'b0};
other_width : faults (alone (assign_item 40 (braces 40 (use_of (codes "y") 41 ∷ use_of (codes "w") 42 ∷ [])) (use_of (codes "a") 43) ∷ [])) None Typ ≡ fault WidthMismatch (here 40) ∷ []
other_width = refl

same_width : faults (alone (assign_item 40 (braces 40 (use_of (codes "y") 41 ∷ use_of (codes "w") 42 ∷ [])) (braces 43 (use_of (codes "a") 44 ∷ constant_of 45 (Zero ∷ []) ∷ [])) ∷ [])) None Typ ≡ []
same_width = refl

-- buf (y, a); buf (y, b); the second is the place; and buf (y, a); buf (w, b);
second_driver : faults (alone (gate_item Buf 40 (use_of (codes "y") 41 ∷ use_of (codes "a") 44 ∷ []) ∷ gate_item Buf 50 (use_of (codes "y") 51 ∷ use_of (codes "b") 54 ∷ []) ∷ [])) None Typ ≡ fault SecondDriver (here 50) ∷ []
second_driver = refl

one_driver : faults (alone (gate_item Buf 40 (use_of (codes "y") 41 ∷ use_of (codes "a") 44 ∷ []) ∷ gate_item Buf 50 (use_of (codes "w") 51 ∷ use_of (codes "b") 54 ∷ []) ∷ [])) None Typ ≡ []
one_driver = refl

-- buf (a, y); the stimulus drives a first
driven_input : faults (alone (gate_item Buf 40 (use_of (codes "a") 41 ∷ use_of (codes "y") 44 ∷ []) ∷ [])) None Typ ≡ fault SecondDriver (here 40) ∷ []
driven_input = refl

-- reg y; buf (y, a); a reg is driven otherwise; reg a; an input of the top is
driven_reg : faults (alone (reg_item (name (codes "y") 40 ∷ []) ∷ gate_item Buf 50 (use_of (codes "y") 51 ∷ use_of (codes "a") 54 ∷ []) ∷ [])) None Typ ≡ fault BadTerminal (here 50) ∷ []
driven_reg = refl

input_reg : faults (alone (reg_item (name (codes "a") 40 ∷ []) ∷ [])) None Typ ≡ fault BadTerminal (here 23) ∷ []
input_reg = refl

free_reg : faults (alone (reg_item (name (codes "y") 40 ∷ []) ∷ [])) None Typ ≡ []
free_reg = refl

-- and (y); and and (y, a);
one_terminal : faults (alone (gate_item And 40 (use_of (codes "y") 41 ∷ []) ∷ [])) None Typ ≡ fault BadTerminal (here 40) ∷ []
one_terminal = refl

two_terminals : faults (alone (gate_item And 40 (use_of (codes "y") 41 ∷ use_of (codes "a") 42 ∷ []) ∷ [])) None Typ ≡ []
two_terminals = refl

-- bufif1 (y, a); bufif1 (y, a, b); and bufif1 (y, a, b, a);
no_control : faults (alone (gate_item Bufif1 40 (use_of (codes "y") 41 ∷ use_of (codes "a") 42 ∷ []) ∷ [])) None Typ ≡ fault BadTerminal (here 40) ∷ []
no_control = refl

one_control : faults (alone (gate_item Bufif1 40 (use_of (codes "y") 41 ∷ use_of (codes "a") 42 ∷ use_of (codes "b") 43 ∷ []) ∷ [])) None Typ ≡ []
one_control = refl

four_terminals : faults (alone (gate_item Bufif1 40 (use_of (codes "y") 41 ∷ use_of (codes "a") 42 ∷ use_of (codes "b") 43 ∷ use_of (codes "a") 44 ∷ []) ∷ [])) None Typ ≡ fault BadTerminal (here 40) ∷ []
four_terminals = refl

-- #(2^60) and #(2^60 - 1); three delays
abbrev pub delayed : List MinTypMax → Source
delayed vs = alone (gate_with Buf (Some (record { place = here 39; values = vs })) 40 (use_of (codes "y") 41 ∷ use_of (codes "a") 44 ∷ []) ∷ [])

too_long : faults (delayed (one_number (whole_number 1152921504606846976) ∷ [])) None Typ ≡ fault BadDelay (here 39) ∷ []
too_long = refl

longest : faults (delayed (one_number (whole_number 1152921504606846975) ∷ [])) None Typ ≡ []
longest = refl

three_delays : faults (delayed (one_number (whole_number 1) ∷ one_number (whole_number 2) ∷ one_number (whole_number 3) ∷ [])) None Typ ≡ fault BadDelay (here 39) ∷ []
three_delays = refl

-- bufif0 #(1, 2, 3) (y, a, b);
off_delay : faults (alone (gate_with Bufif0 (Some (record { place = here 39; values = one_number (whole_number 1) ∷ one_number (whole_number 2) ∷ one_number (whole_number 3) ∷ [] })) 40
    (use_of (codes "y") 41 ∷ use_of (codes "a") 42 ∷ use_of (codes "b") 43 ∷ []) ∷ [])) None Typ ≡ []
off_delay = refl

-- only the corner's part is looked at
other_corner : faults (delayed (three_numbers (whole_number 1) (whole_number 2) (whole_number 1152921504606846976) ∷ [])) None Typ ≡ []
other_corner = refl

this_corner : faults (delayed (three_numbers (whole_number 1) (whole_number 2) (whole_number 1152921504606846976) ∷ [])) None Max ≡ fault BadDelay (here 39) ∷ []
this_corner = refl
