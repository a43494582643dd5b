-- A netlist with a timing check that takes limits below 0: the delayed copies of its signals, of which the text names one (IEEE 1364-2005, 15.8).
use Rattle.std.specs.Prelude.{◌≡◌, ℕ, [], ◌∷◌, Option, Some, None, false, true, map, refl, codes, pos, negsuc}
use Rattle.sg_circuit.specs.Circuit.{Gate, Late}
use Rattle.sg_circuit.specs.declared.nets.Driver.TheVariants as driver
use Rattle.sg_delay.specs.declared.corners.Corner.TheVariants.{Typ}
use Rattle.sg_logic.specs.declared.gates.GateKind.TheVariants.{Buf}
use Rattle.vl_tree.specs.declared.check_names.TwoLimitCheck.TheVariants as two
use Rattle.vl_tree.specs.declared.names.Direction.TheVariants.{Input, Output}
use Rattle.vl_tree.specs.Tree.{Named, posedge, SignedAmount, a_number, one_limit, SpecifyItem, a_check, two_limit_check, Module, a_module, Source}
use Rattle.elab_model.specs.declared.kinds.ElabKind.TheVariants.{SecondDriver}
use Rattle.elab_model.specs.Faults.{fault}
use Rattle.circuit_model.specs.CheckUses.{check_uses}
use Rattle.circuit_model.specs.Circuits.{circuit}
use Rattle.circuit_model.specs.Faults.{faults}
use Rattle.circuit_model.proofs.Writing.{here, name, use_of, port_item, gate_item, term, block_item, plainly, whole_number, module_as, listing, net, element}

-- $setuphold (posedge ck, d, -2, 5, , , , , delayed);
abbrev setuphold : Option Named → SpecifyItem
setuphold delayed =
    a_check (two_limit_check (here 51) two.SetupHold
    (record { place = here 52; edge = Some posedge; term = term (codes "ck") 53; condition = None })
    (record { place = here 54; edge = None; term = term (codes "d") 54; condition = None })
    (one_limit (record { negative = true; amount = a_number (here 55) (whole_number 2) }))
    (one_limit (record { negative = false; amount = a_number (here 56) (whole_number 5) })) None None delayed)

-- module t (q, ck, d); output q; input ck, d; buf (q, dd); specify $setuphold (posedge ck, d, -2, 5, , , , , delayed); endspecify endmodule
abbrev latch : Option Named → Module
latch delayed =
    module_as plainly (codes "t") 7 (listing (name (codes "q") 10 ∷ name (codes "ck") 11 ∷ name (codes "d") 12 ∷ []))
    (port_item Output None (name (codes "q") 20 ∷ [])
    ∷ port_item Input None (name (codes "ck") 21 ∷ name (codes "d") 22 ∷ [])
    ∷ gate_item Buf 40 (use_of (codes "q") 41 ∷ use_of (codes "dd") 42 ∷ [])
    ∷ block_item 50 (setuphold delayed ∷ [])
    ∷ [])

abbrev alone : Option Named → Source
alone delayed = a_module (latch delayed) ∷ []

abbrev to_dd : Option Named
to_dd = Some (name (codes "dd") 57)

-- dd is driven by what delays d; the delayed copy of ck, which has no name, is a net of its own
nets_named : (circuit (alone to_dd) (latch to_dd) Typ).nets ≡
    net 0 (codes "q") None (driver.Element 0) ∷ net 0 (codes "ck") None driver.Stimulus ∷ net 0 (codes "d") None driver.Stimulus
    ∷ net 0 (codes "dd") None (driver.Element 2) ∷ net 0 (codes "ck") None (driver.Element 1) ∷ []
nets_named = refl

elements_named : (circuit (alone to_dd) (latch to_dd) Typ).elements ≡
    element 0 (3 ∷ []) 0 (Gate Buf []) ∷ element 0 (1 ∷ []) 4 (Late 0) ∷ element 0 (2 ∷ []) 3 (Late 0) ∷ []
elements_named = refl

lates_named : map (λ u. u.lates) (check_uses (alone to_dd) (latch to_dd) Typ) ≡ Some (1 ∷ 2 ∷ []) ∷ []
lates_named = refl

limits_named : map (λ u. u.limits) (check_uses (alone to_dd) (latch to_dd) Typ) ≡ (negsuc 1 ∷ pos 5 ∷ []) ∷ []
limits_named = refl

taken : faults (alone to_dd) None Typ ≡ []
taken = refl

-- without a name dd stays without a driver, and the copy of d is a net of its own too
nets_unnamed : (circuit (alone None) (latch None) Typ).nets ≡
    net 0 (codes "q") None (driver.Element 0) ∷ net 0 (codes "ck") None driver.Stimulus ∷ net 0 (codes "d") None driver.Stimulus ∷ net 0 (codes "dd") None driver.Nobody
    ∷ net 0 (codes "ck") None (driver.Element 1) ∷ net 0 (codes "d") None (driver.Element 2) ∷ []
nets_unnamed = refl

-- a delayed signal that a gate drives
driven_twice : faults (alone (Some (name (codes "q") 57))) None Typ ≡ fault SecondDriver (here 57) ∷ []
driven_twice = refl
