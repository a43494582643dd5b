-- A netlist with a timing check: the check over nets, and its notifier.
use Rattle.std.specs.Prelude.{◌≡◌, [], ◌∷◌, Some, None, false, refl, codes, pos}
use Rattle.sg_circuit.specs.declared.checks.CheckKind.TheVariants as kind
use Rattle.sg_circuit.specs.declared.nets.Driver.TheVariants as driver
use Rattle.sg_delay.specs.declared.corners.Corner.TheVariants.{Typ}
use Rattle.sg_logic.specs.declared.edges.TheConstants.{POSEDGE}
use Rattle.sg_logic.specs.declared.gates.GateKind.TheVariants.{Buf}
use Rattle.vl_tree.specs.declared.check_names.OneLimitCheck.TheVariants as one
use Rattle.vl_tree.specs.declared.names.Direction.TheVariants.{Input, Output}
use Rattle.vl_tree.specs.Tree.{posedge, a_number, one_limit, SpecifyItem, a_check, one_limit_check, Module, a_module, Source}
use Rattle.circuit_model.specs.CheckUses.{CheckUse, check_uses}
use Rattle.circuit_model.specs.Circuits.{circuit}
use Rattle.circuit_model.specs.Faults.{faults}
use Rattle.circuit_model.proofs.Writing.{here, name, use_of, port_item, reg_item, gate_item, term, block_item, plainly, whole_number, module_as, listing, net}

-- $setup (d, posedge ck, 2, n);
abbrev setup : SpecifyItem
setup =
    a_check (one_limit_check (here 51) one.Setup
    (record { place = here 53; edge = Some posedge; term = term (codes "ck") 54; condition = None })
    (record { place = here 52; edge = None; term = term (codes "d") 52; condition = None })
    (one_limit (record { negative = false; amount = a_number (here 55) (whole_number 2) })) (Some (name (codes "n") 56)))

-- module t (q, ck, d); output q; input ck, d; reg n; buf (q, d); specify $setup (d, posedge ck, 2, n); endspecify endmodule
abbrev latch : Module
latch =
    module_as plainly (codes "t") 7 (listing (name (codes "q") 10 ∷ name (codes "ck") 11 ∷ name (codes "d") 12 ∷ []))
    (port_item Output None (name (codes "q") 20 ∷ [])
    ∷ port_item Input None (name (codes "ck") 21 ∷ name (codes "d") 22 ∷ [])
    ∷ reg_item (name (codes "n") 30 ∷ [])
    ∷ gate_item Buf 40 (use_of (codes "q") 41 ∷ use_of (codes "d") 42 ∷ [])
    ∷ block_item 50 (setup ∷ [])
    ∷ [])

abbrev alone : Source
alone = a_module latch ∷ []

abbrev a_use : CheckUse
a_use = record {
  scope = 0;
  place = here 51;
  kind = kind.Setup;
  refer = record { net = 1; terminal = record { name = codes "ck"; bit = None }; edge = Some POSEDGE; condition = None };
  datum = Some (record { net = 2; terminal = record { name = codes "d"; bit = None }; edge = None; condition = None });
  limits = pos 2 ∷ [];
  threshold = 0;
  notifier = Some 3;
  lates = None;
}

over_nets : check_uses alone latch Typ ≡ a_use ∷ []
over_nets = refl

notified : (circuit alone latch Typ).nets ≡
    net 0 (codes "q") None (driver.Element 0) ∷ net 0 (codes "ck") None driver.Stimulus ∷ net 0 (codes "d") None driver.Stimulus ∷ net 0 (codes "n") None driver.Notifier ∷ []
notified = refl

-- how a report names it, and where its text stands
named : (circuit alone latch Typ).checks ≡
    record {
      scope = 0;
      kind = kind.Setup;
      refer = record { name = codes "ck"; bit = None };
      datum = Some (record { name = codes "d"; bit = None });
      notifier = Some 3;
      place = here 51;
    } ∷ []
named = refl

-- what is looked for, and how conditions are spelled
looked_for : (circuit alone latch Typ).check_timings ≡
    record {
      kind = kind.Setup;
      refer = record { net = 1; edge = Some POSEDGE; condition = None };
      datum = Some (record { net = 2; edge = None; condition = None });
      limits = pos 2 ∷ pos 0 ∷ [];
      threshold = 0;
      late = None;
    } ∷ []
looked_for = refl

spelled : (circuit alone latch Typ).check_conditions ≡ record { refer = None; datum = None } ∷ []
spelled = refl

taken : faults alone None Typ ≡ []
taken = refl
