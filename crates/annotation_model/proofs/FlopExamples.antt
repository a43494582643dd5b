-- Worked examples of interconnect delays and timing checks, reckoned by hand: two flip-flops u0 and u1 of a module DFF in top, of which u0/Q is
-- q[0], net 3, and leads to u1/D.
use Rattle.std.specs.Prelude.{◌≡◌, refl, ℕ, ℤ, pos, neg_ℤ, true, false, List, [], ◌∷◌, map, replicate, Some, None, codes}
use Rattle.sg_logic.specs.declared.values.Value.TheVariants.{Zero, X}
use Rattle.sg_logic.specs.declared.edges.TheConstants.{POSEDGE}
use Rattle.sg_delay.specs.declared.corners.Corner.TheVariants.{Min, Typ, Max}
use Rattle.sg_delay.specs.declared.limits.PulseStyle.TheVariants.{OnEvent}
use Rattle.udp_rows.specs.Meaning.{Primitive}
use Rattle.sg_circuit.specs.declared.scopes.Port.TheVariants.{Input, Output, Inner}
use Rattle.sg_circuit.specs.declared.checks.Check.{Check}
use Rattle.sg_circuit.specs.declared.checks.CheckKind.TheVariants as check
use Rattle.sg_circuit.specs.declared.checks.CheckTiming.{CheckTiming}
use Rattle.sg_circuit.specs.Checks.{CheckConditions}
use Rattle.sg_circuit.specs.Timings.{Timing}
use Rattle.sg_circuit.specs.Paths as specify
use Rattle.sg_circuit.specs.Circuit.{Circuit, Element, Variable, Scope, Leg, Path, Pass, Udp}
use Rattle.sdf_tree.specs.declared.tree.PairCheck.TheVariants as pair
use Rattle.sdf_tree.specs.declared.tree.WindowCheck.TheVariants as window
use Rattle.sdf_tree.specs.declared.tree.SingleCheck.TheVariants as single
use Rattle.sdf_tree.specs.declared.words.Divider.TheVariants.{Slash}
use Rattle.sdf_tree.specs.Written.{always, the_top, all_of_type, the_path}
use Rattle.sdf_tree.specs.Meant.{Triple, pair_check, window_check, single_check, io_path, port_delay, interconnect, a_check, Sdf}
use Rattle.annotation_model.specs.Given.{given}
use Rattle.annotation_model.specs.Ports.{bits_of}
use Rattle.annotation_model.specs.Scopes.{is_of_cell}
use Rattle.annotation_model.specs.Spots.{Spot, leg_spot, spot_after, all_checked, limits_after}
use Rattle.annotation_model.specs.Annotated.{annotated, too_large, unmatched}
use Rattle.annotation_model.proofs.Samples.{event, decimal, whole, lone, delay, port, from, rising, at_line, entry, more, cell, nanoseconds, flat, delays, scalar, scope, two, timings}

-- ---- the circuit, by the values that entries may change

abbrev q_path : List Timing → specify.Path
q_path ts = record { input = 6; edge = Some POSEDGE; condition = specify.Always; timings = ts }

abbrev q1_path : specify.Path
q1_path = record { input = 10; edge = Some POSEDGE; condition = specify.Always; timings = timings (two 200 300) }

abbrev leg : ℕ → (input output : ℕ) → List Timing → Element
leg s input output ts = record { scope = s; inputs = input ∷ []; output = output; kind = Leg ts }

abbrev flop : Primitive
flop = record { inputs = 3; sequential = true; rows = [] }

abbrev held : ℕ → List ℕ → (output : ℕ) → Element
held s inputs output = record { scope = s; inputs = inputs; output = output; kind = Udp flop X [] }

abbrev leads : ℕ → (input output : ℕ) → specify.Path → Element
leads s input output p = record { scope = s; inputs = input ∷ []; output = output; kind = Path (p ∷ []) OnEvent }

abbrev vector_q : Variable
vector_q = record { name = codes "q"; range = Some (record { left = pos 1; right = pos 0 }); is_reg = false; port = Output; bits = 2 ∷ 3 ∷ [] }

abbrev notifier : ℕ → Variable
notifier n = record { name = codes "notifier"; range = None; is_reg = true; port = Inner; bits = n ∷ [] }

abbrev top_scope : Scope
top_scope = scope None (codes "top") (codes "top") false (neg_ℤ (pos 12)) (scalar (codes "ck") Input 0 ∷ scalar (codes "d[0]") Input 1 ∷ vector_q ∷ scalar (codes "n") Inner 4 ∷ [])

abbrev dff : List ℕ → (q d ck n : ℕ) → Scope
dff name q d ck n =
    scope (Some 0) name (codes "DFF") true (neg_ℤ (pos 12)) (scalar (codes "Q") Output q ∷ scalar (codes "D") Input d ∷ scalar (codes "CK") Input ck ∷ notifier n ∷ [])

abbrev setuphold : ℕ → (n : ℕ) → Check
setuphold s n = record {
  scope = s;
  kind = check.Setuphold;
  refer = record { name = codes "CK"; bit = None };
  datum = Some (record { name = codes "D"; bit = None });
  notifier = Some n;
  place = at_line 8;
}

abbrev width : ℕ → (n : ℕ) → Check
width s n = record { scope = s; kind = check.Width; refer = record { name = codes "CK"; bit = None }; datum = None; notifier = Some n; place = at_line 9 }

abbrev setuphold_timing : (d ck : ℕ) → List ℤ → CheckTiming
setuphold_timing d ck ls = record { kind = check.Setuphold; refer = event ck (Some POSEDGE); datum = Some (event d None); limits = ls; threshold = 0; late = None }

abbrev width_timing : (ck : ℕ) → List ℤ → CheckTiming
width_timing ck ls = record { kind = check.Width; refer = event ck (Some POSEDGE); datum = None; limits = ls; threshold = 0; late = None }

abbrev no_words : CheckConditions
no_words = record { refer = None; datum = None }

abbrev flops : (q d ck : List Timing) → (window length : List ℤ) → Circuit
flops q d ck window length = record {
  tick = neg_ℤ (pos 12);
  nets = [];
  elements =
      record { scope = 0; inputs = []; output = 4; kind = Pass (Some Zero) }
      ∷ leg 1 1 5 (flat 0) ∷ leg 1 0 6 (flat 0) ∷ held 1 (5 ∷ 6 ∷ 7 ∷ []) 8 ∷ leads 1 8 3 (q_path q)
      ∷ leg 2 3 9 d ∷ leg 2 0 10 ck ∷ held 2 (9 ∷ 10 ∷ 11 ∷ []) 12 ∷ leads 2 12 2 q1_path ∷ [];
  udps = record { primitive = flop; first = X } ∷ [];
  checks = setuphold 1 7 ∷ width 1 7 ∷ setuphold 2 11 ∷ width 2 11 ∷ [];
  check_timings = setuphold_timing 5 6 window ∷ width_timing 6 length ∷ setuphold_timing 9 10 (pos 100 ∷ pos 50 ∷ []) ∷ width_timing 10 (pos 100 ∷ pos 0 ∷ []) ∷ [];
  check_conditions = no_words ∷ no_words ∷ no_words ∷ no_words ∷ [];
  scopes = top_scope ∷ dff (codes "u0") 3 5 6 7 ∷ dff (codes "u1") 2 9 10 11 ∷ [];
  zeroed = [];
}

-- as the netlist has it
abbrev plain_flops : Circuit
plain_flops = flops (timings (two 200 300)) (flat 0) (flat 0) (pos 100 ∷ pos 50 ∷ []) (pos 100 ∷ pos 0 ∷ [])

-- ---- a usual file

abbrev hundredths : ℕ → Triple
hundredths n = lone (decimal n (neg_ℤ (pos 2)))

abbrev corners : (low middle high : ℕ) → Triple
corners a b c = record { min = Some (decimal a (neg_ℤ (pos 2))); typ = Some (decimal b (neg_ℤ (pos 2))); max = Some (decimal c (neg_ℤ (pos 2))) }

abbrev usual : Sdf
usual = nanoseconds
    (cell (codes "top") the_top
    (entry 1 (interconnect (port (codes "ck")) (port (codes "u1/CK")) (delay (hundredths 1) ∷ delay (hundredths 2) ∷ []))
    ∷ entry 2 (interconnect (port (codes "u0/Q")) (port (codes "u1/D")) (delay (hundredths 3) ∷ []))
    ∷ [])
    ∷ cell (codes "DFF") (the_path (codes "u0"))
    (entry 3 (io_path always (rising (codes "CK")) (port (codes "Q")) (delay (corners 25 30 40) ∷ delay (corners 20 25 30) ∷ []))
    ∷ entry 4 (a_check (window_check window.SetupHold (from (codes "D")) (rising (codes "CK")) (hundredths 8) (hundredths 4)))
    ∷ entry 5 (a_check (single_check single.Width (rising (codes "CK")) (hundredths 15)))
    ∷ [])
    ∷ [])

-- the whole circuit, of which all else stays
pub usual_typical : annotated plain_flops usual Typ ≡ flops (timings (two 300 250)) (flat 30) (timings (two 10 20)) (pos 80 ∷ pos 40 ∷ []) (pos 150 ∷ pos 0 ∷ [])
usual_typical = refl

pub usual_least : annotated plain_flops usual Min ≡ flops (timings (two 250 200)) (flat 30) (timings (two 10 20)) (pos 80 ∷ pos 40 ∷ []) (pos 150 ∷ pos 0 ∷ [])
usual_least = refl

pub usual_greatest : annotated plain_flops usual Max ≡ flops (timings (two 400 300)) (flat 30) (timings (two 10 20)) (pos 80 ∷ pos 40 ∷ []) (pos 150 ∷ pos 0 ∷ [])
usual_greatest = refl

pub usual_matches : unmatched plain_flops usual ≡ []
usual_matches = refl

pub usual_fits : too_large plain_flops usual Typ ≡ None
usual_fits = refl

-- ---- entries of which some are for nothing

-- u0/Q doesn't lead to u1/CK, and the terminals of a hold stand the other way round; top input and leaf are named from the cell's instance
abbrev odd : Sdf
odd = nanoseconds
    (cell (codes "top") the_top
    (entry 1 (interconnect (port (codes "u0/Q")) (port (codes "u1/D")) (delay (hundredths 3) ∷ []))
    ∷ entry 2 (interconnect (port (codes "u0/Q")) (port (codes "u1/CK")) (delay (hundredths 9) ∷ []))
    ∷ entry 3 (io_path always (rising (codes "u0/CK")) (port (codes "u0/Q")) (delay (hundredths 9) ∷ []))
    ∷ entry 4 (interconnect (port (codes "u1/Q")) (record { path = codes "q"; bit = Some (pos 1) }) (delay (hundredths 9) ∷ []))
    ∷ [])
    ∷ cell (codes "DFF") (the_path (codes "u0"))
    (entry 5 (a_check (pair_check pair.Hold (rising (codes "CK")) (from (codes "D")) (lone (whole 1))))
    ∷ entry 6 (a_check (pair_check pair.Setup (from (codes "D")) (from (codes "CK")) (hundredths 7)))
    ∷ entry 7 (a_check (pair_check pair.Hold (from (codes "D")) (rising (codes "CK")) (lone (record { negative = true; digits = 2; exponent = pos 0 }))))
    ∷ entry 8 (a_check (single_check single.Period (rising (codes "CK")) (lone (whole 1))))
    ∷ [])
    ∷ cell (codes "DFF") all_of_type (more 9 (port_delay (port (codes "D")) (delay (lone (decimal 1 (neg_ℤ (pos 3)))) ∷ [])) ∷ [])
    ∷ cell (codes "any") (the_path (codes "u1")) (more 10 (port_delay (port (codes "D")) (delay (lone (decimal 1 (neg_ℤ (pos 3)))) ∷ [])) ∷ [])
    ∷ cell (codes "any") (the_path (codes "u2")) (more 11 (port_delay (port (codes "D")) (delay (lone (decimal 1 (neg_ℤ (pos 3)))) ∷ [])) ∷ [])
    ∷ [])

abbrev odd_after : Spot → List ℕ
odd_after spot = delays (spot_after plain_flops odd Typ (given odd) spot)

pub from_a_leaf : odd_after (leg_spot 2 (3 ∷ []) 9 (flat 0)) ≡ replicate 12 32
from_a_leaf = refl

pub of_the_type_alone : odd_after (leg_spot 1 (1 ∷ []) 5 (flat 0)) ≡ replicate 12 1
of_the_type_alone = refl

pub untouched : odd_after (leg_spot 2 (0 ∷ []) 10 (flat 0)) ≡ replicate 12 0
untouched = refl

-- a setup without an edge is for the first limit of a $setuphold, and a hold for the second, below 0 too
pub limits_of_checks :
    map (limits_after plain_flops odd Typ (given odd)) (all_checked plain_flops)
    ≡ (pos 70 ∷ neg_ℤ (pos 2000) ∷ []) ∷ (pos 100 ∷ pos 0 ∷ []) ∷ (pos 100 ∷ pos 50 ∷ []) ∷ (pos 100 ∷ pos 0 ∷ []) ∷ []
limits_of_checks = refl

pub for_nothing :
    unmatched plain_flops odd
    ≡ (at_line 2, codes "INTERCONNECT") ∷ (at_line 3, codes "IOPATH") ∷ (at_line 4, codes "INTERCONNECT") ∷ (at_line 5, codes "HOLD") ∷ (at_line 8, codes "PERIOD")
    ∷ (at_line 11, codes "PORT") ∷ []
for_nothing = refl

-- ---- names

pub all_of_the_tops_type : is_of_cell plain_flops Slash (codes "top") all_of_type 0 ≡ true
all_of_the_tops_type = refl

pub brackets_of_an_instance : is_of_cell plain_flops Slash (codes "DFF") (the_path (codes "u[0]")) 1 ≡ false
brackets_of_an_instance = refl

pub right_bit : bits_of vector_q (Some (pos 0)) ≡ 3 ∷ []
right_bit = refl

pub all_bits : bits_of vector_q None ≡ 2 ∷ 3 ∷ []
all_bits = refl

pub no_such_bit : bits_of vector_q (Some (pos 2)) ≡ []
no_such_bit = refl
