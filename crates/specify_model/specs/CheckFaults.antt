-- Faults of timing checks, each with its place (IEEE 1364-2005, clause 15).
use Rattle.std.specs.Prelude.{ℕ, ◌+◌, ◌*◌, nat_le, ℤ, List, [], ◌∷◌, ◌++◌, Bool, true, false, ◌&&◌, not, Option, Some, None, is_none, flat_map, if◌then◌else◌}
use Rattle.sg_circuit.specs.declared.checks.CheckKind.{CheckKind}
use Rattle.sg_circuit.specs.declared.checks.CheckKind.TheVariants as kind
use Rattle.sg_circuit.specs.Signals.{takes_lates}
use Rattle.sg_delay.specs.declared.corners.Corner.{Corner}
use Rattle.sg_text.specs.declared.places.Place.{Place}
use Rattle.vl_tree.specs.Tree.{Named, SignedAmount, Limit, one_limit, three_limits, Word, Event, Check, SpecifyItem, Module}
use Rattle.elab_model.specs.declared.kinds.ElabKind.TheVariants.{UnknownName, BadTerminal, BadDelay}
use Rattle.elab_model.specs.Bits.{variable_named}
use Rattle.elab_model.specs.Faults.{Fault, fault_if}
use Rattle.elab_model.specs.Lates.{signal_count}
use Rattle.elab_model.specs.Names.{Variable, variables}
use Rattle.elab_model.specs.TerminalFaults.{delay_limit}
use Rattle.specify_model.specs.Blocks.{specify_items, parameters}
use Rattle.specify_model.specs.Checks.{check_texts, kind_of, reference_of, data_of, limits_in, threshold_of, notifier_of, corner_limit, size_ticks}
use Rattle.specify_model.specs.Faults.{operand_faults, condition_faults, unknown_faults, amount_place}
use Rattle.specify_model.specs.Outputs.{measure}
use Rattle.specify_model.specs.Values.{Measure, Values, value_of}

-- ---- terminals

-- those of one event have an edge (15.3.4, 15.3.5)
abbrev pub wants_edge : CheckKind → Bool
wants_edge kind.Width = true
wants_edge kind.Period = true
wants_edge _ = false

abbrev pub edge_faults : Check → List Fault
edge_faults c = fault_if (wants_edge (kind_of c) && is_none (reference_of c).edge) BadTerminal (reference_of c).place

-- a terminal is one bit of what is declared, and so is each operand of its condition (15.6)
abbrev pub words_faults : List Variable → Place → Option (List Word) → List Fault
words_faults vs p None = []
words_faults vs p (Some ws) = condition_faults vs p ws

abbrev pub event_condition_faults : List Variable → Event → List Fault
event_condition_faults vs e = words_faults vs e.place e.condition

abbrev pub event_faults : List Variable → Event → List Fault
event_faults vs e = operand_faults vs e.term ++ event_condition_faults vs e

abbrev pub some_event_faults : List Variable → Option Event → List Fault
some_event_faults vs None = []
some_event_faults vs (Some e) = event_faults vs e

-- ---- limits

abbrev pub limit_parts : Limit → List SignedAmount
limit_parts (one_limit a) = a ∷ []
limit_parts (three_limits min typ max) = min ∷ typ ∷ max ∷ []

-- A limit that may lie below 0 weighs once, and once more for each signal of the module that has delayed copies: so much it may add up to in a delay (15.8). Any other weighs once.
abbrev pub weight_of : (signals : ℕ) → CheckKind → ℕ
weight_of signals kind = if takes_lates kind then signals + 1 else 1

-- it is too long, which is asked of the corner's part alone
abbrev pub heavy_faults : (weight : ℕ) → Measure → Values → SignedAmount → List Fault
heavy_faults weight by values a = fault_if (nat_le delay_limit (size_ticks by values a * weight)) BadDelay (amount_place a.amount)

-- a specparam that there isn't, in any part; what is too long
abbrev pub limit_faults : (weight : ℕ) → Measure → Values → Limit → List Fault
limit_faults weight by values l = flat_map (λ a. unknown_faults values a.amount) (limit_parts l) ++ heavy_faults weight by values (corner_limit by.corner l)

abbrev pub threshold_faults : Measure → Values → Option Limit → List Fault
threshold_faults by values None = []
threshold_faults by values (Some l) = limit_faults 1 by values l

-- ---- notifiers

-- it is declared, and as a reg (15.5)
abbrev pub found_notifier_faults : Named → Option Variable → List Fault
found_notifier_faults n None = fault_if true UnknownName n.place
found_notifier_faults n (Some v) = fault_if (not v.is_reg) BadTerminal n.place

abbrev pub notifier_faults : List Variable → Option Named → List Fault
notifier_faults vs None = []
notifier_faults vs (Some n) = found_notifier_faults n (variable_named vs n.text)

-- ---- all; of delayed signals the names and widths are those of a member (`elab_model`)

abbrev pub check_faults : (signals : ℕ) → Measure → List Variable → Values → Check → List Fault
check_faults signals by vs values c =
    edge_faults c
    ++ (event_faults vs (reference_of c)
    ++ (some_event_faults vs (data_of c)
    ++ (flat_map (limit_faults (weight_of signals (kind_of c)) by values) (limits_in c) ++ (threshold_faults by values (threshold_of c) ++ notifier_faults vs (notifier_of c)))))

abbrev pub all_check_faults : (signals : ℕ) → Measure → List Variable → List SpecifyItem → List Fault
all_check_faults signals by vs items = flat_map (check_faults signals by vs (value_of (parameters items))) (check_texts items)

abbrev pub timing_check_faults : Corner → ℤ → Module → List Fault
timing_check_faults corner tick m = all_check_faults (signal_count m) (measure corner tick m) (variables m) (specify_items m)
