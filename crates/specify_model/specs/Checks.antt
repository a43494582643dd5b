-- The timing checks of a module's specify blocks, in text order (IEEE 1364-2005, clause 15).
use Rattle.std.specs.Prelude.{ℕ, ℤ, pos, ◌-ℤ◌, List, [], ◌∷◌, Option, Some, None, map, filter_map, if◌then◌else◌}
use Rattle.std.specs.Option.{option_map}
use Rattle.cond_expr.specs.Token.{Tok}
use Rattle.cond_expr.specs.Tree.{Cond}
use Rattle.sg_circuit.specs.declared.checks.CheckKind.{CheckKind}
use Rattle.sg_circuit.specs.declared.checks.CheckKind.TheVariants as kind
use Rattle.sg_delay.specs.declared.corners.Corner.{Corner}
use Rattle.sg_delay.specs.declared.corners.Corner.TheVariants.{Min, Typ, Max}
use Rattle.sg_logic.specs.declared.edges.Edge.{Edge}
use Rattle.sg_text.specs.declared.places.Place.{Place}
use Rattle.vl_tree.specs.declared.check_names.OneLimitCheck.{OneLimitCheck}
use Rattle.vl_tree.specs.declared.check_names.OneLimitCheck.TheVariants as one
use Rattle.vl_tree.specs.declared.check_names.TwoLimitCheck.{TwoLimitCheck}
use Rattle.vl_tree.specs.declared.check_names.TwoLimitCheck.TheVariants as two
use Rattle.vl_tree.specs.declared.expressions.Select.{Select}
use Rattle.vl_tree.specs.declared.expressions.Select.TheVariants as select
use Rattle.vl_tree.specs.Tree.{Named, SignedAmount, Limit, one_limit, three_limits, Event, Check, one_limit_check, two_limit_check, width_check, period_check, SpecifyItem, specparams, a_path, pulse_style, a_check, Module}
use Rattle.elab_model.specs.Names.{Variable, variables}
use Rattle.specify_model.specs.Blocks.{specify_items, parameters}
use Rattle.specify_model.specs.Conditions.{tokens, tree_of, bound_to, first_bit}
use Rattle.specify_model.specs.Outputs.{measure}
use Rattle.specify_model.specs.Paths.{edge_of}
use Rattle.elab_model.specs.Terms.{NetBit, term_bits}
use Rattle.elab_model.specs.Lates.{DelayedCopy}
use Rattle.specify_model.specs.Values.{Measure, Values, value_of, amount_ticks}

abbrev pub check_of_item : SpecifyItem → Option Check
check_of_item (specparams p ps) = None
check_of_item (a_path p) = None
check_of_item (pulse_style p s ts) = None
check_of_item (a_check c) = Some c

abbrev pub check_texts : List SpecifyItem → List Check
check_texts items = filter_map check_of_item items

-- ---- the parts of a check's text

abbrev pub place_of : Check → Place
place_of (one_limit_check p k r d l n) = p
place_of (two_limit_check p k r d l m n f g) = p
place_of (width_check p r l t n) = p
place_of (period_check p r l n) = p

abbrev pub one_limit_kind : OneLimitCheck → CheckKind
one_limit_kind one.Setup = kind.Setup
one_limit_kind one.Hold = kind.Hold
one_limit_kind one.Recovery = kind.Recovery
one_limit_kind one.Removal = kind.Removal
one_limit_kind one.Skew = kind.Skew

abbrev pub two_limit_kind : TwoLimitCheck → CheckKind
two_limit_kind two.SetupHold = kind.Setuphold
two_limit_kind two.RecRem = kind.Recrem

abbrev pub kind_of : Check → CheckKind
kind_of (one_limit_check p k r d l n) = one_limit_kind k
kind_of (two_limit_check p k r d l m n f g) = two_limit_kind k
kind_of (width_check p r l t n) = kind.Width
kind_of (period_check p r l n) = kind.Period

abbrev pub reference_of : Check → Event
reference_of (one_limit_check p k r d l n) = r
reference_of (two_limit_check p k r d l m n f g) = r
reference_of (width_check p r l t n) = r
reference_of (period_check p r l n) = r

abbrev pub data_of : Check → Option Event
data_of (one_limit_check p k r d l n) = Some d
data_of (two_limit_check p k r d l m n f g) = Some d
data_of (width_check p r l t n) = None
data_of (period_check p r l n) = None

-- in the order of the text
abbrev pub limits_in : Check → List Limit
limits_in (one_limit_check p k r d l n) = l ∷ []
limits_in (two_limit_check p k r d l m n f g) = l ∷ m ∷ []
limits_in (width_check p r l t n) = l ∷ []
limits_in (period_check p r l n) = l ∷ []

abbrev pub threshold_of : Check → Option Limit
threshold_of (one_limit_check p k r d l n) = None
threshold_of (two_limit_check p k r d l m n f g) = None
threshold_of (width_check p r l t n) = t
threshold_of (period_check p r l n) = None

abbrev pub notifier_of : Check → Option Named
notifier_of (one_limit_check p k r d l n) = n
notifier_of (two_limit_check p k r d l m n f g) = n
notifier_of (width_check p r l t n) = n
notifier_of (period_check p r l n) = n

-- ---- what they mean

-- the events of a terminal: the bit, how the text names it, the changes of it that are events, and what enables them (15.1, 15.4, 15.6)
pub record ModuleEvent : Type 0 where
  pub bit : NetBit
  pub index : Option ℤ
  pub edge : Option Edge
  pub condition : Option (List Tok × Cond NetBit)

abbrev pub index_in : Option Select → Option ℤ
index_in None = None
index_in (Some (select.Bit i)) = Some i
index_in (Some (select.Part left right)) = Some left

abbrev pub enabled_by : List Variable → List Tok → List Tok × Cond NetBit
enabled_by vs ts = (ts, bound_to vs ts (tree_of ts))

abbrev pub event_of : List Variable → Event → ModuleEvent
event_of vs e = record {
  bit = first_bit (term_bits vs e.term);
  index = index_in e.term.select;
  edge = option_map edge_of e.edge;
  condition = option_map (λ ws. enabled_by vs (tokens ws)) e.condition;
}

-- a corner's part of a limit, in ticks (7.14.1)
abbrev pub corner_limit : Corner → Limit → SignedAmount
corner_limit corner (one_limit a) = a
corner_limit Min (three_limits min typ max) = min
corner_limit Typ (three_limits min typ max) = typ
corner_limit Max (three_limits min typ max) = max

abbrev pub size_ticks : Measure → Values → SignedAmount → ℕ
size_ticks by values a = amount_ticks by values a.amount

abbrev pub signed_ticks : Measure → Values → SignedAmount → ℤ
signed_ticks by values a = if a.negative then (pos 0 -ℤ pos (size_ticks by values a)) else pos (size_ticks by values a)

abbrev pub limit_ticks : Measure → Values → Limit → ℤ
limit_ticks by values l = signed_ticks by values (corner_limit by.corner l)

-- a threshold, which has no sign; without one it is 0 (15.3.4)
abbrev pub threshold_ticks : Measure → Values → Option Limit → ℕ
threshold_ticks by values None = 0
threshold_ticks by values (Some l) = size_ticks by values (corner_limit by.corner l)

-- the delayed copy that a check sees in place of a terminal's bit (15.8)
abbrev pub name_bit : Named → NetBit
name_bit n = record { name = n.text; position = 0 }

abbrev pub copy_of : List Variable → Event → Option Named → DelayedCopy
copy_of vs e n = record { signal = first_bit (term_bits vs e.term); named = option_map name_bit n }

-- those of reference and data, where the check takes limits below 0
abbrev pub check_copies : List Variable → Check → Option (DelayedCopy × DelayedCopy)
check_copies vs (one_limit_check p k r d l n) = None
check_copies vs (two_limit_check p k r d l m n f g) = Some (copy_of vs r f, copy_of vs d g)
check_copies vs (width_check p r l t n) = None
check_copies vs (period_check p r l n) = None

-- a check: limits in ticks, in the order of the text; the reg that a violation toggles (15.5); the copies of signals that it sees
pub record ModuleCheck : Type 0 where
  pub place : Place
  pub kind : CheckKind
  pub refer : ModuleEvent
  pub datum : Option ModuleEvent
  pub limits : List ℤ
  pub threshold : ℕ
  pub notifier : Option NetBit
  pub copies : Option (DelayedCopy × DelayedCopy)

-- a reg has one bit
abbrev pub reg_bit : Named → NetBit
reg_bit n = record { name = n.text; position = 0 }

abbrev pub module_check : Measure → List Variable → Values → Check → ModuleCheck
module_check by vs values c = record {
  place = place_of c;
  kind = kind_of c;
  refer = event_of vs (reference_of c);
  datum = option_map (event_of vs) (data_of c);
  limits = map (limit_ticks by values) (limits_in c);
  threshold = threshold_ticks by values (threshold_of c);
  notifier = option_map reg_bit (notifier_of c);
  copies = check_copies vs c;
}

abbrev pub module_checks : Measure → List Variable → List SpecifyItem → List ModuleCheck
module_checks by vs items = map (module_check by vs (value_of (parameters items))) (check_texts items)

abbrev pub timing_checks : Corner → ℤ → Module → List ModuleCheck
timing_checks corner tick m = module_checks (measure corner tick m) (variables m) (specify_items m)
