-- Which places of a circuit an entry is for: paths, legs, and parts of timing checks (IEEE 1497-2001; IEEE 1364-2005, 16.2).
use Rattle.std.specs.Prelude.{ℕ, ◌==◌, ◌&&◌, ◌||◌, Bool, true, false, List, [], ◌∷◌, length, Option, Some, None, if◌then◌else◌}
use Rattle.std.specs.List.{list_any, range_with_len}
use Rattle.sg_circuit.specs.declared.checks.CheckTiming.{CheckTiming}
use Rattle.sg_circuit.specs.declared.checks.Event.{Event}
use Rattle.sg_circuit.specs.declared.checks.CheckKind.{CheckKind}
use Rattle.sg_circuit.specs.declared.checks.CheckKind.TheVariants as kind
use Rattle.sg_circuit.specs.declared.scopes.Port.{Port as PortKind}
use Rattle.cond_expr.specs.Token.{Tok}
use Rattle.sg_circuit.specs.Checks.{CheckConditions}
use Rattle.sg_circuit.specs.Paths as specify
use Rattle.sg_circuit.specs.Circuit.{Circuit, scope_at}
use Rattle.sdf_tree.specs.declared.tree.PairCheck.TheVariants as pair
use Rattle.sdf_tree.specs.declared.tree.WindowCheck.TheVariants as window
use Rattle.sdf_tree.specs.declared.tree.SingleCheck.TheVariants as single
use Rattle.sdf_tree.specs.declared.words.Divider.{Divider}
use Rattle.sdf_tree.specs.Written.{Port, Terminal, PathCondition, always, otherwise, if_words}
use Rattle.sdf_tree.specs.Meant.{Triple, CellCheck, pair_check, window_check, single_check, EntryKind, io_path, device, port_delay, interconnect, path_pulse, a_check, skipped_entry}
use Rattle.annotation_model.specs.Given.{Given}
use Rattle.annotation_model.specs.Scopes.{names_back, climb, is_scope, is_of_cell}
use Rattle.annotation_model.specs.Ports.{has, is_input, is_output, is_any, nets_named, own_nets}
use Rattle.annotation_model.specs.Same.{fits_edge, fits_words, same_condition}

-- the nets of a port of a scope itself
abbrev pub port_nets : Circuit → Divider → (PortKind → Bool) → ℕ → Port → List ℕ
port_nets c divider role s port = own_nets c role s (names_back divider port.path) port.bit

-- ---- paths (IEEE 1497-2001, IOPATH, COND, CONDELSE, DEVICE, PATHPULSE and PATHPULSEPERCENT; IEEE 1364-2005, 16.2.1)

-- without a condition all will do, those of paths with a condition and `ifnone` too
abbrev pub fits_condition : PathCondition → specify.PathCondition → Bool
fits_condition always condition = true
fits_condition (if_words words) (specify.If written bound) = same_condition written words
fits_condition (if_words words) specify.Always = false
fits_condition (if_words words) specify.IfNone = false
fits_condition otherwise specify.IfNone = true
fits_condition otherwise specify.Always = false
fits_condition otherwise (specify.If written bound) = false

-- whether a path leads between two ports of a scope
abbrev pub leads_between : Circuit → Divider → ℕ → (from to : Port) → (output : ℕ) → specify.Path → Bool
leads_between c divider s from to output p = has p.input (port_nets c divider is_input s from) && has output (port_nets c divider is_output s to)

-- whether what an entry is of is for a path of a scope that leads to an output's net
abbrev pub fits_path : Circuit → Divider → EntryKind → ℕ → (output : ℕ) → specify.Path → Bool
fits_path c divider (io_path condition from to delays) s output p = leads_between c divider s from.port to output p && fits_edge from.edge p.edge && fits_condition condition p.condition
fits_path c divider (device None delays) s output p = true
fits_path c divider (device (Some port) delays) s output p = has output (port_nets c divider is_output s port)
fits_path c divider (path_pulse percent None reject error) s output p = true
fits_path c divider (path_pulse percent (Some ports) reject error) s output p = leads_between c divider s ports.0 ports.1 output p
fits_path c divider (port_delay port delays) s output p = false
fits_path c divider (interconnect from to delays) s output p = false
fits_path c divider (a_check check) s output p = false
fits_path c divider (skipped_entry skipped) s output p = false

abbrev pub is_for_path : Circuit → Divider → Given → ℕ → (output : ℕ) → specify.Path → Bool
is_for_path c divider g s output p = is_of_cell c divider g.cell_type g.instance s && fits_path c divider g.entry.kind s output p

-- ---- legs (IEEE 1497-2001, PORT and INTERCONNECT; IEEE 1364-2005, 16.2.4)

-- the scope below which a port is named, where it is one of a scope and has a net
abbrev pub named_from : Circuit → (PortKind → Bool) → ℕ → List (List ℕ) → (net : ℕ) → Port → Option ℕ
named_from c role s [] net port = None
named_from c role s (name ∷ path) net port = if has net (nets_named role (scope_at c s).variables name port.bit) then climb c path (Some s) else None

abbrev pub is_cell_scope : Circuit → Divider → Given → Option ℕ → Bool
is_cell_scope c divider g None = false
is_cell_scope c divider g (Some t) = is_of_cell c divider g.cell_type g.instance t

-- whether a net is a bit of a port that is named below a scope: of a leaf's output, or of the top's input
abbrev pub is_source_in : Circuit → Divider → (below : ℕ) → Port → (net : ℕ) → ℕ → Bool
is_source_in c divider below port net u =
    ((scope_at c u).is_leaf && is_scope below (named_from c is_output u (names_back divider port.path) net port))
    || ((u == 0) && is_scope below (named_from c is_input u (names_back divider port.path) net port))

abbrev pub is_source : Circuit → Divider → Port → (net : ℕ) → Option ℕ → Bool
is_source c divider port net None = false
is_source c divider port net (Some below) = list_any (is_source_in c divider below port net) (range_with_len 0 (length c.scopes))

-- the net that a leg reads
abbrev pub only : List ℕ → ℕ
only [] = 0
only (x ∷ xs) = x

-- whether an entry is for a leg of a scope
abbrev pub leads_below : Circuit → Divider → ℕ → (output : ℕ) → Port → Option ℕ
leads_below c divider s output port = named_from c is_input s (names_back divider port.path) output port

abbrev pub fits_leg : Circuit → Divider → Given → EntryKind → ℕ → (inputs : List ℕ) → (output : ℕ) → Bool
fits_leg c divider g (port_delay port delays) s inputs output = is_cell_scope c divider g (leads_below c divider s output port)
fits_leg c divider g (interconnect from to delays) s inputs output =
    is_cell_scope c divider g (leads_below c divider s output to) && is_source c divider from (only inputs) (leads_below c divider s output to)
fits_leg c divider g (io_path condition from to delays) s inputs output = false
fits_leg c divider g (device port delays) s inputs output = false
fits_leg c divider g (path_pulse percent ports reject error) s inputs output = false
fits_leg c divider g (a_check check) s inputs output = false
fits_leg c divider g (skipped_entry skipped) s inputs output = false

abbrev pub is_for_leg : Circuit → Divider → Given → ℕ → (inputs : List ℕ) → (output : ℕ) → Bool
is_for_leg c divider g s inputs output = fits_leg c divider g g.entry.kind s inputs output

-- ---- timing checks (IEEE 1497-2001, timing check entries; IEEE 1364-2005, 16.2.2)

-- which limit an entry gives to the first part of a check, and which to the second
abbrev pub limits_for : CellCheck → CheckKind → Option Triple × Option Triple
limits_for (pair_check pair.Setup f s l) kind.Setup = (Some l, None)
limits_for (pair_check pair.Setup f s l) kind.Setuphold = (Some l, None)
limits_for (pair_check pair.Hold f s l) kind.Hold = (Some l, None)
limits_for (pair_check pair.Hold f s l) kind.Setuphold = (None, Some l)
limits_for (pair_check pair.Recovery f s l) kind.Recovery = (Some l, None)
limits_for (pair_check pair.Recovery f s l) kind.Recrem = (Some l, None)
limits_for (pair_check pair.Removal f s l) kind.Removal = (Some l, None)
limits_for (pair_check pair.Removal f s l) kind.Recrem = (None, Some l)
limits_for (pair_check pair.Skew f s l) kind.Skew = (Some l, None)
limits_for (window_check window.SetupHold f s l m) kind.Setuphold = (Some l, Some m)
limits_for (window_check window.SetupHold f s l m) kind.Setup = (Some l, None)
limits_for (window_check window.SetupHold f s l m) kind.Hold = (Some m, None)
limits_for (window_check window.RecRem f s l m) kind.Recrem = (Some l, Some m)
limits_for (window_check window.RecRem f s l m) kind.Recovery = (Some l, None)
limits_for (window_check window.RecRem f s l m) kind.Removal = (Some m, None)
limits_for (single_check single.Width t l) kind.Width = (Some l, None)
limits_for (single_check single.Period t l) kind.Period = (Some l, None)
limits_for _ _ = (None, None)

-- the terminals of the reference event and of the data event: of setup and hold the data stands first
abbrev pub terminals_of : CellCheck → Terminal × Option Terminal
terminals_of (pair_check pair.Setup datum refer l) = (refer, Some datum)
terminals_of (pair_check pair.Hold datum refer l) = (refer, Some datum)
terminals_of (pair_check pair.Recovery refer datum l) = (refer, Some datum)
terminals_of (pair_check pair.Removal refer datum l) = (refer, Some datum)
terminals_of (pair_check pair.Skew refer datum l) = (refer, Some datum)
terminals_of (window_check window.SetupHold datum refer l m) = (refer, Some datum)
terminals_of (window_check window.RecRem refer datum l m) = (refer, Some datum)
terminals_of (single_check check refer l) = (refer, None)

abbrev pub fits_event : Circuit → Divider → ℕ → Terminal → Event → Option (List Tok) → Bool
fits_event c divider s t e written = has e.net (port_nets c divider is_any s t.port) && fits_edge t.edge e.edge && fits_words t.condition written

abbrev pub fits_datum : Circuit → Divider → ℕ → Option Terminal → Option Event → Option (List Tok) → Bool
fits_datum c divider s None e written = true
fits_datum c divider s (Some t) None written = false
fits_datum c divider s (Some t) (Some e) written = fits_event c divider s t e written

abbrev pub fits_check : Circuit → Divider → CellCheck → ℕ → CheckTiming → CheckConditions → Bool
fits_check c divider check s timing written =
    fits_event c divider s (terminals_of check).0 timing.refer written.refer && fits_datum c divider s (terminals_of check).1 timing.datum written.datum

abbrev pub none_given : Option Triple × Option Triple
none_given = (None, None)

abbrev pub given_by : Circuit → Divider → Given → EntryKind → ℕ → CheckTiming → CheckConditions → Option Triple × Option Triple
given_by c divider g (a_check check) s timing written =
    if is_of_cell c divider g.cell_type g.instance s && fits_check c divider check s timing written then limits_for check timing.kind else none_given
given_by c divider g _ s timing written = none_given

-- the limits that an entry gives to the two parts of a check of a scope
abbrev pub given_to_check : Circuit → Divider → Given → ℕ → CheckTiming → CheckConditions → Option Triple × Option Triple
given_to_check c divider g s timing written = given_by c divider g g.entry.kind s timing written
