-- Which timing checks fit what is asked for, and which may.
use Rattle.std.specs.Prelude.{ℕ, ◌&&◌, nat_lt, Bool, true, false, List, length, Option, Some, None}
use Rattle.std.specs.List.{flat_map}
use Rattle.std.specs.Option.{option_map}
use Rattle.cond_expr.specs.Token.{Tok}
use Rattle.sg_circuit.specs.Circuit.{Circuit}
use Rattle.sg_circuit.specs.Checks.{CheckConditions}
use Rattle.sg_circuit.specs.declared.checks.CheckTiming.{CheckTiming}
use Rattle.sg_circuit.specs.declared.checks.Event.{Event}
use Rattle.sdf_tree.specs.declared.tree.Edge.{Edge}
use Rattle.sdf_tree.specs.declared.words.Divider.{Divider}
use Rattle.sdf_tree.specs.Written.{Terminal}
use Rattle.sdf_tree.specs.Meant.{CellCheck}
use Rattle.annotation_model.specs.Ports.{has, is_any, own_nets}
use Rattle.annotation_model.specs.Same.{fits_edge, fits_words}
use Rattle.annotation_model.specs.Matching.{terminals_of, limits_for}
use Rattle.annotation_model.specs.Spots.{Checked, all_checked, is_given}
use Rattle.annotation_model.specs.Finding.{check_at}
use Rattle.annotation_index.specs.Candidates.{Lookups}
use Rattle.annotation_finder.specs.Finding.{is_marked}
use Rattle.annotation_finder.specs.Sought.{Named, named, named_seen}
use Rattle.annotation_finder.specs.declared.terminals.NamedTerminal as code_terminal
use Rattle.annotation_finder.specs.declared.terminals.Terminals as code_terminals

-- a terminal with the names of its port as they are called
pub record SoughtTerminal : Type 0 where
  pub port : Named
  pub edge : Option Edge
  pub condition : Option (List Tok)

abbrev pub terminal_for : Divider → Terminal → SoughtTerminal
terminal_for divider t = record { port = named divider t.port; edge = t.edge; condition = t.condition }

abbrev pub terminal_seen : code_terminal.NamedTerminal → SoughtTerminal
terminal_seen t = record { port = named_seen t.port; edge = t.edge; condition = option_map (λ ws. ws.items) t.condition }

-- those of the reference event and of the data event
pub record SoughtTerminals : Type 0 where
  pub refer : SoughtTerminal
  pub datum : Option SoughtTerminal

abbrev pub terminals_with : Divider → Terminal → Option Terminal → SoughtTerminals
terminals_with divider refer datum = record { refer = terminal_for divider refer; datum = option_map (terminal_for divider) datum }

abbrev pub terminals_for : Divider → CellCheck → SoughtTerminals
terminals_for divider check = terminals_with divider (terminals_of check).0 (terminals_of check).1

abbrev pub terminals_seen : code_terminals.Terminals → SoughtTerminals
terminals_seen t = record { refer = terminal_seen t.refer; datum = option_map terminal_seen t.datum }

-- what may fit
abbrev pub check_candidates : Circuit → Lookups → Named → (scopes : List ℕ) → List ℕ
check_candidates c l port scopes = flat_map (λ s. flat_map l.referring (own_nets c is_any s port.names port.bit)) scopes

abbrev pub event_fits : Circuit → ℕ → SoughtTerminal → Event → Option (List Tok) → Bool
event_fits c s t e written = has e.net (own_nets c is_any s t.port.names t.port.bit) && fits_edge t.edge e.edge && fits_words t.condition written

abbrev pub datum_fits : Circuit → ℕ → Option SoughtTerminal → Option Event → Option (List Tok) → Bool
datum_fits c s None e written = true
datum_fits c s (Some t) None written = false
datum_fits c s (Some t) (Some e) written = event_fits c s t e written

abbrev pub events_fit : Circuit → ℕ → SoughtTerminals → CheckTiming → CheckConditions → Bool
events_fit c s t timing written = event_fits c s t.refer timing.refer written.refer && datum_fits c s t.datum timing.datum written.datum

-- in a cell that is told by a test of scopes
abbrev pub check_fits : Circuit → (ℕ → Bool) → CellCheck → SoughtTerminals → Checked → Bool
check_fits c cell check t k = cell k.check.scope && (events_fit c k.check.scope t k.timing k.written && is_given (limits_for check k.timing.kind))

-- whether the one of a number does, where scopes are marked
abbrev pub check_passes : Circuit → List Bool → CellCheck → SoughtTerminals → ℕ → Bool
check_passes c marks check t k = nat_lt k (length (all_checked c)) && check_fits c (is_marked marks) check t (check_at c k)
