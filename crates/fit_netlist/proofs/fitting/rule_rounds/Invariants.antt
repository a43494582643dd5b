-- The rounds so far.
use Rattle.std.specs.Prelude.{map}
use Rattle.vl_lex.specs.Seen.{texts}
use Rattle.fit_changes.specs.Lines.{line_seen}
use Rattle.fit_netlist.specs.Phases.{AreMade}
use Rattle.fit_netlist.proofs.fitting.rule_rounds.Given as goal

abbrev pub invariant-loop : goal.invariant-loop
invariant-loop l = AreMade (texts l.fn.shaped.items) (texts l.files.items) (map line_seen l.fn.lines.items) (map line_seen l.lines.items)
