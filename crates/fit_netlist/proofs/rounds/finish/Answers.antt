-- The changes are exact, and they are told.
use Rattle.fit_netlist.proofs.RoundLaws.{round-of}
use Rattle.fit_netlist.proofs.rounds.finish.Goals as goal

pub returns-clause-made : goal.returns-clause-made
returns-clause-made c = round-of c.args.list.now _ _ _ c.in_ok-write_all.ensures c.in_ok-add_lines.ensures (c.in_ok-are_exact.ensures c.if-not-branch.false)
