-- One file more.
use Rattle.std.proofs.Common.{subst}
use Rattle.std.proofs.lemmas.List.{take_all}
use Rattle.fit_netlist.specs.Exact.{AreExact}
use Rattle.fit_netlist.proofs.ExactLaws.{file-exact, files-more}
use Rattle.fit_netlist.proofs.rounds.are_exact.Goals as goal

pub loop-changes-preserved : goal.loop-changes-preserved
loop-changes-preserved c =
    files-more c.args.list.now c.loop-changes.changes-index c.changes-item.result c.loop-changes-test.true c.changes-item.is c.loop-changes.invariant
    (file-exact c.changes-item.result _ _ c.text.ensures.text c.changes.ensures.changes (c.in_ok-are_exact_in.ensures c.if-not-branch.false))

pub returns : goal.returns
returns c = λ e. subst AreExact (take_all c.loop-changes.changes-index c.args.list.now c.loop-changes-test.false) c.loop-changes.invariant
