-- One round more, which may be the last.
use Rattle.std.specs.Prelude.{map}
use Rattle.std.proofs.Common.{ap}
use Rattle.vl_lex.specs.Seen.{texts}
use Rattle.fit_changes.specs.Lines.{line_seen}
use Rattle.fit_netlist.proofs.RoundLaws.{made-as, made-more, none-made, round-at}
use Rattle.fit_netlist.proofs.fitting.rule_rounds.Goals.{else-loop-test, then-loop-test+in_ok-is_last+then-is_last}
use Rattle.fit_netlist.proofs.fitting.rule_rounds.Goals as goal

pub loop-init : goal.loop-init
loop-init c = none-made _ _

pub loop-preserved : goal.loop-preserved
loop-preserved c = made-more _ _ _ _ _ _ c.loop.invariant (round-at _ _ _ _ _ (ap texts c.deref.ensures.value) c.in_ok-is_last.ensures.made)

pub returns-clause-made : goal.returns-clause-made
returns-clause-made c = elim c.loop-test.branch [
  | else-loop-test w ↦ made-as _ _ _ _ _ _ (ap (λ v. texts v.items) w.files-is) (ap (λ v. map line_seen v.items) w.lines-is) c.loop.invariant
  | then-loop-test+in_ok-is_last+then-is_last w ↦ made-as _ _ _ _ _ _ (ap (λ v. texts v.items) w.files-is) (ap (λ v. map line_seen v.items) w.lines-is)
      (made-more _ _ _ _ _ _ c.loop.invariant (round-at _ _ _ _ _ (ap texts w.deref.ensures.value) w.in_ok-is_last.ensures.made))
]
