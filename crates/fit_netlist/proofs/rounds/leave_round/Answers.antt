-- The changes are of these texts.
use Rattle.std.proofs.Common.{◌∙◌, ap, arith}
use Rattle.std.proofs.lemmas.Result.{IfOk-weaker}
use Rattle.vl_lex.specs.Seen.{texts}
use Rattle.fit_changes.specs.Rounds.{read}
use Rattle.fit_netlist.proofs.RoundLaws.{round-at}
use Rattle.fit_netlist.proofs.WritingLaws.{lent, read-as-read}
use Rattle.fit_netlist.proofs.rounds.leave_round.Goals as goal

pub returns-clause-made : goal.returns-clause-made
returns-clause-made c =
    IfOk-weaker c.finish.result _ _
    (λ made r. round-at _ _ _ _ _
    (ap read c.deref-2.ensures.value
    ∙ lent c.in_ok-list.list.len c.leave_all.new.list c.in_ok-list.list.items (omega (arith, c.in_ok-list.list.ok.0)) (c.leave_all.ensures ∙ ap read c.deref_mut.ensures.value)
    ∙ ap read c.in_ok-list.ensures ∙ read-as-read (texts c.args.files.now)) r)
    c.finish.ensures.made
