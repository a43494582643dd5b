-- The changes are of these texts.
use Rattle.std.proofs.Common.{◌∙◌, ap, subst}
use Rattle.std.proofs.lemmas.Result.{IfOk-weaker}
use Rattle.vl_lex.specs.Seen.{texts}
use Rattle.fit_text.specs.Expanded.{AreTold}
use Rattle.fit_changes.specs.Rounds.{read}
use Rattle.fit_netlist.proofs.RoundLaws.{round-at}
use Rattle.fit_netlist.proofs.rounds.expand_round.Goals as goal

pub returns-in-Expanded-clause-made : goal.returns-in-Expanded-clause-made
returns-in-Expanded-clause-made c =
    IfOk-weaker c.finish.result _ _ (λ made r. round-at _ _ _ _ _ (ap read c.deref.ensures.value ∙ subst (AreTold (texts c.args.files.now)) c.in-Expanded.is c.in_ok-expansion.ensures) r) c.finish.ensures.made

pub returns-in-Unfit-clause-refused : goal.returns-in-Unfit-clause-refused
returns-in-Unfit-clause-refused c = subst (AreTold (texts c.args.files.now)) c.in-Unfit.is c.in_ok-expansion.ensures
