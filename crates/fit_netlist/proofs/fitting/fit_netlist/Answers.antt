-- The files stay, or rounds change them.
use Rattle.std.specs.Prelude.{map, option_map}
use Rattle.std.proofs.Common.{◌∙◌, ap, sym}
use Rattle.std.proofs.lemmas.Result.{IfOk-weaker}
use Rattle.vl_lex.specs.Seen.{texts}
use Rattle.fit_changes.specs.Lines.{line_seen}
use Rattle.fit_netlist.proofs.RoundLaws.{fitted-of, never, round-first, untouched}
use Rattle.fit_netlist.proofs.fitting.fit_netlist.Goals as goal

pub returns-then-branch-clause-fitted : goal.returns-then-branch-clause-fitted
returns-then-branch-clause-fitted c =
    untouched (option_map (λ n. n.now) c.args.wishes.now.top) (texts c.args.files.now) _ _ (c.in_ok-stays.ensures.inside c.if-branch.true) c.in_ok-as_they_stand.ensures.0 c.in_ok-as_they_stand.ensures.1

pub returns-clause-fitted : goal.returns-clause-fitted
returns-clause-fitted c =
    IfOk-weaker c.fit_expanded.result _ _
    (λ f m. fitted-of (option_map (λ n. n.now) c.args.wishes.now.top) (texts c.args.files.now) (texts c.deref.result.now) _ f
    (round-first _ _ _ _ _ c.in_ok-expanded.ensures.made (ap texts (sym c.deref.ensures.value)) (ap (map line_seen) c.new-lines.ensures.items)) m)
    c.fit_expanded.ensures.made

pub returns-clause-unchanged : goal.returns-clause-unchanged
returns-clause-unchanged c = λ a i. never _ (sym c.if-branch.false ∙ c.in_ok-stays.ensures.only a i)

pub returns-in_err-expanded-clause-unchanged : goal.returns-in_err-expanded-clause-unchanged
returns-in_err-expanded-clause-unchanged c = λ a i. never _ (sym c.if-branch.false ∙ c.in_ok-stays.ensures.only a i)
