-- The copies of the reference, then of the data.
use Rattle.std.proofs.Common.{◌++◌, map, subst}
use Rattle.std.proofs.lemmas.Result.{on_ok_weaker}
use Rattle.std.specs.Option.{IfSome, option_to_list}
use Rattle.elab_lates.specs.Seen.{IsCopyInRow, placed_seen}
use Rattle.elab_lates.proofs.CheckCopies.{check-asked}
use Rattle.elab_model.specs.Names.{variables}
use Rattle.elab_lates.proofs.making.add_check.Goals as goal

pub returns : goal.returns
returns c =
    on_ok_weaker c.add_if-2.result
    (λ last m before e h.
    let refer = c.in_ok-refer.refer in
    let datum = c.in_ok-datum.datum in
    check-asked m c.args.table.now c.args.check.now before c.add_if-2.new.asked refer datum _ _ _ _ _ _ _ _ _ c.in-TwoLimits.is e c.in_ok-refer.ensures.copy c.in_ok-datum.ensures.copy
    (last m (before ++ map (placed_seen (variables m)) (option_to_list refer)) (subst (λ ws. IfSome datum (λ p. IsCopyInRow ws p.copy)) e c.in_ok-datum.ensures.row)
    (c.in_ok-add_if.ensures m before (subst (λ ws. IfSome refer (λ p. IsCopyInRow ws p.copy)) e c.in_ok-refer.ensures.row) h))) c.add_if-2.ensures
