use Rattle.std.proofs.Common.{◌≡◌, ◌++◌, subst}
use Rattle.std.specs.Prelude.{OnOk}
use Rattle.written_model.specs.declared.parts.Part.TheVariants.{Setup}
use Rattle.written_text.proofs.CellLaws.{not_check_rank, is_check_rank}
use Rattle.written_text.proofs.cells.push_check_if_ranked.Goals as goal

pub returns-then-check_rank-rank : goal.returns-then-check_rank-rank
returns-then-check_rank-rank c =
    not_check_rank c.args.page.now c.args.rank c.args.timing.now c.args.written c.check_rank.result c.args.text.now.items (c.check_rank.ensures c.args.page.now Setup) c.if-check_rank-rank.true

pub returns : goal.returns
returns c =
    subst (λ t. OnOk c.push_check.result (c.push_check.new.text.items ≡ c.args.text.now.items ++ t))
    (is_check_rank c.args.page.now c.args.rank c.args.timing.now c.args.written c.check_rank.result (c.check_rank.ensures c.args.page.now Setup) c.if-check_rank-rank.false) c.push_check.ensures
