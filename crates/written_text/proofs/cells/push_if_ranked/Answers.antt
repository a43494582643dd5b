use Rattle.std.proofs.Common.{◌≡◌, ◌++◌, subst}
use Rattle.std.specs.Prelude.{OnOk}
use Rattle.written_text.proofs.CellLaws.{not_ranked, is_ranked}
use Rattle.written_text.proofs.cells.push_if_ranked.Goals as goal

pub returns-then-path_rank-rank : goal.returns-then-path_rank-rank
returns-then-path_rank-rank c = not_ranked c.args.page.now c.args.rank c.args.output c.args.path.now c.path_rank.result c.args.text.now.items (c.path_rank.ensures c.args.page.now.parts.now.conditions.items c.args.page.now.parts.now.leg_timings.items c.args.output) c.if-path_rank-rank.true

pub returns : goal.returns
returns c =
    subst (λ t. OnOk c.push_path.result (c.push_path.new.text.items ≡ c.args.text.now.items ++ t))
    (is_ranked c.args.page.now c.args.rank c.args.output c.args.path.now c.path_rank.result (c.path_rank.ensures c.args.page.now.parts.now.conditions.items c.args.page.now.parts.now.leg_timings.items c.args.output) c.if-path_rank-rank.false) c.push_path.ensures
