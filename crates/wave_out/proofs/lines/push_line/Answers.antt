use Rattle.std.proofs.Common.{[], ◌++◌, ◌∙◌, ap, get_or, length}
use Rattle.std.proofs.lemmas.Result.{on_ok_weaker}
use Rattle.wave_out.proofs.LineLaws.{narrow_line, narrow_within}
use Rattle.wave_out.proofs.lines.push_line.Goals as goal

pub at-requires : goal.at-requires
at-requires g c =
    narrow_within c.args.variables.now c.args.k _ (length (g.N.Nets.values c.args.nets.now)) c.requires.variables c.requires.k ((c.requires.lines.each c.args.k _ c.requires.k).net c.if-not-line.true)

pub returns-then-not-line : goal.returns-then-not-line
returns-then-not-line g c =
    on_ok_weaker c.push_narrow.result
    (λ last. last
    ∙ ap (λ t. c.args.text.now.items ++ t)
    (narrow_line (get_or c.args.variables.now c.args.k []) (g.N.Nets.values c.args.nets.now) _ c.args.k _ c.at.result ((c.requires.lines.each c.args.k _ c.requires.k).net c.if-not-line.true) c.at.ensures (c.requires.lines.each c.args.k _ c.requires.k).end))
    c.push_narrow.ensures
