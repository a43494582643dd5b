use Rattle.std.proofs.Common.{arith}
use Rattle.wave_out.proofs.ListingLaws.{listed_all}
use Rattle.wave_out.proofs.changes.push_marked.Goals as goal

pub returns-clause-text : goal.returns-clause-text
returns-clause-text g c =
    listed_all c.args.variables.now (g.N.Nets.values c.args.nets.now) c.loop-group.group c.args.marks.now c.loop-group.marks c.args.text.now.items c.loop-group.text.items
    (omega (arith, c.len-group-end.ensures, c.args.marks.now.groups.ok.0, c.loop-group.invariant.groups, c.loop-group-test.false)) c.loop-group.invariant.listed
