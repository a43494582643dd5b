-- One net more.
use Rattle.std.proofs.Common.{◌∙◌, ap, slice_index_or, unwrap_or}
use Rattle.elab_laws.specs.NumberLaws.{driven_number}
use Rattle.elab_elements.specs.Words.{ends_in}
use Rattle.elab_elements.proofs.InnerNets.{one-driven, driven-more, all-driven}
use Rattle.elab_elements.proofs.driven.drive.Goals as goal

pub loop-net-preserved : goal.loop-net-preserved
loop-net-preserved c =
    let all = ends_in c.args.row.now c.args.bits.now c.args.ends.now in
    let net = slice_index_or c.args.row.now c.loop-net.net-index 0 in
    driven-more (driven_number all) c.args.row.now c.loop-net.driven.items c.push.new.self.items c.loop-net.net-index _ c.loop-net-test.true
    (c.unwrap_or.ensures ∙ ap (λ o. unwrap_or o net) (c.copied.ensures ∙ c.get.ensures.value ∙ c.in_ok-nets.ensures net) ∙ one-driven all net) c.in_ok-push.ensures.items c.loop-net.invariant

pub returns : goal.returns
returns c = all-driven (driven_number (ends_in c.args.row.now c.args.bits.now c.args.ends.now)) c.args.row.now c.loop-net.driven.items c.loop-net.net-index c.loop-net-test.false c.loop-net.invariant
