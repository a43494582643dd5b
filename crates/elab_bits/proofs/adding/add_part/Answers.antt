-- The positions are those between, in either direction.
use Rattle.std.proofs.Common.{◌++◌, ◌∙◌, ap, map}
use Rattle.std.proofs.lemmas.Result.{on_ok_weaker}
use Rattle.elab_bits.specs.Words.{net_from}
use Rattle.elab_bits.proofs.Selects.{forth-is, back-is}
use Rattle.elab_bits.proofs.adding.add_part.Goals as goal

pub returns-then-left-right-clause-bits : goal.returns-then-left-right-clause-bits
returns-then-left-right-clause-bits c =
    let e = ap (λ ps. c.args.bits.now.items ++ map (net_from c.args.span.start) ps) (forth-is c.args.left c.args.right c.if-left-right.true) in
    on_ok_weaker c.add_forth.result (λ last. last ∙ e) c.add_forth.ensures.bits

pub returns-clause-bits : goal.returns-clause-bits
returns-clause-bits c =
    let e = ap (λ ps. c.args.bits.now.items ++ map (net_from c.args.span.start) ps) (back-is c.args.left c.args.right c.if-left-right.false) in
    on_ok_weaker c.add_back.result (λ last. last ∙ e) c.add_back.ensures.bits
