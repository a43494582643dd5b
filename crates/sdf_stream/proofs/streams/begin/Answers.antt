-- Nothing was at hand, and the first two tokens came.
use Rattle.std.proofs.Common.{refl, arith}
use Rattle.sdf_tree.specs.declared.keywords.Keyword.TheVariants as keyword
use Rattle.sdf_stream.proofs.Filing.{begun}
use Rattle.sdf_stream.proofs.Wholes.{begins_of}
use Rattle.sdf_stream.proofs.streams.begin.Goals as goal

pub returns-then-begins : goal.returns-then-begins
returns-then-begins c = begun c.args.text.now _ c.opens.new.window refl refl refl (omega (arith, c.if-text-gt-LARGEST.false)) c.in_ok-opens.ensures (begins_of keyword.DelayFile c.deref.result.now c.opens.new.window.tokens.items c.deref.ensures.value (c.begins.ensures c.if-begins.true))
