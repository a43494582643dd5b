-- The tokens at hand are a head, and it is without fault.
use Rattle.std.proofs.Common.{◌∙◌}
use Rattle.grammar.specs.Rule.{◌▸◌, ◌◂◌}
use Rattle.sdf_tree.specs.Files.{head}
use Rattle.sdf_tree.specs.Kinds.{is_left, is_right}
use Rattle.sdf_tree.specs.Rules.{mark}
use Rattle.sdf_tree.specs.Seen.{view_head}
use Rattle.sdf_stream.proofs.Filing.{head_is}
use Rattle.sdf_stream.proofs.Joined.{closed_head-exact}
use Rattle.sdf_stream.proofs.Wholes.{whole_is}
use Rattle.sdf_stream.proofs.streams.scan_head.Goals as goal

pub returns-then-is_fine : goal.returns-then-is_fine
returns-then-is_fine c =
    let h = c.in_ok-head.head in
    head_is c.args.window.now c.close.new.window (view_head h)
    (whole_is (mark is_left ▸ (head ◂ mark is_right)) closed_head-exact (λ h. view_head h) c.closed_head.result c.args.window.now c.close.new.window c.deref.result.now h c.len.result c.in_ok-close.ensures c.deref.ensures.value c.closed_head.ensures c.in_ok-head.ensures (c.len.ensures ∙ c.close.new.window.tokens.ok.0))
    (c.is_fine.ensures c.if-is_fine.true)
