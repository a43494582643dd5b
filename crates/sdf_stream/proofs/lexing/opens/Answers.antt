-- A parenthesis and what stands behind it.
use Rattle.std.proofs.Common.{ap, map, refl}
use Rattle.sdf_lex.specs.Seen.{lexeme}
use Rattle.sdf_stream.proofs.Passing.{more_opened, passed_none}
use Rattle.sdf_stream.proofs.lexing.opens.Goals as goal

pub returns : goal.returns
returns c =
    more_opened c.args.window.now _ c.more.new.window c.more-2.new.window c.in_ok-more.field-0 c.in_ok-more-2.field-0 (passed_none c.args.window.now _ refl refl refl) (ap (map lexeme) c.clear.ensures.items) c.in_ok-more.ensures c.if-not-branch.false c.in_ok-more-2.ensures c.if-not-branch-2.false
