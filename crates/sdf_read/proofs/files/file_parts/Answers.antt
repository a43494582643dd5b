-- One more part, or the end.
use Rattle.std.proofs.Common.{map, sym}
use Rattle.std.proofs.lemmas.Result.{err_from_is_err_and}
use Rattle.sdf_lex.specs.Seen.{lexeme}
use Rattle.sdf_tree.specs.Seen.{view_file_part}
use Rattle.sdf_read.specs.Files.{state}
use Rattle.sdf_read.proofs.FileLists.{parts_begin, parts_go_on, parts_fail, parts_advance, parts_end}
use Rattle.sdf_read.proofs.files.file_parts.Goals as goal

pub more-init : goal.more-init
more-init c = rw c.new-parts.ensures.items (parts_begin c.args.limited (map lexeme c.args.tokens.now) view_file_part c.args.at)

pub returns-in_err-part : goal.returns-in_err-part
returns-in_err-part c =
    let p = err_from_is_err_and c.from_residual.result c.from_residual.ensures.1 in
    rw (p.1, p.2) (parts_fail c.args.limited (map lexeme c.args.tokens.now) view_file_part _ c.more.parts.items (state c.more.here) c.more.next _ (sym c.more-test.ensures) c.in_err-part.ensures c.more.invariant)

pub more-smaller : goal.more-smaller
more-smaller c = parts_advance c.args.limited (map lexeme c.args.tokens.now) view_file_part (state c.more.here) c.more.next _ c.in_ok-part.behind (sym c.more-test.ensures) c.in_ok-part.ensures

pub more-preserved : goal.more-preserved
more-preserved c = rw (c.in_ok-push.ensures.items, c.state_after-here.ensures) (parts_go_on c.args.limited (map lexeme c.args.tokens.now) view_file_part _ c.more.parts.items (state c.more.here) c.more.next c.in_ok-part.part c.in_ok-part.behind (sym c.more-test.ensures) c.in_ok-part.ensures c.more.invariant)

pub returns : goal.returns
returns c = parts_end c.args.limited (map lexeme c.args.tokens.now) view_file_part _ c.more.parts.items (state c.more.here) c.more.next (sym c.more-test.ensures) c.more.invariant
