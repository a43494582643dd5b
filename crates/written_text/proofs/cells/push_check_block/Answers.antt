use Rattle.std.proofs.Common.{◌≡◌, ◌++◌, ◌∙◌, length, ap, arith}
use Rattle.std.specs.Prelude.{codes}
use Rattle.written_text.specs.Page.{check_lines_of}
use Rattle.written_model.specs.Text.{line}
use Rattle.written_text.proofs.BlockLaws.{block_closed}
use Rattle.written_text.proofs.cells.push_check_block.Goals as goal

pub returns : goal.returns
returns c =
    let e : length c.extend_from_slice.new.self.items ≡ length (c.args.text.now.items ++ line (codes "(TIMINGCHECK")) = ap length c.in_ok-extend_from_slice.ensures.items in
    block_closed c.close.result c.args.text.now.items (line (codes "(TIMINGCHECK")) (check_lines_of c.args.page.now c.args.checks.now) (line (codes ")")) c.push_checks.new.text.items c.close.new.text.items
    c.len-start.result c.len-inner.result (omega (arith, c.len-start.ensures, c.args.text.now.ok.0)) (omega (arith, c.len-inner.ensures, c.extend_from_slice.new.self.ok.0, e))
    (c.in_ok-push_checks.ensures ∙ ap (λ t. t ++ check_lines_of c.args.page.now c.args.checks.now) c.in_ok-extend_from_slice.ensures.items) c.close.ensures
