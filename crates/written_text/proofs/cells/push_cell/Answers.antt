use Rattle.std.proofs.Common.{◌≡◌, ◌++◌, ◌∙◌, length, ap, arith, append_assoc}
use Rattle.std.specs.Prelude.{codes}
use Rattle.written_text.specs.Page.{circuit_of, check_lines_of, delay_lines_of, parts_text_of}
use Rattle.written_model.specs.Text.{cell_line, enclosed, line}
use Rattle.written_text.proofs.BlockLaws.{block_closed}
use Rattle.written_text.proofs.cells.push_cell.Goals as goal

pub returns : goal.returns
returns c =
    let p = c.args.page.now in
    let first = cell_line (circuit_of p) p.scope in
    let old = c.args.text.now.items in
    let ds = enclosed (line (codes "(DELAY (ABSOLUTE")) (line (codes "))")) (delay_lines_of p c.args.elements.now) in
    let ks = enclosed (line (codes "(TIMINGCHECK")) (line (codes ")")) (check_lines_of p c.args.checks.now) in
    let e : length c.push_cell_line.new.text.items ≡ length (old ++ first) = ap length c.in_ok-push_cell_line.ensures in
    block_closed c.close.result old first (parts_text_of p c.args.elements.now c.args.checks.now) (line (codes ")")) c.push_check_block.new.text.items c.close.new.text.items
    c.len-start.result c.len-inner.result (omega (arith, c.len-start.ensures, c.args.text.now.ok.0)) (omega (arith, c.len-inner.ensures, c.push_cell_line.new.text.ok.0, e))
    (c.in_ok-push_check_block.ensures ∙ (ap (λ t. t ++ ks) (c.in_ok-push_delay_block.ensures ∙ ap (λ t. t ++ ds) c.in_ok-push_cell_line.ensures) ∙ append_assoc (old ++ first) ds ks)) c.close.ensures
