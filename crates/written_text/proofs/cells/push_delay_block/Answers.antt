use Rattle.std.proofs.Common.{◌≡◌, ◌++◌, ◌∷◌, [], ◌∙◌, length, ap, arith, append_assoc}
use Rattle.std.specs.Prelude.{codes, flat_map}
use Rattle.written_text.specs.Page.{delay_lines_of, leg_lines_at, path_lines_at}
use Rattle.written_model.specs.Text.{line}
use Rattle.written_text.proofs.BlockLaws.{block_closed}
use Rattle.written_text.proofs.cells.push_delay_block.Goals as goal

pub returns : goal.returns
returns c =
    let first = line (codes "(DELAY (ABSOLUTE") in
    let old = c.args.text.now.items in
    let p = c.args.page.now in
    let es = c.args.elements.now in
    let legs = flat_map (leg_lines_at p) es in
    let paths = flat_map (λ rank. flat_map (path_lines_at p rank) es) (0 ∷ 1 ∷ 2 ∷ []) in
    let e : length c.extend_from_slice.new.self.items ≡ length (old ++ first) = ap length c.in_ok-extend_from_slice.ensures.items in
    block_closed c.close.result old first (delay_lines_of p es) (line (codes "))")) c.push_paths.new.text.items c.close.new.text.items
    c.len-start.result c.len-inner.result (omega (arith, c.len-start.ensures, c.args.text.now.ok.0)) (omega (arith, c.len-inner.ensures, c.extend_from_slice.new.self.ok.0, e))
    (c.in_ok-push_paths.ensures ∙ (ap (λ t. t ++ paths) (c.in_ok-push_legs.ensures ∙ ap (λ t. t ++ legs) c.in_ok-extend_from_slice.ensures.items) ∙ append_assoc (old ++ first) legs paths)) c.close.ensures
