use Rattle.std.proofs.Common.{[], ◌∷◌}
use Rattle.std.specs.Prelude.{codes, decimal}
use Rattle.wave_out.proofs.TextLaws.{add_five}
use Rattle.run_report.proofs.unmatched.push_entry.Goals as goal

pub returns : goal.returns
returns c =
    let entry = c.args.entry.now in
    add_five c.args.text.now.items (codes "unannotated ") (decimal c.args.line) (codes " ") entry.word (10 ∷ [])
    c.in_ok-extend_from_slice.ensures.items c.in_ok-push_number.ensures c.in_ok-push.ensures.items
    (rw c.bytes.ensures at c.in_ok-extend_from_slice-2.ensures.items) c.in_ok-push-2.ensures.items
