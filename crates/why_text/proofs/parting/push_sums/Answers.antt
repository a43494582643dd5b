use Rattle.std.specs.Int.{w128}
use Rattle.std.proofs.Common.{◌∙◌}
use Rattle.std.proofs.lemmas.Int.{to_z-of_z}
use Rattle.std.proofs.lemmas.Result.{on_ok_weaker}
use Rattle.time_checks.specs.Seen.{violation_seen}
use Rattle.why_text.proofs.LineLaws.{sums_made}
use Rattle.why_text.proofs.parting.push_sums.Goals as goal

pub returns : goal.returns
returns c =
    on_ok_weaker c.push_difference-2.result
    (λ last. sums_made c.args.text.now.items (violation_seen c.args.violation.now) c.args.from c.saturating_sub.result c.saturating_sub-2.result _ _
    c.saturating_sub.ensures c.saturating_sub-2.ensures
    (to_z-of_z w128 c.difference.result (record { sfits = c.difference.type_inv }) ∙ c.difference.ensures) (to_z-of_z w128 c.shortage.result (record { sfits = c.shortage.type_inv }) ∙ c.shortage.ensures)
    c.in_ok-push_time.ensures c.in_ok-push_time-2.ensures c.in_ok-push_difference.ensures last)
    c.push_difference-2.ensures
