use Rattle.std.specs.Prelude.{pos}
use Rattle.std.proofs.Common.{rules, ◌≡◌, length, w64, ◌∙◌}
use Rattle.std.proofs.lemmas.Int.{to_z-of_z}
use Rattle.annotation_values.specs.Limits.{bounds_seen}
use Rattle.annotation_values.proofs.LimitLaws.{both_changed}
use Rattle.annotation_values.proofs.limits.with_both.Goals as goal

pub returns : goal.returns
returns c =
    let two : length c.args.limits.now ≡ 2 = search rules in
    both_changed (bounds_seen c.args.bounds).signed c.args.first c.args.second c.args.limits.now _ _ (pos 0) two
    (to_z-of_z w64 c.limit_at.result (record { sfits = c.limit_at.type_inv }) ∙ c.limit_at.ensures (pos 0))
    (to_z-of_z w64 c.limit_at-2.result (record { sfits = c.limit_at-2.type_inv }) ∙ c.limit_at-2.ensures (pos 0))
