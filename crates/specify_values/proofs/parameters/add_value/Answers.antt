-- A name that wasn't there is put in.
use Rattle.std.proofs.Common.{sym, ◌∙◌}
use Rattle.std.specs.Prelude.{bytes_eq}
use Rattle.indexmap.specs.IndexMap.{get_by}
use Rattle.specify_values.proofs.ByName.{put-in}
use Rattle.specify_values.proofs.parameters.add_value.Goals as goal

pub returns-in_ok-insert : goal.returns-in_ok-insert
returns-in_ok-insert c =
    put-in c.args.parameter (λ q. get_by (λ k. bytes_eq q.now k.now) c.args.values.now) (λ q. get_by (λ k. bytes_eq q.now k.now) c.insert.new.self)
    (sym c.contains_key.ensures ∙ c.if-not-contains_key.true) c.in_ok-insert.ensures.updates.0
