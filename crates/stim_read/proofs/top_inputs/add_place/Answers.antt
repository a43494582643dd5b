-- A name that had no place is given one.
use Rattle.std.proofs.Common.{sym, ◌∙◌}
use Rattle.std.specs.Prelude.{bytes_eq}
use Rattle.indexmap.specs.IndexMap.{get_by}
use Rattle.stim_read.proofs.ByNameLaws.{put-in}
use Rattle.stim_read.proofs.top_inputs.add_place.Goals as goal

pub returns-in_ok-insert : goal.returns-in_ok-insert
returns-in_ok-insert c =
    put-in c.args.name.now c.args.place (λ q. get_by (λ k. bytes_eq q.now k.now) c.args.places.now) (λ q. get_by (λ k. bytes_eq q.now k.now) c.insert.new.self)
    (sym c.contains_key.ensures ∙ c.if-not-contains_key.true) c.in_ok-insert.ensures.updates.0
