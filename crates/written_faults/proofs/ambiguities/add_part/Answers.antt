-- The key was met, or it is new.
use Rattle.std.proofs.Common.{rules, sym, ◌∙◌, ap, FitsSigned, w64, cond, Some}
use Rattle.std.proofs.lemmas.Int.{to_z-of_z}
use Rattle.indexmap.specs.IndexMap.{get}
use Rattle.written_model.specs.Entries.{limit_at}
use Rattle.written_faults.specs.Ambiguities.{limit_in}
use Rattle.written_faults.specs.Keys.{part_eq}
use Rattle.written_faults.proofs.KeyLaws.{part-exact, limits-same}
use Rattle.written_faults.proofs.ReadingLaws.{reads-met, reads-new}
use Rattle.written_faults.proofs.ambiguities.add_part.Goals as goal

pub returns-in-Some : goal.returns-in-Some
returns-in-Some c =
    let limit = limit_at c.args.timing.now.limits c.args.place in
    let f : FitsSigned w64 c.in-Some.before.now = search rules in
    let g : FitsSigned w64 limit = search rules in
    reads-met (limit_in c.args.seen.now) c.args.code limit c.in-Some.before.now _ (sym c.in-Some.ensures.value) (limits-same c.in-Some.before.now limit f g)

pub returns : goal.returns
returns c =
    let limit = limit_at c.args.timing.now.limits c.args.place in
    let g : FitsSigned w64 limit = search rules in
    reads-new part_eq part-exact.same part-exact.itself (limit_in c.args.seen.now) (limit_in c.insert.new.self) c.args.code limit (sym c.in_default.ensures.value)
    (λ q. c.in_ok-insert.ensures.updates.0 q ∙ ap (λ z. cond (part_eq c.args.code q) (Some z) (get part_eq c.args.seen.now q)) (to_z-of_z w64 limit g))
