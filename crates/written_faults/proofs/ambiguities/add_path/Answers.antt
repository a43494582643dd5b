-- The key was met, or it is new.
use Rattle.std.proofs.Common.{sym, ◌∙◌, ap}
use Rattle.std.specs.Option.{option_map}
use Rattle.indexmap.specs.IndexMap.{get}
use Rattle.written_faults.specs.Ambiguities.{numbers_in, numbers_of_timing}
use Rattle.written_faults.specs.Keys.{path_eq}
use Rattle.written_faults.proofs.KeyLaws.{path-exact}
use Rattle.written_faults.proofs.ReadingLaws.{reads-met, reads-new, mapped}
use Rattle.written_faults.proofs.ambiguities.add_path.Goals as goal

pub returns-in-Some : goal.returns-in-Some
returns-in-Some c =
    reads-met (numbers_in c.args.seen.now) c.args.code (numbers_of_timing c.args.timing) (numbers_of_timing c.in-Some.before.now) c.are_same.result (ap (option_map numbers_of_timing) (sym c.in-Some.ensures.value)) c.are_same.ensures

pub returns : goal.returns
returns c =
    reads-new path_eq path-exact.same path-exact.itself (numbers_in c.args.seen.now) (numbers_in c.insert.new.self) c.args.code (numbers_of_timing c.args.timing)
    (ap (option_map numbers_of_timing) (sym c.in_default.ensures.value))
    (λ q. ap (option_map numbers_of_timing) (c.in_ok-insert.ensures.updates.0 q) ∙ mapped numbers_of_timing (path_eq c.args.code q) c.args.timing (get path_eq c.args.seen.now q))
