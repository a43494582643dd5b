-- The pairs of the scope's elements are read.
use Rattle.std.proofs.Common.{◌<◌, length, subst, sym, ap}
use Rattle.std.specs.Option.{option_map}
use Rattle.std.specs.Prelude.{All}
use Rattle.written_entries.proofs.NumberLaws.{elements_of_scope}
use Rattle.written_faults.specs.Ambiguities.{numbers_in, numbers_of_timing, pairs_of_elements}
use Rattle.written_faults.specs.Keys.{path_eq}
use Rattle.written_faults.proofs.PathEntryLaws.{paths_disagree}
use Rattle.written_faults.proofs.ReadingLaws.{all-read, nothing-in}
use Rattle.written_faults.proofs.ambiguities.are_paths_ambiguous.Goals as goal

pub add_elements-requires-clause-within : goal.add_elements-requires-clause-within
add_elements-requires-clause-within c =
    let parts = c.args.parts.now in
    subst (λ ns. All (λ n. n < length parts.elements.items) ns) (sym c.of.ensures) (elements_of_scope parts c.args.groups.now c.requires.groups c.args.scope c.requires.scope).within

pub returns : goal.returns
returns c =
    let parts = c.args.parts.now in
    paths_disagree parts c.args.classes.now c.args.scope c.requires.indexed c.requires.classes c.args.groups.now c.requires.groups c.requires.scope c.of.result.now c.of.ensures c.in_ok-ambiguous.ambiguous
    (all-read (pairs_of_elements parts c.args.classes.now c.of.result.now) (numbers_in c.new-seen.result) (numbers_in c.add_elements.new.seen) c.in_ok-ambiguous.ambiguous
    (λ k. ap (option_map numbers_of_timing) (nothing-in (path_eq k) c.new-seen.result c.new-seen.ensures.empty)) c.in_ok-ambiguous.ensures)
