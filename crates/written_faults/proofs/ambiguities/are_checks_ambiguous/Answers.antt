-- The pairs of the scope's timing checks are read.
use Rattle.std.proofs.Common.{◌≡◌, ◌<◌, length, subst, sym, ◌∙◌}
use Rattle.std.specs.Prelude.{All}
use Rattle.std.proofs.lemmas.List.{length-map}
use Rattle.sg_circuit.specs.ChecksSeen.{written_seen}
use Rattle.sg_circuit.specs.FanOut.{readers_at}
use Rattle.written_entries.proofs.NumberLaws.{checks_of_scope}
use Rattle.written_faults.specs.Ambiguities.{limit_in, pairs_of_checks}
use Rattle.written_faults.specs.Keys.{part_eq}
use Rattle.written_faults.proofs.CheckEntryLaws.{checks_disagree}
use Rattle.written_faults.proofs.ReadingLaws.{all-read, nothing-in}
use Rattle.written_faults.proofs.ambiguities.are_checks_ambiguous.Goals as goal

pub add_checks-requires-clause-timings : goal.add_checks-requires-clause-timings
add_checks-requires-clause-timings c =
    let parts = c.args.parts.now in
    subst (λ ns. All (λ n. n < length parts.check_timings.items) ns) (sym c.of.ensures)
    (subst (λ m. All (λ n. n < m) (readers_at c.args.groups.now.checks c.args.scope)) (sym c.requires.closed.timing_of_each) (checks_of_scope parts c.args.groups.now c.requires.groups c.args.scope c.requires.scope).within)

pub add_checks-requires-clause-conditions : goal.add_checks-requires-clause-conditions
add_checks-requires-clause-conditions c =
    let parts = c.args.parts.now in
    let many : length parts.check_conditions.items ≡ length parts.checks.items = sym (length-map parts.check_conditions.items (written_seen parts.conditions.items)) ∙ c.requires.closed.conditions_of_each in
    subst (λ ns. All (λ n. n < length parts.check_conditions.items) ns) (sym c.of.ensures)
    (subst (λ m. All (λ n. n < m) (readers_at c.args.groups.now.checks c.args.scope)) (sym many) (checks_of_scope parts c.args.groups.now c.requires.groups c.args.scope c.requires.scope).within)

pub returns : goal.returns
returns c =
    let parts = c.args.parts.now in
    checks_disagree parts c.args.classes.now c.args.scope c.requires.closed c.requires.indexed c.requires.classes c.args.groups.now c.requires.groups c.requires.scope c.of.result.now c.of.ensures c.in_ok-ambiguous.ambiguous
    (all-read (pairs_of_checks parts c.args.classes.now c.of.result.now) (limit_in c.new-seen.result) (limit_in c.add_checks.new.seen) c.in_ok-ambiguous.ambiguous
    (λ k. nothing-in (part_eq k) c.new-seen.result c.new-seen.ensures.empty) c.in_ok-ambiguous.ensures)
