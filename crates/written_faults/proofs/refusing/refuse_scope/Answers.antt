-- The signals of the scope are counted.
use Rattle.std.proofs.Common.{◌<◌, length, sym, ◌∙◌, arith}
use Rattle.std.proofs.lemmas.List.{get_or_default}
use Rattle.written_faults.proofs.RefusingLaws.{count_of_each, count_is}
use Rattle.written_faults.proofs.refusing.refuse_scope.Goals as goal

pub index-signals-requires : goal.index-signals-requires
index-signals-requires c =
    let parts = c.args.parts.now in
    let n = count_of_each parts.checks.items parts.check_timings.items _ c.args.known.now.signals.items c.requires.known.counts c.args.scope c.requires.scope in
    omega (arith, n, c.requires.scope, c.args.known.now.signals.ok.0)

pub has_heavy-requires-clause-signals : goal.has_heavy-requires-clause-signals
has_heavy-requires-clause-signals c =
    let parts = c.args.parts.now in
    let counts = c.args.known.now.signals.items in
    let n = count_of_each parts.checks.items parts.check_timings.items _ counts c.requires.known.counts c.args.scope c.requires.scope in
    let within : c.args.scope < length counts = omega (arith, n, c.requires.scope) in
    c.index-signals.ensures ∙ (sym (get_or_default counts c.args.scope 0 c.index-signals.result.now within) ∙ count_is parts.checks.items parts.check_timings.items _ counts c.requires.known.counts c.args.scope c.requires.scope)
