use Rattle.std.specs.Prelude.{not}
use Rattle.std.proofs.Common.{◌∙◌, ap, false}
use Rattle.sim_times.proofs.TimeLaws.{spent_due, spent_toggle, whole_last, no_memory_last, needs_none}
use Rattle.sim_times.proofs.times.last.Goals as goal

pub returns-then-needs-clause-ended : goal.returns-then-needs-clause-ended
returns-then-needs-clause-ended g c =
    let e = g.R.Rounds in
    let old = c.args.rounds.now in
    let mid = c.needs.new.self in
    spent_due (e.machine old) (e.machine mid) c.args.now (e.handed mid) (e.stands old c.args.now) (e.stands mid c.args.now) (e.stands c.name.new.self c.args.now) (e.counted old) (e.counted c.name.new.self) c.name.result c.needs.result c.needs.ensures.machine c.if-needs.true
    (needs_none c.args.now false (e.handed old) (e.stands old c.args.now) c.needs.result c.requires.handed c.needs.ensures.needs) (c.needs.ensures.handed ∙ c.requires.handed) c.needs.ensures.stands c.name.ensures.named (g.met.R.Rounds.counts old c.args.now) (c.name.ensures.counted ∙ c.needs.ensures.counted)

pub returns-then-some-clause-ended : goal.returns-then-some-clause-ended
returns-then-some-clause-ended g c =
    let e = g.R.Rounds in
    let old = c.args.rounds.now in
    let mid = c.needs.new.self in
    let late = c.snapshot.new.self in
    spent_toggle (e.machine old) (e.machine mid) (e.machine late) c.args.now (e.handed late) (e.stands old c.args.now) (e.stands mid c.args.now) (e.stands late c.args.now) (e.stands c.name-then-some.new.self c.args.now) (e.counted old) (e.counted c.name-then-some.new.self) c.name-then-some.result c.needs.result
    c.needs.ensures.machine (c.in-Ok.ensures.machine ∙ c.needs.ensures.machine) c.if-needs.false (needs_none c.args.now false (e.handed old) (e.stands old c.args.now) c.needs.result c.requires.handed c.needs.ensures.needs) c.needs.ensures.stands c.in-Ok.ensures.stands
    (c.in-Ok.ensures.toggles ∙ ap not c.if-some.true) c.name-then-some.ensures.named (g.met.R.Rounds.counts old c.args.now) (c.name-then-some.ensures.counted ∙ (c.in-Ok.ensures.counted ∙ c.needs.ensures.counted))

pub returns-else-some-clause-ended : goal.returns-else-some-clause-ended
returns-else-some-clause-ended g c =
    let e = g.R.Rounds in
    let old = c.args.rounds.now in
    let mid = c.needs.new.self in
    let late = c.snapshot.new.self in
    whole_last (e.machine old) (e.machine mid) c.args.now (e.handed late) (e.stands old c.args.now) (e.stands mid c.args.now) (e.stands late c.args.now) (e.counted late) c.needs.result c.needs.ensures.machine c.if-needs.false
    (needs_none c.args.now false (e.handed old) (e.stands old c.args.now) c.needs.result c.requires.handed c.needs.ensures.needs) c.needs.ensures.stands c.in-Ok.ensures.stands (c.in-Ok.ensures.toggles ∙ ap not c.if-some.false)

pub returns-in-Err-clause-ended : goal.returns-in-Err-clause-ended
returns-in-Err-clause-ended g c =
    let e = g.R.Rounds in
    let old = c.args.rounds.now in
    no_memory_last (e.machine old) c.args.now (e.stands old c.args.now) (e.stands c.snapshot.new.self c.args.now) (e.counted old) (e.counted c.snapshot.new.self) (g.met.R.Rounds.counts old c.args.now) (c.in-Err.ensures.counted ∙ c.needs.ensures.counted)
