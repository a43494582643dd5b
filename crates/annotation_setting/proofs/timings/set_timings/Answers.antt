-- The timing of one row more.
use Rattle.std.proofs.Common.{◌∙◌, ◌≡◌, ap, arith, sym, take}
use Rattle.circuit_open.specs.Open.{Open}
use Rattle.annotation_setting.specs.Timings.{at, with_new}
use Rattle.annotation_setting.proofs.ElementLaws.{at-default, room-left, row-stays, set-more, with-none}
use Rattle.annotation_setting.proofs.timings.set_timings.Goals as goal

pub loop-index-init : goal.loop-index-init
loop-index-init c = record { circuit = sym (with-none c.args.opened.now.circuit); room = c.requires.room }

pub set_new-requires-clause-row : goal.set_new-requires-clause-row
set_new-requires-clause-row c =
    row-stays c.args.opened.now.circuit c.loop-index.opened.circuit c.args.rows.now (take c.loop-index.index c.args.timings.now) c.loop-index.index _ c.loop-index.invariant.circuit c.requires.rows
    (omega (arith, c.loop-index-test.true, c.requires.timing_of_each))

pub loop-index-preserved : goal.loop-index-preserved
loop-index-preserved c =
    let t = c.index-timings-index.result in
    let i = c.loop-index.index in
    let there : t ≡ at c.args.timings.now i = at-default c.args.timings.now i t c.loop-index-test.true c.index-timings-index.is in
    record {
      circuit = ap (λ (o : Open). o.circuit) c.set_new.ensures
          ∙ (ap (with_new _ t) c.loop-index.invariant.circuit ∙ set-more c.args.opened.now.circuit c.args.rows.now c.args.timings.now i _ t c.requires.rows (omega (arith, c.loop-index-test.true, c.requires.timing_of_each)) there);
      room = room-left c.args.timings.now i t c.loop-index.opened.room c.set_new.new.opened.room c.loop-index-test.true there (ap (λ (o : Open). o.room) c.set_new.ensures) c.loop-index.invariant.room;
    }
