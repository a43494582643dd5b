-- One transition dropped, and where the loop ends.
use Rattle.std.proofs.Common.{◌≡◌, ◌≢◌, ◌∷◌, ◌++◌, ℕ, sym, reverse, [], rules, arith}
use Rattle.sg_model.proofs.AgendaLaws.{goes_on-drop, goes_on-end, goes_on-stay}
use Rattle.sg_model.specs.Pending.{put, error_pulse, rest_of}
use Rattle.sg_model.proofs.PlacingSteps.{placed-empty, placed-same, placed-dropped, placed-rejected, placed-apart, placed-error}
use Rattle.sg_model.specs.Agenda.{list_at}
use Rattle.pulse_list.specs.Seen.{style_seen}
use Rattle.pulse_list.proofs.placing.place.Goals as goal
use Rattle.pulse_list.specs.Seen.{style_seen}
use Rattle.pulse_list.proofs.placing.place.Goals.{then-last_time-time+else-error-width+else-reject-width, else-last_time-time}

pub returns-then-eq-clause-lists : goal.returns-then-eq-clause-lists
returns-then-eq-clause-lists g c =
    let xs = list_at (g.A.Agenda.lists c.loop-last_time.agenda) c.args.driver in
    let same : c.in-Some.last ≡ c.args.value = search rules in
    goes_on-stay _ _ c.args.driver c.args.present c.args.now c.args.value c.args.time c.args.reject c.args.error (style_seen c.args.style) c.loop-last_time.invariant.goes_on
    (placed-same xs (c.in-Some.last_time, c.in-Some.last) c.args.present c.args.now c.args.value c.args.time c.args.reject c.args.error (style_seen c.args.style) (sym c.in-Some.ensures.last) same)

pub returns-then-error-width-clause-lists : goal.returns-then-error-width-clause-lists
returns-then-error-width-clause-lists g c =
    let lists = g.A.Agenda.lists in
    let xs = list_at (lists c.loop-last_time.agenda) c.args.driver in
    let differs : c.in-Some.last ≢ c.args.value = search rules in
    goes_on-end _ _ _ c.args.driver c.args.present c.args.now c.args.value c.args.time c.args.reject c.args.error (style_seen c.args.style) (xs ++ (c.args.time, c.args.value) ∷ [])
    c.loop-last_time.invariant.goes_on c.append.ensures.lists
    (placed-apart xs (c.in-Some.last_time, c.in-Some.last) c.args.present c.args.now c.args.value c.args.time c.args.reject c.args.error (style_seen c.args.style) (sym c.in-Some.ensures.last) differs c.if-last_time-time.true c.if-error-width.true)

pub returns-then-reject-width-clause-lists : goal.returns-then-reject-width-clause-lists
returns-then-reject-width-clause-lists g c =
    let lists = g.A.Agenda.lists in
    let xs = list_at (lists c.loop-last_time.agenda) c.args.driver in
    let differs : c.in-Some.last ≢ c.args.value = search rules in
    goes_on-end _ _ _ c.args.driver c.args.present c.args.now c.args.value c.args.time c.args.reject c.args.error (style_seen c.args.style) (reverse (error_pulse (style_seen c.args.style) (rest_of (reverse xs)) c.in-Some.last_time c.args.present c.args.now c.args.value c.args.time))
    c.loop-last_time.invariant.goes_on c.place_error.ensures.lists
    (placed-error xs (c.in-Some.last_time, c.in-Some.last) c.args.present c.args.now c.args.value c.args.time c.args.reject c.args.error (style_seen c.args.style) (sym c.in-Some.ensures.last) differs c.if-last_time-time.true c.if-error-width.false c.if-reject-width.true)

pub loop-last_time-preserved : goal.loop-last_time-preserved
loop-last_time-preserved g c =
    let lists = g.A.Agenda.lists in
    let xs = list_at (lists c.loop-last_time.agenda) c.args.driver in
    let p : ℕ × _ = (c.in-Some.last_time, c.in-Some.last) in
    let differs : c.in-Some.last ≢ c.args.value = search rules in
    record {
      goes_on = goes_on-drop _ _ _ c.args.driver c.args.present c.args.now c.args.value c.args.time c.args.reject c.args.error (style_seen c.args.style) c.loop-last_time.invariant.goes_on c.drop_last.ensures.lists
          (elim c.if-last_time-time.branch [
            | then-last_time-time+else-error-width+else-reject-width w ↦ placed-rejected xs (c.in-Some.last_time, c.in-Some.last) c.args.present c.args.now c.args.value c.args.time c.args.reject c.args.error (style_seen c.args.style) (sym c.in-Some.ensures.last) differs w.if-last_time-time.true w.if-error-width.false w.if-reject-width.false
            | else-last_time-time w ↦ placed-dropped xs (c.in-Some.last_time, c.in-Some.last) c.args.present c.args.now c.args.value c.args.time c.args.reject c.args.error (style_seen c.args.style) (sym c.in-Some.ensures.last) differs w.if-last_time-time.false
          ]);
      spare = omega arith;
    }

pub returns-clause-lists : goal.returns-clause-lists
returns-clause-lists g c =
    let lists = g.A.Agenda.lists in
    let xs = list_at (lists c.loop-last_time.agenda) c.args.driver in
    goes_on-end _ _ _ c.args.driver c.args.present c.args.now c.args.value c.args.time c.args.reject c.args.error (style_seen c.args.style) (reverse (put (reverse xs) c.args.present c.args.time c.args.value))
    c.loop-last_time.invariant.goes_on c.put_last.ensures.lists
    (placed-empty xs c.args.present c.args.now c.args.value c.args.time c.args.reject c.args.error (style_seen c.args.style) (sym c.in_default.ensures.last))
