use Rattle.std.proofs.Common.{◌∙◌, sym, ap, refl, [], ◌∷◌, map}
use Rattle.std.proofs.lemmas.List.{map-append}
use Rattle.std.proofs.lemmas.Result.{err_from_is_err_and}
use Rattle.fit_top.specs.Work.{input_seen}
use Rattle.fit_top.proofs.Reading.{after_none, failed_among, one_named, read_more, read_stops, read_whole}
use Rattle.fit_top.proofs.inputs.read_files.Goals as goal

pub loop-name-init : goal.loop-name-init
loop-name-init g c = record { held = refl; faults = refl; read = λ files e. rw c.new-inputs.ensures.items (sym (after_none _)) }

pub returns-in_err-found-clause-named : goal.returns-in_err-found-clause-named
returns-in_err-found-clause-named g c =
    let p = err_from_is_err_and c.from_residual.result c.from_residual.ensures.1 in
    rw (p.1, p.2) (failed_among (Unit {0}) (Unit {0}) _ _ _ c.in_err-found.field-0.0 (one_named (λ n. n.now) c.args.names.now c.loop-name.name-index _ c.loop-name-test.true) c.in_err-found.ensures.named)

pub returns-in_default-clause-gives : goal.returns-in_default-clause-gives
returns-in_default-clause-gives g c =
    λ files e. read_stops (λ n. n.now) c.args.names.now c.loop-name.name-index _ c.loop-name-test.true files _ _ _ (c.loop-name.invariant.read files e)
    (rw c.in_default.is at c.in_ok-found.ensures.gives files (c.loop-name.invariant.held ∙ e))

pub loop-name-preserved : goal.loop-name-preserved
loop-name-preserved g c = record {
  held = c.in_ok-found.ensures.held ∙ c.loop-name.invariant.held;
  faults = c.in_ok-found.ensures.cause ∙ c.loop-name.invariant.faults;
  read = λ files e.
      read_more (λ n. n.now) c.args.names.now c.loop-name.name-index _ c.loop-name-test.true files _ _ _ _ c.in-Some.text
      (ap (map input_seen) c.in_ok-push.ensures.items ∙ map-append input_seen c.loop-name.inputs.items (_ ∷ [])) (c.loop-name.invariant.read files e)
      (rw c.in-Some.is at c.in_ok-found.ensures.gives files (c.loop-name.invariant.held ∙ e));
}

pub returns-clause-gives : goal.returns-clause-gives
returns-clause-gives g c = λ files e. read_whole (λ n. n.now) c.args.names.now c.loop-name.name-index files _ _ c.loop-name-test.false (c.loop-name.invariant.read files e)
