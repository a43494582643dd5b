use Rattle.std.proofs.Common.{◌∙◌, [], ◌∷◌, ap, length, arith}
use Rattle.std.proofs.lemmas.List.{length-append}
use Rattle.std.proofs.lemmas.Result.{err_from_is_err_and}
use Rattle.signoff_phases.proofs.FilesRead.{read_more, read_stops, read_fails, read_whole}
use Rattle.signoff_phases.proofs.phases.files_phase.Goals as goal

pub returns-in_err-text-clause-gives : goal.returns-in_err-text-clause-gives
returns-in_err-text-clause-gives g c =
    let p = err_from_is_err_and c.from_residual.result c.from_residual.ensures.1 in
    λ files e. rw (p.1, p.2)
    (read_stops (λ n. n.now) c.args.names.now c.loop-name.name-index _ c.loop-name-test.true files _ c.in_err-text.field-0.0
    (c.loop-name.invariant.read files e) (c.in_err-text.ensures.gives files (c.loop-name.invariant.held ∙ e)))

pub returns-in_err-text-clause-named : goal.returns-in_err-text-clause-named
returns-in_err-text-clause-named g c =
    let p = err_from_is_err_and c.from_residual.result c.from_residual.ensures.1 in
    rw (p.1, p.2)
    (read_fails (λ n. n.now) c.args.names.now c.loop-name.name-index _ c.loop-name-test.true _ _ _ c.in_err-text.field-0.0
    c.loop-name.invariant.read c.in_err-text.ensures.named)

pub loop-name-preserved : goal.loop-name-preserved
loop-name-preserved g c = record {
  held = c.in_ok-text.ensures.held ∙ c.loop-name.invariant.held;
  faults = c.in_ok-text.ensures.cause ∙ c.loop-name.invariant.faults;
  count = ap length c.in_ok-push.ensures.items ∙ (length-append c.loop-name.texts.items (c.in_ok-text.text ∷ []) ∙ omega (arith, c.loop-name.invariant.count));
  read = λ files e.
      read_more (λ n. n.now) c.args.names.now c.loop-name.name-index _ c.loop-name-test.true files c.loop-name.texts.items _
      c.in_ok-text.text c.in_ok-push.ensures.items (c.loop-name.invariant.read files e) (c.in_ok-text.ensures.gives files (c.loop-name.invariant.held ∙ e));
}

pub returns-clause-gives : goal.returns-clause-gives
returns-clause-gives g c = λ files e. read_whole (λ n. n.now) c.args.names.now c.loop-name.name-index files c.loop-name.texts c.loop-name-test.false (c.loop-name.invariant.read files e)
