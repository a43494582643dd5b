use Rattle.std.proofs.lemmas.Result.{err_from_is_err_and}
use Rattle.std.proofs.Common.{[], refl}
use Rattle.run_words.specs.Words.{a_writing}
use Rattle.run_words.specs.WordsSeen.{writing_seen}
use Rattle.signoff_phases.specs.declared.stop.Stop.TheVariants as stop
use Rattle.signoff_top.specs.declared.work.Done.{Done}
use Rattle.signoff_top.specs.declared.writing.Written.{Written}
use Rattle.signoff_phases.proofs.Composed.{failed_again}
use Rattle.signoff_top.proofs.Failures.{out_among}
use Rattle.signoff_top.proofs.Worked.{delays_begun, delays_stopped, failed_at_made, made_fails, made_wants, none_yet, want_untouched, writing_gives, writing_leaves, writing_stopped, written_file}
use Rattle.signoff_top.proofs.work.write_delays.Goals as goal

pub returns-in_err-written-clause-left : goal.returns-in_err-written-clause-left
returns-in_err-written-clause-left g c =
    let p = err_from_is_err_and c.from_residual.result c.from_residual.ensures.1 in
    λ ws e. rw (p.1, p.2) (writing_stopped ws (writing_seen c.args.writing.now) c.in_err-written.field-0.0 _ _ e c.in_err-written.ensures.gives c.in_err-written.ensures.held)

pub returns-in_err-written-clause-named : goal.returns-in_err-written-clause-named
returns-in_err-written-clause-named g c =
    let p = err_from_is_err_and c.from_residual.result c.from_residual.ensures.1 in
    λ ws e. rw (p.1, p.2) (failed_again Written Done _ _ c.in_err-written.field-0.0 (λ x. x) (c.in_err-written.ensures.named ws e))

pub returns-in_err-report-clause-left : goal.returns-in_err-report-clause-left
returns-in_err-report-clause-left g c =
    let p = err_from_is_err_and c.from_residual-in_err-report.result c.from_residual-in_err-report.ensures.1 in
    λ ws e. rw (p.1, p.2) (want_untouched ws _ _ c.in_ok-written.ensures.held)

pub returns-in_err-report-clause-named : goal.returns-in_err-report-clause-named
returns-in_err-report-clause-named g c =
    let p = err_from_is_err_and c.from_residual-in_err-report.result c.from_residual-in_err-report.ensures.1 in
    λ ws e. rw (p.1, p.2) tt

pub returns-in-Ok-clause-left : goal.returns-in-Ok-clause-left
returns-in-Ok-clause-left g c =
    λ ws e. writing_leaves ws (writing_seen c.args.writing.now) c.in_ok-written.written (record { report = c.in_ok-report.report }) _ _ _ (writing_gives ws (writing_seen c.args.writing.now) c.in_ok-written.written _ e c.in_ok-written.ensures.gives)
    c.in_ok-written.ensures.held (rw c.deref.ensures.value at c.in-Ok.ensures.file) c.in_ok-report.ensures

pub returns-in-Err-Failed-clause-left : goal.returns-in-Err-Failed-clause-left
returns-in-Err-Failed-clause-left g c =
    λ ws e. made_fails ws _ [] (written_file (writing_seen c.args.writing.now).out c.in_ok-written.written) [] _ _ _ (writing_gives ws (writing_seen c.args.writing.now) c.in_ok-written.written _ e c.in_ok-written.ensures.gives) refl
    (none_yet _ _ c.in_ok-written.ensures.held) (rw c.deref.ensures.value at c.in-Err-Failed.ensures.file)

pub returns-in-Err-Failed-clause-named : goal.returns-in-Err-Failed-clause-named
returns-in-Err-Failed-clause-named g c =
    let named = rw c.in-Err-Failed.field-0-is at c.in-Err-Failed.ensures.named in
    λ ws e. failed_at_made ws _ [] (written_file (writing_seen c.args.writing.now).out c.in_ok-written.written) [] _ _ _ (writing_gives ws (writing_seen c.args.writing.now) c.in_ok-written.written _ e c.in_ok-written.ensures.gives) refl
    (none_yet _ _ c.in_ok-written.ensures.held) (rw c.deref.ensures.value at c.in-Err-Failed.ensures.file) (a_writing (writing_seen c.args.writing.now)) _ e (out_among (writing_seen c.args.writing.now)) named

pub returns-clause-left : goal.returns-clause-left
returns-clause-left g c =
    λ ws e. made_wants ws _ [] (written_file (writing_seen c.args.writing.now).out c.in_ok-written.written) [] _ _ _ (writing_gives ws (writing_seen c.args.writing.now) c.in_ok-written.written _ e c.in_ok-written.ensures.gives) refl
    (none_yet _ _ c.in_ok-written.ensures.held) (rw c.deref.ensures.value at c.in-Err-NoMemory.ensures.file)

pub returns-in_err-written-clause-begun : goal.returns-in_err-written-clause-begun
returns-in_err-written-clause-begun g c =
    let p = err_from_is_err_and c.from_residual.result c.from_residual.ensures.1 in
    rw (p.1, p.2) (delays_stopped (writing_seen c.args.writing.now).out c.in_err-written.field-0.0 _ _ c.in_err-written.ensures.held)

pub returns-in_err-report-clause-begun : goal.returns-in_err-report-clause-begun
returns-in_err-report-clause-begun g c =
    let p = err_from_is_err_and c.from_residual-in_err-report.result c.from_residual-in_err-report.ensures.1 in
    rw (p.1, p.2) (delays_stopped (writing_seen c.args.writing.now).out stop.NoMemory _ _ c.in_ok-written.ensures.held)

pub returns-clause-begun : goal.returns-clause-begun
returns-clause-begun g c = delays_begun (writing_seen c.args.writing.now).out _ _ _ c.in_ok-written.ensures.held (rw c.in-Err-NoMemory.field-0-is at c.in-Err-NoMemory.ensures.begun)
