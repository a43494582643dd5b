-- One statement more.
use Rattle.std.proofs.Common.{arith, map, ap, []}
use Rattle.std.proofs.lemmas.Result.{err_from_is_err_and}
use Rattle.stim_read.specs.Faults.{faults_behind}
use Rattle.stim_read.specs.Meant.{scale_seen}
use Rattle.stim_read.specs.Seen.{stated_seen}
use Rattle.stim_read.proofs.Refusals.{exit-match}
use Rattle.stim_read.proofs.Slices.{first-and_rest, empty-one}
use Rattle.stim_read.proofs.StateLaws.{reached-start, reached-next, reached-end, reached-refused}
use Rattle.stim_read.proofs.steps.read_all.Goals as goal

pub loop-rest-init : goal.loop-rest-init
loop-rest-init c = rw c.new-steps.ensures.items (reached-start c.args.inputs.now.circuit.now (scale_seen c.args.scale) (map (λ s. stated_seen s) c.args.stated.now))

pub returns-in_err-meant : goal.returns-in_err-meant
returns-in_err-meant c =
    exit-match _ (faults_behind c.args.inputs.now.circuit.now (scale_seen c.args.scale) [] (map (λ s. stated_seen s) c.args.stated.now)) c.from_residual.result c.in_err-meant.field-0.0 (err_from_is_err_and c.from_residual.result c.from_residual.ensures.1)
    (reached-refused c.args.inputs.now.circuit.now (scale_seen c.args.scale) (map (λ s. stated_seen s) c.args.stated.now) _ _ _ _ _ c.in_err-meant.field-0.0 c.loop-rest.invariant
    (ap (map (λ s. stated_seen s)) (first-and_rest c.loop-rest.rest.now c.one-item.result c.in-len1-up.len_at_least c.one-item.is))
    (c.in_err-meant.ensures c.loop-rest.invariant.before c.loop-rest.invariant.is_state))

pub loop-rest-preserved : goal.loop-rest-preserved
loop-rest-preserved c =
    rw (c.in_ok-note.ensures.steps, c.in_ok-note.ensures.state)
    (reached-next c.args.inputs.now.circuit.now (scale_seen c.args.scale) (map (λ s. stated_seen s) c.args.stated.now) _ _ _ _ _ c.in_ok-meant.meant c.loop-rest.invariant
    (ap (map (λ s. stated_seen s)) (first-and_rest c.loop-rest.rest.now c.one-item.result c.in-len1-up.len_at_least c.one-item.is))
    (c.in_ok-meant.ensures c.loop-rest.invariant.before c.loop-rest.invariant.is_state))

pub returns : goal.returns
returns c = reached-end c.args.inputs.now.circuit.now (scale_seen c.args.scale) (map (λ s. stated_seen s) c.args.stated.now) _ _ _ c.loop-rest.invariant (ap (map (λ s. stated_seen s)) (empty-one c.loop-rest.rest.now (omega (arith, c.in_default.len_below))))
