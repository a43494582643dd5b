-- One path after another.
use Rattle.std.proofs.Common.{[], ◌∷◌, ◌<◌, length, subst, sym, map}
use Rattle.sg_circuit.specs.declared.paths.Path as code_path
use Rattle.sg_circuit.specs.TimingsSeen.{leg_timing_seen}
use Rattle.written_model.specs.Entries.{numbers_of}
use Rattle.written_faults.specs.Ambiguities.{numbers_in, path_pair}
use Rattle.written_faults.proofs.PairLaws.{pair_is}
use Rattle.written_faults.proofs.ReadingLaws.{stops, goes-on}
use Rattle.written_faults.proofs.ambiguities.add_paths.Goals as goal

pub returns-then-branch : goal.returns-then-branch
returns-then-branch c =
    let timings = c.args.timings.now in
    let p = c.path-item.result in
    let l : p.timing < length timings = subst (λ (q : code_path.Path). q.timing < length timings) (sym c.path-item.is) (c.requires c.loop-path.path-index p c.loop-path-test.true).timing in
    stops (λ q. path_pair timings c.args.classes.now c.args.output q ∷ []) c.args.paths.now c.loop-path.path-index p p ((c.path_code-code.result, map numbers_of (leg_timing_seen c.index-timings-path.result)) ∷ [])
    (numbers_in c.args.seen.now) (numbers_in c.loop-path.seen) (numbers_in c.add_path.new.seen) c.in_ok-add_path.field-0 c.loop-path-test.true c.path-item.is
    (pair_is timings c.args.classes.now c.args.output p c.path_code-code.result c.index-timings-path.result c.path_code-code.ensures c.index-timings-path.is l) c.loop-path.invariant c.in_ok-add_path.ensures c.if-branch.true

pub loop-path-preserved : goal.loop-path-preserved
loop-path-preserved c =
    let timings = c.args.timings.now in
    let p = c.path-item.result in
    let l : p.timing < length timings = subst (λ (q : code_path.Path). q.timing < length timings) (sym c.path-item.is) (c.requires c.loop-path.path-index p c.loop-path-test.true).timing in
    goes-on (λ q. path_pair timings c.args.classes.now c.args.output q ∷ []) c.args.paths.now c.loop-path.path-index p p ((c.path_code-code.result, map numbers_of (leg_timing_seen c.index-timings-path.result)) ∷ [])
    (numbers_in c.args.seen.now) (numbers_in c.loop-path.seen) (numbers_in c.add_path.new.seen) c.in_ok-add_path.field-0 c.loop-path-test.true c.path-item.is
    (pair_is timings c.args.classes.now c.args.output p c.path_code-code.result c.index-timings-path.result c.path_code-code.ensures c.index-timings-path.is l) c.loop-path.invariant c.in_ok-add_path.ensures c.if-branch.false
