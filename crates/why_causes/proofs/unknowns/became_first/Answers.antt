use Rattle.std.proofs.Common.{◌∙◌, ◌+◌, ℕ, None, ap, sym, refl, slice_index_or}
use Rattle.std.specs.Prelude.{cond, slice_get}
use Rattle.std.specs.List.{enumerate_from}
use Rattle.why_causes.specs.Candidates.{last_of, earliest}
use Rattle.why_causes.specs.Unknowns.{is_unknown_among}
use Rattle.why_causes.proofs.Lists.{map-some-filter}
use Rattle.why_causes.proofs.LatestLaws.{earliest-more, earliest-all}
use Rattle.why_causes.proofs.unknowns.became_first.Goals as goal

pub loop-input-preserved : goal.loop-input-preserved
loop-input-preserved c =
    earliest-more (λ (i : ℕ × ℕ). cond (is_unknown_among c.args.nets.now c.args.trace.now c.args.time i.1) (last_of c.args.trace.now (c.args.time + 1) i) None)
    c.args.inputs.now c.loop-input.input (slice_index_or c.args.inputs.now c.loop-input.input 0) 0 c.loop-input.best c.unknown_since.result c.earlier-best.result
    c.loop-input-test.true refl c.loop-input.invariant c.unknown_since.ensures c.earlier-best.ensures

pub returns : goal.returns
returns c =
    earliest-all (λ (i : ℕ × ℕ). cond (is_unknown_among c.args.nets.now c.args.trace.now c.args.time i.1) (last_of c.args.trace.now (c.args.time + 1) i) None)
    c.args.inputs.now c.loop-input.input c.loop-input.best c.loop-input-test.false c.loop-input.invariant
    ∙ ap (λ cs. slice_get (earliest cs) 0) (sym (map-some-filter (last_of c.args.trace.now (c.args.time + 1)) (λ (i : ℕ × ℕ). is_unknown_among c.args.nets.now c.args.trace.now c.args.time i.1) (enumerate_from 0 c.args.inputs.now)))
