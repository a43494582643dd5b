use Rattle.std.proofs.Common.{◌<◌, length, map, sym, ap, ◌∙◌, subst}
use Rattle.std.proofs.lemmas.List.{length-map}
use Rattle.sg_circuit.specs.PathsSeen.{path_seen, paths_seen}
use Rattle.settle_bound.specs.Hops.{longest}
use Rattle.settle_bound.proofs.LongestLaws.{path-timings, paths-more}
use Rattle.settle_bound.proofs.weights.longest_of_paths.Goals as goal

pub loop-path-preserved : goal.loop-path-preserved
loop-path-preserved c =
    let conditions = c.args.parts.now.conditions.items in
    let timings = c.args.parts.now.leg_timings.items in
    let paths = c.args.paths.now in
    let i = c.loop-path.path-index in
    let p = c.path-item.result in
    let l = c.loop-path-test.true in
    let within = subst (λ x. x.timing < length timings) (sym c.path-item.is) (c.requires i p l) in
    let many = subst (λ n. i < n) (sym (length-map paths (path_seen conditions timings))) l in
    c.max-most.ensures
    ∙ paths-more (paths_seen conditions timings paths) i (path_seen conditions timings p) c.loop-path.most c.longest_of_timing.result many c.loop-path.invariant
    (c.longest_of_timing.ensures ∙ ap (λ ts. longest (map (λ t. t.delay) ts)) (path-timings conditions timings paths i p c.index.result.now l c.path-item.is within c.index.ensures))
