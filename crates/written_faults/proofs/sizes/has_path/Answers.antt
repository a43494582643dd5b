use Rattle.std.proofs.Common.{◌∙◌, ap}
use Rattle.std.specs.List.{list_any}
use Rattle.sg_circuit.specs.PathsSeen.{path_seen, spanned}
use Rattle.sg_circuit.specs.TimingsSeen.{timings_at}
use Rattle.sg_circuit.specs.declared.paths.Path.{Path}
use Rattle.written_faults.specs.Sizes.{any_size, is_wrong, path_size}
use Rattle.written_faults.proofs.AnyLaws.{any-mapped}
use Rattle.written_faults.proofs.sizes.has_path.Goals as goal

pub returns : goal.returns
returns c =
    any-mapped (path_size (is_wrong c.args.fault)) (path_seen c.args.parts.now.conditions.items c.args.parts.now.leg_timings.items) (spanned c.args.parts.now.paths.items c.args.span) c.paths_in.result.now c.has_each_path.result c.paths_in.ensures
    (c.has_each_path.ensures ∙ ap (λ ts. list_any (λ (p : Path). any_size (is_wrong c.args.fault) (timings_at ts p.timing)) c.paths_in.result.now) c.deref.ensures.value)
