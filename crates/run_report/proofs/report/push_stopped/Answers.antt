use Rattle.std.proofs.Common.{◌++◌}
use Rattle.std.specs.Prelude.{codes, decimal}
use Rattle.std.proofs.lemmas.Result.{on_ok_weaker}
use Rattle.wave_out.specs.Texts.{line}
use Rattle.wave_out.proofs.TextLaws.{add_three}
use Rattle.run_report.proofs.report.push_stopped.Goals as goal

pub returns : goal.returns
returns c =
    on_ok_weaker c.push_count-3.result
    (λ last. add_three c.args.text.now.items (line (codes "violations " ++ decimal c.args.violations)) (line (codes "unannotated " ++ decimal c.args.unmatched)) (line (codes "stopped " ++ decimal c.args.time))
    c.in_ok-push_count.ensures c.in_ok-push_count-2.ensures last)
    c.push_count-3.ensures
