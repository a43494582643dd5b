use Rattle.std.proofs.lemmas.Result.{err_from_is_err_and}
use Rattle.fit_top.proofs.SdfLaws.{report_by}
use Rattle.fit_top.proofs.texts.report_text.Goals as goal

pub returns : goal.returns
returns c = report_by _ _ _ _ _ _ _ c.new-text.ensures.items c.in_ok-push_lines.ensures c.in_ok-push_counts.ensures c.in_ok-push_sdf_counts.ensures

pub returns-in_err-push_sdf_counts : goal.returns-in_err-push_sdf_counts
returns-in_err-push_sdf_counts c = rw (err_from_is_err_and c.from_residual-in_err-push_sdf_counts.result c.from_residual-in_err-push_sdf_counts.ensures.1).1 tt
