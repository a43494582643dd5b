use Rattle.std.proofs.Common.{◌∙◌, inl, inr, refl, subst}
use Rattle.std.proofs.lemmas.Result.{err_from_is_err_and}
use Rattle.sg_io.specs.Put.{Puts}
use Rattle.run_report.proofs.report.write_stopped.Goals as goal

pub returns-in_err-text : goal.returns-in_err-text
returns-in_err-text g c = let p = err_from_is_err_and c.from_residual.result c.from_residual.ensures.1 in rw (p.1, p.2) (inr (refl, refl))

pub returns : goal.returns
returns g c =
    inl
    (subst (λ text. Puts text (g.K.Sink.told c.args.sink.now) (g.K.Sink.told c.put.new.self) c.put.result)
    (c.deref.ensures.value ∙ c.in_ok-text.ensures) c.put.ensures)
