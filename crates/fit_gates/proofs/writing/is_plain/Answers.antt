-- A name of the form is plain unless it is reserved.
use Rattle.std.proofs.Common.{sym, ◌∙◌}
use Rattle.fit_gates.proofs.NameLaws.{not-plain, plain-unless}
use Rattle.fit_gates.proofs.writing.is_plain.Goals as goal

pub returns-then-has_name_form : goal.returns-then-has_name_form
returns-then-has_name_form c = plain-unless c.args.name.now c.is_reserved.result (sym c.has_name_form.ensures ∙ c.if-has_name_form.true) c.is_reserved.ensures

pub returns-else-has_name_form : goal.returns-else-has_name_form
returns-else-has_name_form c = c.if-has_name_form.false ∙ not-plain c.args.name.now (sym c.has_name_form.ensures ∙ c.if-has_name_form.false)
