-- A variable, behind its `$var`.
use Rattle.std.proofs.lemmas.Result.{err_from_is_err_and}
use Rattle.vcd_form.specs.Places.{read_at}
use Rattle.vcd_form.specs.Seen.{came_seen}
use Rattle.vcd_form.proofs.HeaderLaws.{variable_fails, variable_found}
use Rattle.vcd_form.proofs.sections.section_from.Goals as goal

pub returns-in_err-declaration-in-Var : goal.returns-in_err-declaration-in-Var
returns-in_err-declaration-in-Var c =
    let p = err_from_is_err_and c.from_residual-in_err-declaration-in-Var.result c.from_residual-in_err-declaration-in-Var.ensures.1 in
    rw (p.1, p.2)
    (variable_fails c.args.text.now c.args.at c.args.next _ (came_seen c.args.came) (read_at c.args.text.now c.in_err-declaration-in-Var.field-0.0) c.requires.word.0 c.requires.word.1 c.in-Var.ensures c.in_err-declaration-in-Var.ensures.0, c.in_err-declaration-in-Var.ensures.1)

pub returns-in_ok-declaration-in-Var : goal.returns-in_ok-declaration-in-Var
returns-in_ok-declaration-in-Var c = (variable_found c.args.text.now c.args.at c.args.next _ (came_seen c.args.came) _ c.in_ok-declaration-in-Var.behind c.requires.word.0 c.requires.word.1 c.in-Var.ensures c.in_ok-declaration-in-Var.ensures.0, c.in_ok-declaration-in-Var.ensures.1)
