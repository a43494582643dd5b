use Rattle.std.proofs.Common.{◌∙◌, sym, ap, ◌++◌}
use Rattle.std.specs.Prelude.{codes}
use Rattle.wave_out.specs.Texts.{written_name}
use Rattle.wave_out.proofs.TextLaws.{add_three, line_end}
use Rattle.wave_out.proofs.header.push_scope.Goals as goal

pub returns : goal.returns
returns c =
    add_three c.args.text.now.items (codes "$scope module ") (written_name c.args.name.now) (codes " $end\n")
    c.in_ok-extend_from_slice.ensures.items c.in_ok-push_name.ensures c.in_ok-extend_from_slice-2.ensures.items
    ∙ ap (λ t. c.args.text.now.items ++ t) (sym (line_end (codes "$scope module " ++ written_name c.args.name.now)))
