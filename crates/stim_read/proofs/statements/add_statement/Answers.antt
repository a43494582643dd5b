-- The words are short.
use Rattle.std.proofs.Common.{arith, ap, map, ◌∙◌}
use Rattle.stim_read.proofs.ShortLaws.{read-short}
use Rattle.stim_read.proofs.statements.add_statement.Goals as goal

pub form_of-requires : goal.form_of-requires
form_of-requires c = read-short c.args.line.now.bytes.now _ (ap (map (λ w. w.now)) c.deref-2.ensures.value ∙ c.in_ok-words.ensures) (omega (arith, c.requires))
