-- The regs of an instance that stands ready.
use Rattle.elab_scopes.proofs.driven.add_regs_at.Goals as goal

pub returns-in_default : goal.returns-in_default
returns-in_default c = λ source top corner ss all s st. absurd (c.in_default.ensures source top corner ss all s st)

pub returns : goal.returns
returns c = λ source top corner ss all s st. c.in_ok-add_regs.ensures all source s (c.in-Some.ensures source top corner ss all s st)
