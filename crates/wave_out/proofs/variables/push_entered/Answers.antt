use Rattle.std.proofs.Common.{ℕ, List, ◌++◌, subst}
use Rattle.std.specs.Prelude.{IfOk}
use Rattle.wave_out.specs.Walk.{HasBits}
use Rattle.wave_out.proofs.HeaderLaws.{entered_bits}
use Rattle.wave_out.proofs.variables.push_entered.Goals as goal

pub returns-in-Enters : goal.returns-in-Enters
returns-in-Enters c =
    rw c.in-Enters.is
    (subst (λ bs. IfOk c.push_variables.result (λ next. (bits : List (List ℕ)) → HasBits bits c.args.k c.args.pins.now.items → HasBits (bits ++ bs) next c.push_variables.new.pins.items))
    (entered_bits c.args.parts.now c.in-Enters.scope c.index.result.now c.deref.result.now (rw c.in-Enters.is at c.requires) c.index.ensures c.deref.ensures.value) c.push_variables.ensures)
