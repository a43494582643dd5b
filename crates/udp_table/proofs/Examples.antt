-- Where the cells of some small tables stand.
use Rattle.std.proofs.Common.{◌≡◌, ℕ, ◌+◌, ◌*◌, true, false, refl, if◌then◌else◌, ◌==◌}
use Rattle.sg_logic.specs.declared.values.Value.{Value}
use Rattle.sg_logic.specs.declared.values.Value.TheVariants.{Zero, One, X}
use Rattle.udp_table.specs.Places.{code, cell_count, place}

-- input 0 is x, input 1 is 1
abbrev two : ℕ → Value
two j = if j == 0 then X else One

code_of_two : code two 2 ≡ 5
code_of_two = refl

-- input 1 has risen in the state x
rise : place 2 (record { input = 1; old = Zero; inputs = two; state = X }) ≡ ((3 * 1 + 0) * 4 + 2) * 9 + 5
rise = refl

sequential : cell_count true 2 ≡ 216
sequential = refl

combinational : cell_count false 10 ≡ 59049
combinational = refl
