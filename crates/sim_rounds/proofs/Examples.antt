-- Worked examples of the rules by which paths and delayed signals place values. The nets: inputs a and b, and s, of which a condition speaks.
use Rattle.std.proofs.Common.{◌≡◌, refl, ℕ, [], ◌∷◌, Option, Some, None}
use Rattle.sg_delay.specs.declared.limits.PulseStyle.TheVariants.{OnEvent, OnDetect}
use Rattle.sg_logic.specs.declared.values.Value.TheVariants.{Zero, One}
use Rattle.sg_model.specs.Machine.{Stamp, Pulse}
use Rattle.sg_model.specs.Pending.{OnEvent as on_event, OnDetect as on_detect, placed_latest_first}
use Rattle.sg_model.specs.Round.{placed_by}
use Rattle.cond_expr.specs.Tree.{leaf}
use Rattle.sg_circuit.specs.Circuit.{Late, Path}
use Rattle.sg_circuit.specs.Paths as specify
use Rattle.sim_machine.specs.Simulated.{late_rule, rule_of_kind}

-- from a or b, with a delay for a rise and one for a fall, and limits 2 and 9 of the fall
abbrev path_from : ℕ → specify.PathCondition → ℕ → specify.Path
path_from input condition rise = record { input = input; edge = None; condition = condition; timings = record { delay = rise; limits = None } ∷ record { delay = 9; limits = Some (2, 9) } ∷ [] }

abbrev changed : ℕ → Option Stamp
changed time = Some (record { time = time; before = Zero; after = One })

-- both inputs changed at 20: the lesser delay of the transition decides, counted from then, though now is 22
rises_by_the_lesser : rule_of_kind (Path (path_from 0 specify.Always 6 ∷ path_from 1 specify.Always 5 ∷ []) OnEvent) 22 (One ∷ One ∷ []) (changed 20 ∷ changed 20 ∷ []) Zero One ≡ Pulse 25 5 5 on_event
rises_by_the_lesser = refl

falls_with_limits : rule_of_kind (Path (path_from 0 specify.Always 6 ∷ []) OnDetect) 40 (Zero ∷ []) (changed 40 ∷ []) One Zero ≡ Pulse 49 2 9 on_detect
falls_with_limits = refl

-- the condition is 0: no path is left
at_once : rule_of_kind (Path (path_from 0 (specify.If [] (leaf 2)) 6 ∷ []) OnEvent) 20 (One ∷ One ∷ Zero ∷ []) (changed 20 ∷ None ∷ None ∷ []) Zero One ≡ Pulse 20 0 0 on_event
at_once = refl

-- a delayed signal keeps a pulse of one tick
a_late_pulse : placed_by (late_rule 11 3) ((13, One) ∷ []) Zero 11 Zero ≡ (13, One) ∷ (14, Zero) ∷ []
unfolding placed_latest_first
a_late_pulse = refl

a_late_rule : rule_of_kind (Late 3) 11 [] [] One Zero ≡ Pulse 14 0 0 on_event
a_late_rule = refl
