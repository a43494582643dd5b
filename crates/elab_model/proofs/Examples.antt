-- How many terminals gates take, and how many of them are outputs.
use Rattle.std.specs.Prelude.{◌≡◌, true, false, refl}
use Rattle.sg_logic.specs.declared.gates.GateKind.TheVariants.{And, Not, Bufif1, Notif0}
use Rattle.elab_model.specs.Elements.{output_count}
use Rattle.elab_model.specs.ModuleFaults.{takes_terminals}

-- and (y); and and (y, a);
and_of_none : takes_terminals And 1 ≡ false
and_of_none = refl

and_of_one : takes_terminals And 2 ≡ true
and_of_one = refl

-- bufif1 (y, a); bufif1 (y, a, c); and notif0 (y, z, a, c);
no_control : takes_terminals Bufif1 2 ≡ false
no_control = refl

input_and_control : takes_terminals Bufif1 3 ≡ true
input_and_control = refl

two_outputs : takes_terminals Notif0 4 ≡ false
two_outputs = refl

-- not (y, z, a); has two outputs, bufif1 (y, a, c); one
outputs_of_not : output_count Not 3 ≡ 2
outputs_of_not = refl

outputs_of_bufif1 : output_count Bufif1 3 ≡ 1
outputs_of_bufif1 = refl
