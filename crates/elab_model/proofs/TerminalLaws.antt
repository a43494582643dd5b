-- A gate that has as many terminals as it may have: an output, and as many inputs as its kind takes. No kind takes more than three delays.
use Rattle.std.specs.Prelude.{◌≡◌, ℕ, ◌-◌, ◌≤◌, true}
use Rattle.std.proofs.Common.{arith}
use Rattle.std.proofs.lemmas.Bool.{eqb-true, leb-true}
use Rattle.sg_logic.specs.Gate.{TakesInputs, most_delays}
use Rattle.sg_logic.specs.declared.gates.GateKind.{GateKind}
use Rattle.sg_logic.specs.declared.gates.GateKind.TheVariants.{And, Nand, Or, Nor, Xor, Xnor, Buf, Not, Bufif0, Bufif1, Notif0, Notif1}
use Rattle.elab_model.specs.Elements.{output_count}
use Rattle.elab_model.specs.ModuleFaults.{takes_terminals}

three-are_two : (n : ℕ) → n ≡ 3 → 2 ≤ n
three-are_two n e = omega arith

pub two-at-least : (g : GateKind) (n : ℕ) → takes_terminals g n ≡ true → 2 ≤ n
two-at-least And n h = leb-true 2 n h
two-at-least Nand n h = leb-true 2 n h
two-at-least Or n h = leb-true 2 n h
two-at-least Nor n h = leb-true 2 n h
two-at-least Xor n h = leb-true 2 n h
two-at-least Xnor n h = leb-true 2 n h
two-at-least Buf n h = leb-true 2 n h
two-at-least Not n h = leb-true 2 n h
two-at-least Bufif0 n h = three-are_two n (eqb-true n 3 h)
two-at-least Bufif1 n h = three-are_two n (eqb-true n 3 h)
two-at-least Notif0 n h = three-are_two n (eqb-true n 3 h)
two-at-least Notif1 n h = three-are_two n (eqb-true n 3 h)

one-left : (n : ℕ) → 2 ≤ n → 1 ≤ n - 1
one-left n h = omega arith

last-left : (n : ℕ) → 2 ≤ n → n - (n - 1) ≡ 1
last-left n h = omega arith

two-left : (n : ℕ) → n ≡ 3 → n - 1 ≡ 2
two-left n e = omega arith

pub inputs-taken : (g : GateKind) (n : ℕ) → takes_terminals g n ≡ true → TakesInputs g (n - output_count g n)
inputs-taken And n h = one-left n (leb-true 2 n h)
inputs-taken Nand n h = one-left n (leb-true 2 n h)
inputs-taken Or n h = one-left n (leb-true 2 n h)
inputs-taken Nor n h = one-left n (leb-true 2 n h)
inputs-taken Xor n h = one-left n (leb-true 2 n h)
inputs-taken Xnor n h = one-left n (leb-true 2 n h)
inputs-taken Buf n h = last-left n (leb-true 2 n h)
inputs-taken Not n h = last-left n (leb-true 2 n h)
inputs-taken Bufif0 n h = two-left n (eqb-true n 3 h)
inputs-taken Bufif1 n h = two-left n (eqb-true n 3 h)
inputs-taken Notif0 n h = two-left n (eqb-true n 3 h)
inputs-taken Notif1 n h = two-left n (eqb-true n 3 h)

pub three-at-most : (g : GateKind) → most_delays g ≤ 3
three-at-most And = omega arith
three-at-most Nand = omega arith
three-at-most Or = omega arith
three-at-most Nor = omega arith
three-at-most Xor = omega arith
three-at-most Xnor = omega arith
three-at-most Buf = omega arith
three-at-most Not = omega arith
three-at-most Bufif0 = omega arith
three-at-most Bufif1 = omega arith
three-at-most Notif0 = omega arith
three-at-most Notif1 = omega arith
