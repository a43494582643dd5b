use Rattle.std.proofs.Common.{◌≡◌, ◌≤◌, ◌++◌, ◌∷◌, [], length, ◌∙◌, ap, subst, arith}
use Rattle.std.proofs.lemmas.Result.{on_ok_weaker}
use Rattle.sg_circuit.specs.Pins.{with_number}
use Rattle.late_limits.specs.Pairs.{signal_number}
use Rattle.late_limits.proofs.NumberLaws.{met-before, met-now, not-met}
use Rattle.late_limits.proofs.signals.Signals.meet.Goals as goal

pub returns-then-place_of-len : goal.returns-then-place_of-len
returns-then-place_of-len c =
    let nets = c.self.inside.nets.items in
    let is : c.place_of.result ≡ signal_number nets c.args.net = c.place_of.ensures ∙ ap (λ ns. signal_number ns c.args.net) c.deref.ensures.value in
    subst (λ ns. ns ≡ with_number ns c.args.net) c.self.view_is (met-before c.args.net nets (omega (arith, c.len.ensures, c.self.inside.nets.ok.0)))

pub add_net-requires-clause-new : goal.add_net-requires-clause-new
add_net-requires-clause-new c =
    let nets = c.self.inside.nets.items in
    let is : c.place_of.result ≡ signal_number nets c.args.net = c.place_of.ensures ∙ ap (λ ns. signal_number ns c.args.net) c.deref.ensures.value in
    not-met c.args.net nets (omega (arith, c.len.ensures, c.self.inside.nets.ok.0))

pub returns : goal.returns
returns c =
    let nets = c.self.inside.nets.items in
    let is : c.place_of.result ≡ signal_number nets c.args.net = c.place_of.ensures ∙ ap (λ ns. signal_number ns c.args.net) c.deref.ensures.value in
    let far : length nets ≤ signal_number nets c.args.net = omega (arith, c.len.ensures, c.self.inside.nets.ok.0) in
    let now : nets ++ c.args.net ∷ [] ≡ with_number c.args.self.now c.args.net = subst (λ ns. nets ++ c.args.net ∷ [] ≡ with_number ns c.args.net) c.self.view_is (met-now c.args.net nets far) in
    on_ok_weaker c.add_net.result (λ e. e ∙ now) c.add_net.ensures.added
