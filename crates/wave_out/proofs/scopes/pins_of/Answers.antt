use Rattle.std.proofs.Common.{◌∙◌, sym, ap, ◌++◌, map}
use Rattle.std.proofs.Math.ListN.{get_or-map}
use Rattle.std.proofs.lemmas.List.{length-map}
use Rattle.sg_circuit.specs.Seen.{scope_seen}
use Rattle.wave_out.specs.Walk.{pin_of}
use Rattle.wave_out.proofs.WalkLaws.{pins_next}
use Rattle.wave_out.proofs.scopes.pins_of.Goals as goal

pub loop-number-preserved : goal.loop-number-preserved
loop-number-preserved c =
    let i = c.loop-number.number in
    let d = c.index-scopes-number.result in
    pins_next c.loop-number.pins.items _ _ (map (λ s. scope_seen s) c.args.scopes.now) i (scope_seen d) (simp length-map c.loop-number-test.true)
    (c.in_ok-push_pin.ensures ∙ ap (λ s. c.loop-number.pins.items ++ pin_of i s.parent) (ap (λ s. scope_seen s) c.index-scopes-number.is ∙ sym (get_or-map (λ s. scope_seen s) c.args.scopes.now i d)))
    c.loop-number.invariant
