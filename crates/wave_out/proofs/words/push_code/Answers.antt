use Rattle.std.proofs.Common.{◌∙◌, sym, ap, ◌++◌, ◌/◌, ◌-◌, append_assoc}
use Rattle.wave_out.specs.Vcd.{code}
use Rattle.wave_out.proofs.CodeLaws.{code_large}
use Rattle.wave_out.proofs.words.push_code.Goals as goal

pub loop-rest-preserved : goal.loop-rest-preserved
loop-rest-preserved c =
    ap (λ t. t ++ code (c.loop-rest.rest / 94 - 1)) c.in_ok-push.ensures.items
    ∙ (append_assoc c.loop-rest.text.items _ _
    ∙ (ap (λ cs. c.loop-rest.text.items ++ cs) (sym (code_large c.loop-rest.rest c.if-rest-lt94.false)) ∙ c.loop-rest.invariant))
