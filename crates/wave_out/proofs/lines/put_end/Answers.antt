use Rattle.std.proofs.Common.{◌++◌, ◌∷◌, [], ◌∙◌, ap}
use Rattle.wave_out.specs.Vcd.{code}
use Rattle.wave_out.proofs.LineLaws.{end_length}
use Rattle.wave_out.proofs.lines.put_end.Goals as goal

pub returns-clause-length : goal.returns-clause-length
returns-clause-length c =
    end_length c.args.k c.push.new.self.items c.ranges.k.fits
    (c.in_ok-push.ensures.items ∙ ap (λ t. t ++ 10 ∷ []) (c.in_ok-push_code.ensures ∙ ap (λ t. t ++ code c.args.k) c.clear.ensures.items))
