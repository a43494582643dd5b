-- No input has a real value.
use Rattle.std.specs.Prelude.{map, Some}
use Rattle.std.specs.Option.{option_map}
use Rattle.std.proofs.Common.{sym, ap, ◌∙◌}
use Rattle.vcd_stim.specs.Index.{listed, nets_in}
use Rattle.vcd_stim.proofs.CodeLaws.{real-is}
use Rattle.vcd_stim.proofs.items.pass_real.Goals as goal

pub returns : goal.returns
returns c h now t =
    real-is h now c.args.byte c.args.code_byte c.args.code.now (map (λ x. x.now) c.deref.result.now) c.no_input.result (listed c.args.table.now) t
    (ap (option_map nets_in) (sym c.in-Some.ensures.value) ∙ ap (λ l. Some (map (λ x. x.now) l)) (sym c.deref.ensures.value)) c.no_input.ensures
