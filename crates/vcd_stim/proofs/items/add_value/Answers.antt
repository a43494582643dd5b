-- A value is put to the nets of its code.
use Rattle.std.specs.Prelude.{map, Some}
use Rattle.std.specs.Option.{option_map}
use Rattle.std.proofs.Common.{sym, ap, ◌∙◌, refl}
use Rattle.vcd_stim.specs.Index.{listed, nets_in}
use Rattle.vcd_stim.proofs.CodeLaws.{value-is}
use Rattle.vcd_stim.proofs.items.add_value.Goals as goal

pub returns : goal.returns
returns c h scale n now gs t s =
    value-is h scale n now gs c.args.steps.now _ c.args.byte c.args.code_byte c.args.bits.now c.args.code.now (map (λ x. x.now) c.deref.result.now) c.put_to_all.result (listed c.args.table.now) t s
    (ap (option_map nets_in) (sym c.in-Some.ensures.value) ∙ ap (λ l. Some (map (λ x. x.now) l)) (sym c.deref.ensures.value)) refl refl c.put_to_all.ensures
