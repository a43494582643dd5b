-- The bits of the sides of an assignment, in room that was cleared.
use Rattle.std.specs.Prelude.{◌≡◌, List, [], ◌++◌, map}
use Rattle.std.proofs.Common.{◌∙◌, ap}
use Rattle.elab_model.specs.Bits.{Bit}
use Rattle.elab_model.specs.Names.{Variable}
use Rattle.elab_bits.specs.declared.bits.Bit as code_bit
use Rattle.elab_bits.specs.Seen.{view_bit}

pub seen-bits : (vs : List Variable) (cleared new slice : List code_bit.Bit) (bs : List Bit) → cleared ≡ [] → map (view_bit vs) new ≡ map (view_bit vs) cleared ++ bs → slice ≡ new → map (view_bit vs) slice ≡ bs
seen-bits vs cleared new slice bs e h s = ap (map (view_bit vs)) s ∙ h ∙ ap (λ xs. map (view_bit vs) xs ++ bs) e
