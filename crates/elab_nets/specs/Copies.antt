-- The nets of delayed copies, as the code has them.
use Rattle.std.specs.Prelude.{ℕ, List, [], ◌∷◌, Option, None, Some}
use Rattle.sg_circuit.specs.declared.nets.Net.{Net}
use Rattle.elab_bits.specs.Seen.{bit_at}
use Rattle.elab_modules.specs.DelayedCopy.{DelayedCopy}
use Rattle.elab_model.specs.Names.{Variable}
use Rattle.elab_nets.specs.Own.{net_at}

-- a net of its own, where no text names it
abbrev pub own_unless : Net → Option ℕ → List Net
own_unless o None = o ∷ []
own_unless o (Some place) = []

abbrev pub copy_nets : ℕ → List Variable → DelayedCopy → List Net
copy_nets scope vs c = own_unless (net_at scope (bit_at vs c.signal)) c.named
