-- The bits of the terminals of a gate or a primitive.
use Rattle.std.specs.Prelude.{◌≡◌, ℕ, List, ◌++◌, map, flat_map, take, drop}
use Rattle.vl_tree.specs.Tree.{Expression}
use Rattle.elab_model.specs.Bits.{Bit, bits}
use Rattle.elab_model.specs.Elements.{only_bit}
use Rattle.elab_model.specs.Names.{Variable}
use Rattle.elab_bits.specs.Seen.{view_bit}
use Rattle.elab_nets.specs.declared.member_bits.TerminalBits.{TerminalBits}

-- of so many outputs, and of what stands behind them
abbrev pub outputs_of : List Variable → ℕ → List Expression → List Bit
outputs_of vs count es = flat_map (λ e. only_bit (bits vs e)) (take count es)

abbrev pub inputs_of : List Variable → ℕ → List Expression → List Bit
inputs_of vs count es = flat_map (bits vs) (drop count es)

pub record HasBits (vs : List Variable) (count : ℕ) (es : List Expression) (t : TerminalBits) : Type 0 where
  pub outputs : map (view_bit vs) t.outputs.items ≡ outputs_of vs count es
  pub inputs : map (view_bit vs) t.inputs.items ≡ inputs_of vs count es

-- what there is, with the bits of terminals that are still to come
abbrev pub all_outputs : List Variable → TerminalBits → List Expression → List Bit
all_outputs vs t es = map (view_bit vs) t.outputs.items ++ outputs_of vs t.outputs_to_come es

abbrev pub all_inputs : List Variable → TerminalBits → List Expression → List Bit
all_inputs vs t es = map (view_bit vs) t.inputs.items ++ inputs_of vs t.outputs_to_come es

-- these have come: whatever comes behind them, it is the same in all
abbrev pub AddsTerminals : List Variable → List Expression → TerminalBits → TerminalBits → Type 0
AddsTerminals vs more old new = (rest : List Expression) → (all_outputs vs new rest ≡ all_outputs vs old (more ++ rest)) × (all_inputs vs new rest ≡ all_inputs vs old (more ++ rest))
