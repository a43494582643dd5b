-- The nets of gates and primitives are those at their terminals.
use Rattle.std.specs.Prelude.{◌≡◌, ℕ, List, map}
use Rattle.std.proofs.Common.{◌∙◌, ap}
use Rattle.vl_tree.specs.Tree.{Expression}
use Rattle.elab_model.specs.Elements.{output_bits, input_bits}
use Rattle.elab_model.specs.Hierarchy.{Instance}
use Rattle.elab_model.specs.Names.{Variable, variables}
use Rattle.elab_model.specs.Nets.{terminal_nets}
use Rattle.elab_bits.specs.Seen.{view_bit}
use Rattle.elab_bits.specs.declared.bits.Bit as code_bit
use Rattle.elab_nets.specs.TerminalBits.{HasBits, outputs_of, inputs_of}
use Rattle.elab_nets.specs.declared.member_bits.TerminalBits.{TerminalBits}

pub terminals-are : (vs : List Variable) (s : Instance) (k count outputs : ℕ) (es fs : List Expression) (t : TerminalBits) (outs ins : List code_bit.Bit) → vs ≡ variables s.step.definition
    → HasBits vs count es t
    → count ≡ outputs → es ≡ fs → outs ≡ t.outputs.items → ins ≡ t.inputs.items
    → terminal_nets s k (map (view_bit vs) outs) (map (view_bit vs) ins) ≡ terminal_nets s k (output_bits s outputs fs) (input_bits s outputs fs)
terminals-are vs s k count outputs es fs t outs ins e h n f o i =
    ap (λ xs. terminal_nets s k (map (view_bit vs) xs) (map (view_bit vs) ins)) o ∙ ap (λ xs. terminal_nets s k (map (view_bit vs) t.outputs.items) (map (view_bit vs) xs)) i
    ∙ ap (λ xs. terminal_nets s k xs (map (view_bit vs) t.inputs.items)) h.outputs ∙ ap (terminal_nets s k (outputs_of vs count es)) h.inputs
    ∙ ap (λ ws. terminal_nets s k (outputs_of ws count es) (inputs_of ws count es)) e
    ∙ ap (λ m. terminal_nets s k (output_bits s m es) (input_bits s m es)) n ∙ ap (λ xs. terminal_nets s k (output_bits s outputs xs) (input_bits s outputs xs)) f
