-- An input's bits are driven.
use Rattle.std.proofs.Common.{◌≡◌, true, false, arith}
use Rattle.elab_model.specs.Homes.{is_input}
use Rattle.elab_variables.specs.Seen.{variable_at}
use Rattle.elab_scopes.proofs.InputDrives.{no-input, one-input}
use Rattle.elab_scopes.proofs.inputs.add_input.Goals as goal

pub returns-then-not-is_input : goal.returns-then-not-is_input
returns-then-not-is_input c = λ all source s is top p.
    let v = variable_at c.args.here.now.prepared.now.table c.args.variable in
    let input : is_input v.port ≡ false = grind (arith, c.row.ensures.port, c.is_input.ensures, c.if-not-is_input.true) in
    no-input all source s v c.args.made.now input

pub returns : goal.returns
returns c = λ all source s is top p.
    let v = variable_at c.args.here.now.prepared.now.table c.args.variable in
    let input : is_input v.port ≡ true = grind (arith, c.row.ensures.port, c.is_input.ensures, c.if-not-is_input.false) in
    one-input all source s v c.args.place c.bits_of.result.now c.args.made.now c.add_bits.new.made input top p
    (c.bits_of.ensures all source s is) c.in_ok-add_bits.ensures.nets c.in_ok-add_bits.ensures.places
