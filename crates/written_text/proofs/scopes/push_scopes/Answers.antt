use Rattle.std.proofs.Common.{◌++◌, ◌+◌, ◌-◌, ◌<◌, length, refl, arith}
use Rattle.std.specs.Prelude.{◌^◌, flat_map}
use Rattle.std.specs.List.{range_with_len}
use Rattle.sg_circuit.specs.Seen.{circuit_seen}
use Rattle.written_model.specs.Text.{cell_text}
use Rattle.written_text.proofs.TextLaws.{scope_step, too_long}
use Rattle.written_text.proofs.scopes.push_scopes.Goals as goal

pub loop-scope-preserved : goal.loop-scope-preserved
loop-scope-preserved c =
    let n = length c.args.parts.now.scopes.items in
    let cell = cell_text (circuit_seen c.args.parts.now) in
    let l : c.loop-scope.scope < n = omega (arith, c.loop-scope-test.true, c.len-scope-end.ensures, c.loop-scope.auto, c.args.parts.now.scopes.ok.0) in record {
      text = scope_step cell c.loop-scope.scope n c.loop-scope.text.items c.push_scope.new.text.items (c.args.text.now.items ++ flat_map cell (range_with_len 0 n)) l c.loop-scope.invariant.text c.in_ok-push_scope.ensures.text;
      marks = c.push_scope.ensures.marks;
      nets = omega (arith, c.push_scope.auto.places, c.loop-scope.invariant.nets);
    }

pub returns-then-len-gt-LARGEST-clause-fault : goal.returns-then-len-gt-LARGEST-clause-fault
returns-then-len-gt-LARGEST-clause-fault c =
    let n = length c.args.parts.now.scopes.items in
    let k = c.loop-scope.scope in
    let cell = cell_text (circuit_seen c.args.parts.now) in
    let whole = c.args.text.now.items ++ flat_map cell (range_with_len 0 n) in
    let l : k < n = omega (arith, c.loop-scope-test.true, c.len-scope-end.ensures, c.loop-scope.auto, c.args.parts.now.scopes.ok.0) in
    let long : 2 ^ 28 < length c.push_scope.new.text.items = omega (arith, c.if-len-gt-LARGEST.true, c.len.ensures, c.push_scope.new.text.ok.0) in
    (refl, too_long (2 ^ 28) c.push_scope.new.text.items (flat_map cell (range_with_len (k + 1) (n - (k + 1)))) whole long (scope_step cell k n c.loop-scope.text.items c.push_scope.new.text.items whole l c.loop-scope.invariant.text c.in_ok-push_scope.ensures.text))
