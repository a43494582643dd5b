use Rattle.std.proofs.Common.{◌<◌, length, refl, subst, arith}
use Rattle.std.specs.Prelude.{◌^◌}
use Rattle.std.proofs.lemmas.Result.{err_from_is_err_and}
use Rattle.sg_circuit.specs.Seen.{circuit_seen}
use Rattle.written_model.specs.Text.{text}
use Rattle.written_text.specs.Large.{IsTooLongFor}
use Rattle.written_text.proofs.TextLaws.{cells_too_long, error_told, small_is, text_made}
use Rattle.written_text.proofs.scopes.written.Goals as goal

pub returns-in_err-push_scopes-clause-fault : goal.returns-in_err-push_scopes-clause-fault
returns-in_err-push_scopes-clause-fault c =
    let parts = c.args.parts.now in
    let e = c.in_err-push_scopes.field-0.0 in
    error_told c.from_residual-in_err-push_scopes.result (IsTooLongFor (text (circuit_seen parts))) e (err_from_is_err_and c.from_residual-in_err-push_scopes.result c.from_residual-in_err-push_scopes.ensures.1)
    (cells_too_long parts c.new-text.result.items c.push_head.new.text.items e c.new-text.ensures.items c.in_ok-push_head.ensures c.in_err-push_scopes.ensures.fault)

pub returns-then-len-gt-LARGEST-clause-fault : goal.returns-then-len-gt-LARGEST-clause-fault
returns-then-len-gt-LARGEST-clause-fault c =
    let made = c.extend_from_slice.new.self.items in
    let whole = text_made c.args.parts.now c.new-text.result.items c.push_head.new.text.items c.push_scopes.new.text.items made c.new-text.ensures.items c.in_ok-push_head.ensures c.in_ok-push_scopes.ensures.text
    c.in_ok-extend_from_slice.ensures.items in
    let long : 2 ^ 28 < length made = omega (arith, c.if-len-gt-LARGEST.true, c.len-2.ensures, c.extend_from_slice.new.self.ok.0) in
    (refl, subst (λ t. 2 ^ 28 < length t) whole long)

pub returns-clause-text : goal.returns-clause-text
returns-clause-text c =
    text_made c.args.parts.now c.new-text.result.items c.push_head.new.text.items c.push_scopes.new.text.items c.extend_from_slice.new.self.items c.new-text.ensures.items c.in_ok-push_head.ensures c.in_ok-push_scopes.ensures.text
    c.in_ok-extend_from_slice.ensures.items

pub returns-clause-small : goal.returns-clause-small
returns-clause-small c =
    let made = c.extend_from_slice.new.self.items in
    let whole = text_made c.args.parts.now c.new-text.result.items c.push_head.new.text.items c.push_scopes.new.text.items made c.new-text.ensures.items c.in_ok-push_head.ensures c.in_ok-push_scopes.ensures.text
    c.in_ok-extend_from_slice.ensures.items in
    small_is (circuit_seen c.args.parts.now) made whole (omega (arith, c.if-len-gt-LARGEST.false, c.len-2.ensures, c.extend_from_slice.new.self.ok.0))
