use Rattle.std.proofs.Common.{refl}
use Rattle.sg_time.proofs.SaysLaws.{says_parts}
use Rattle.vl_pieces.proofs.meanings.number_kind.Goals as goal

pub returns-in-Ok : goal.returns-in-Ok
returns-in-Ok c =
    let h = c.in-Ok.ensures.only _ (says_parts c.args.bytes.now) in
    rw (← h, c.is_whole.ensures) refl

pub returns-in-Err : goal.returns-in-Err
returns-in-Err c =
    let h = c.in-Err.ensures.only _ (says_parts c.args.bytes.now) in
    rw (← h) refl
