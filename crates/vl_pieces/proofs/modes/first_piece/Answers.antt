use Rattle.vl_pieces.proofs.ModeLaws.{piece_in_front, piece_some}
use Rattle.vl_pieces.proofs.modes.first_piece.Goals as goal

pub returns : goal.returns
returns c =
    let p = piece_in_front c.args.mode c.args.text.now c.requires.some in
    rw (c.found_piece.ensures.class, c.found_piece.ensures.size) (record { piece = p; some = piece_some _ _ _ _ p; within = p.within })
