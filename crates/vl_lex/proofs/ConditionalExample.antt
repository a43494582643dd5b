-- A small text from `ifdef to `endif, as the law takes it.
use Rattle.std.proofs.Common.{ℕ, List, [], ◌∷◌, refl, arith}
use Rattle.std.specs.Prelude.{true, false, codes}
use Rattle.sg_text.specs.Words.{reserved_rows}
use Rattle.vl_token.specs.Tokens.{name_token}
use Rattle.vl_pieces.specs.Modes.{IsPiece, Piece}
use Rattle.vl_pieces.specs.PieceBridge.{piece_of}
use Rattle.vl_pieces.proofs.PieceLaws.{piece_at_front}
use Rattle.vl_pieces.specs.declared.modes.Mode.TheVariants.{Plain}
use Rattle.vl_pieces.specs.declared.pieces.Class.TheVariants as class
use Rattle.vl_lex.specs.State.{State, first_state}
use Rattle.vl_lex.specs.Directives.{directive_of, are_no_effect}
use Rattle.vl_lex.specs.Laws.{branch, inside, takes, skips, has_else, IsConditional}

front : (b : ℕ) (bs : List ℕ) → IsPiece Plain (b ∷ bs) (piece_of (b ∷ bs)).1 (piece_of (b ∷ bs)).0
front b bs = piece_at_front (b ∷ bs) (omega arith)

abbrev gap_and_name : List Piece
gap_and_name = record { class = class.Gap; size = 1 } ∷ record { class = class.Name; size = 1 } ∷ []

-- the name c, at byte 16
abbrev pub after_c : State
after_c = record first_state { tokens = record { meaning = name_token (codes "c"); place = record { file = 0; byte = 16 } } ∷ [] }

-- A isn't defined, so that the name b is skipped
pub an_else_taken : IsConditional 16 0 (record { at = 0; text = codes "`ifdef A b`else c`endif" }) first_state (record { at = 23; text = [] }) after_c
unfolding reserved_rows directive_of are_no_effect
an_else_taken =
    record {
      wanted = true;
      name = codes "A";
      start = record { at = 8; text = codes " b`else c`endif" };
      end = record { at = 10; text = codes "`else c`endif" };
      between = first_state;
      test = record { size = 6; gaps = 1 ∷ []; name_size = 1; directive = record { piece = front 96 (codes "ifdef A b`else c`endif"); directive = refl }; between = (front 32 (codes "A b`else c`endif"), tt); word = front 65 (codes " b`else c`endif"); spells = refl; end = refl };
      text = skips refl (record { pieces = gap_and_name; last = inside [] (branch (record { file = 0; byte = 0 }) false false false) first_state; reads = ((refl, refl), front 32 (codes "b`else c`endif"), (_, refl, ((refl, refl), front 98 (codes "`else c`endif"), (_, refl, (refl, refl))))); closed = refl; complete = refl }) refl;
      rest = has_else false false _ _ 5 (record { at = 17; text = codes "`endif" }) 6 (record { piece = front 96 (codes "else c`endif"); directive = refl })
          (takes refl (record { reads = (gap_and_name, (tt, front 32 (codes "c`endif"), (_, refl, (tt, front 99 (codes "`endif"), (_, refl, (refl, refl)))))); closed = refl; complete = refl }))
          (record { piece = front 96 (codes "endif"); directive = refl }) refl;
    }
