-- Each text is split, and looked through.
use Rattle.std.proofs.Common.{◌≡◌, ℕ, zero, suc, ◌+◌, ◌≤◌, List, [], ◌∷◌, length, length-drop, take, drop, refl, sym, ap, ◌∙◌, arith, subst}
use Rattle.std.specs.Prelude.{Option, Some, None}
use Rattle.std.proofs.lemmas.List.{take_all}
use Rattle.vl_pieces.specs.PieceBridge.{piece_of}
use Rattle.vl_pieces.specs.Modes.{IsPiece, Piece, ArePieces}
use Rattle.vl_lex.specs.State.{Fault}
use Rattle.vl_lex.specs.Effects.{place_at, fault_of}
use Rattle.vl_lex.specs.Lexes.{fault_or, first_fault, Checks}
use Rattle.vl_lex.specs.declared.faults.Found.{Found}
use Rattle.vl_lex.specs.declared.origins.Origin.{Origin}
use Rattle.vl_pieces.specs.declared.pieces.Class.{Class}
use Rattle.vl_pieces.specs.declared.modes.Mode.TheVariants.{Plain}
use Rattle.vl_pieces.proofs.PieceLaws.{piece_at_front}
use Rattle.vl_pieces.proofs.ModeLaws.{piece_some}

pub record IsSplit (text : List ℕ) : Type 0 where
  pub pieces : List Piece
  pub are : ArePieces text pieces

split_up_to : (most : ℕ) (text : List ℕ) → length text ≤ most → IsSplit text
split_up_to most [] le = record { pieces = []; are = refl }
split_up_to zero (b ∷ bs) le = absurd (omega arith)
split_up_to (suc most) (b ∷ bs) le =
    let size : ℕ = (piece_of (b ∷ bs)).1 in
    let p = piece_at_front (b ∷ bs) (omega arith) in
    let some = piece_some Plain (b ∷ bs) size (piece_of (b ∷ bs)).0 p in
    let rest = split_up_to most (drop size (b ∷ bs)) (omega (arith, length-drop size (b ∷ bs))) in
    record { pieces = record { class = (piece_of (b ∷ bs)).0; size = size } ∷ rest.pieces; are = (p, rest.are) }

pub split_some : (text : List ℕ) → IsSplit text
split_some text = split_up_to (length text) text (omega arith)

-- a piece without fault
pub check_on : (origin : Origin) (start at : ℕ) (text rest next : List ℕ) (n : ℕ) (c : Class) → ((found : Option Fault) → Checks origin at rest found → Checks origin start text found)
    → IsPiece Plain rest n c → fault_of c (take n rest) ≡ None → next ≡ drop n rest → (found : Option Fault) → Checks origin (at + n) next found → Checks origin start text found
check_on origin start at text rest next n c so_far p none e found h =
    let are : ArePieces (drop n rest) h.0 = subst (λ t. ArePieces t h.0) e h.1 in
    let is : found ≡ first_fault origin (at + n) (drop n rest) h.0 = subst (λ t. found ≡ first_fault origin (at + n) t h.0) e h.2 in
    so_far found (record { class = c; size = n } ∷ h.0, (p, are), is ∙ sym (ap (λ o. fault_or origin at o (first_fault origin (at + n) (drop n rest) h.0)) none))

-- a piece that is a fault
pub check_stops : (origin : Origin) (at : ℕ) (rest : List ℕ) (n : ℕ) (c : Class) (f : Found) → IsPiece Plain rest n c → fault_of c (take n rest) ≡ Some f
    → Checks origin at rest (Some (record { kind = f.kind; place = place_at origin (at + f.behind) }))
check_stops origin at rest n c f p is =
    let s = split_some (drop n rest) in
    (record { class = c; size = n } ∷ s.pieces, (p, s.are), sym (ap (λ o. fault_or origin at o (first_fault origin (at + n) (drop n rest) s.pieces)) is))

pub check_end : (origin : Origin) (at : ℕ) (rest : List ℕ) → rest ≡ [] → Checks origin at rest None
check_end origin at rest e = ([], e, refl)

-- the rest of a slice
pub tail_is : (n k : ℕ) (text : List ℕ) → length text ≤ k + n → take k (drop n text) ≡ drop n text
tail_is n k text h = take_all k (drop n text) (omega (arith, length-drop n text))
