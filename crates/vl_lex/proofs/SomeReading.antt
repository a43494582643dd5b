-- Each list of files is read with some outcome: a token list, or a fault.
use Rattle.std.proofs.Common.{◌≡◌, ℕ, zero, suc, ◌+◌, ◌<◌, ◌≤◌, ◌^◌, List, [], ◌∷◌, length, length-drop, take, drop, refl, arith}
use Rattle.std.specs.Prelude.{Option, Some, None, Result, Ok, Err}
use Rattle.sg_text.specs.declared.places.Place.{Place}
use Rattle.vl_token.specs.Tokens.{Lexeme}
use Rattle.vl_lex.specs.State.{Fault, State, Outcome, first_state}
use Rattle.vl_pieces.specs.Modes.{IsPiece}
use Rattle.vl_pieces.specs.PieceBridge.{piece_in}
use Rattle.vl_lex.specs.Effects.{Effect, comes_to, expands, defines, mode_at, effect}
use Rattle.vl_lex.specs.Lexes.{first_fault, or_state, Leads, Then, IsRead, Expands, at_file_end, at_end, LexesFrom, too_large, LexesUnless, Lexes}
use Rattle.vl_lex.specs.declared.origins.Origin.{Origin}
use Rattle.vl_lex.specs.declared.origins.Origin.TheVariants.{File, Macro as InMacro}
use Rattle.vl_pieces.specs.declared.pieces.Class.{Class}
use Rattle.vl_pieces.proofs.ModeLaws.{piece_in_front, piece_some}
use Rattle.vl_lex.proofs.Splits.{split_some}

abbrev pub IsSome : (Place → List ℕ → State → Outcome → Type 0) → Type 0
IsSome E = (place : Place) (text : List ℕ) (s : State) → (o : Outcome) × E place text s o

module _ (E : Place → List ℕ → State → Outcome → Type 0) (some : IsSome E) where
  leads_some : (e : Effect) → (o : Outcome) × Leads E e o
  leads_some (comes_to outcome) = (outcome, refl)
  leads_some (expands place text s) = some place text s
  leads_some (defines origin start text s) =
      let split = split_some text in
      (or_state (first_fault origin start text split.pieces) s, (first_fault origin start text split.pieces, (split.pieces, split.are, refl), refl))

  -- a piece and what follows it
  then_some : (origin : Origin) (at : ℕ) (text : List ℕ) (s : State) (n : ℕ) (c : Class) → IsPiece (mode_at s) text n c → (between : Outcome) → Leads E (effect origin at c (take n text) s) between
      → ((next : State) → (o : Outcome) × IsRead E origin (at + n) (drop n text) next o) → (o : Outcome) × IsRead E origin at text s o
  then_some origin at text s n c p (Ok next) leads rest =
      let r = rest next in
      (r.0, (record { class = c; size = n } ∷ r.1.0, (p, (Ok next, leads, r.1.1))))
  then_some origin at text s n c p (Err f) leads rest = (Err f, (record { class = c; size = n } ∷ [], (p, (Err f, leads, refl))))

  read_up_to : (most : ℕ) (origin : Origin) (at : ℕ) (text : List ℕ) (s : State) → length text ≤ most → (o : Outcome) × IsRead E origin at text s o
  read_up_to most origin at [] s le = (Ok s, ([], (refl, refl)))
  read_up_to zero origin at (b ∷ bs) s le = absurd (omega arith)
  read_up_to (suc most) origin at (b ∷ bs) s le =
      let size : ℕ = (piece_in (mode_at s) (b ∷ bs)).1 in
      let class : Class = (piece_in (mode_at s) (b ∷ bs)).0 in
      let p : IsPiece (mode_at s) (b ∷ bs) size class = piece_in_front (mode_at s) (b ∷ bs) (omega arith) in
      let has_byte : 0 < size = piece_some (mode_at s) (b ∷ bs) size class p in
      let leads = leads_some (effect origin at class (take size (b ∷ bs)) s) in
      then_some origin at (b ∷ bs) s size class p leads.0 leads.1 (λ next. read_up_to most origin (at + size) (drop size (b ∷ bs)) next (omega (arith, length-drop size (b ∷ bs))))

  read_some : (origin : Origin) (at : ℕ) (text : List ℕ) (s : State) → (o : Outcome) × IsRead E origin at text s o
  read_some origin at text s = read_up_to (length text) origin at text s (omega arith)

expands_some : (left : ℕ) → IsSome (Expands left)
unfolding Expands
expands_some zero place text s = (_, refl)
expands_some (suc left) place text s = read_some (Expands left) (expands_some left) (InMacro place) 0 text s

file_some : (between : Outcome) (F : State → Result (List Lexeme) Fault → Type 0) → ((next : State) → (o : Result (List Lexeme) Fault) × F next o) → (o : Result (List Lexeme) Fault) × Then between (λ next. F next o) (λ f. o ≡ Err f)
file_some (Ok s) F rest = rest s
file_some (Err f) F rest = (Err f, refl)

lexes_from_some : (deepest n : ℕ) (texts : List (List ℕ)) (s : State) → (o : Result (List Lexeme) Fault) × LexesFrom deepest n texts s o
lexes_from_some deepest n [] s = (at_end s.branches s, refl)
lexes_from_some deepest n (text ∷ texts) s =
    let r = read_some (Expands deepest) (expands_some deepest) (File n) 0 text s in
    let g = file_some (at_file_end r.0) (λ next o. LexesFrom deepest (n + 1) texts next o) (λ next. lexes_from_some deepest (n + 1) texts next) in
    (g.0, (at_file_end r.0, (r.0, r.1, refl), g.1))

unless_some : (large : Option ℕ) (largest deepest : ℕ) (files : List (List ℕ)) → (o : Result (List Lexeme) Fault) × LexesUnless large largest deepest files o
unless_some (Some n) largest deepest files = (_, refl)
unless_some None largest deepest files = lexes_from_some deepest 0 files first_state

-- a list of files has a token list or a fault
pub lexes_some : (files : List (List ℕ)) → (o : Result (List Lexeme) Fault) × Lexes files o
lexes_some files = unless_some (too_large (2 ^ 28) 0 files) (2 ^ 28) 16 files
