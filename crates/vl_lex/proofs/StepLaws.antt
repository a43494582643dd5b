-- What the steps of the code come to.
use Rattle.std.proofs.Common.{Bor, ◌≡◌, ℕ, suc, ◌+◌, ◌<◌, length, get_or, arith, List, [], ◌∷◌, take, drop, refl, sym, ap, ◌∙◌, subst}
use Rattle.std.specs.Prelude.{Some, None, Result, Ok, Err}
use Rattle.std.specs.Global.{Vec}
use Rattle.sg_text.specs.declared.places.Place.{Place}
use Rattle.sg_text.specs.declared.refusals.Refused.{Refused}
use Rattle.sg_text.specs.declared.refusals.Refused.TheVariants as refused
use Rattle.vl_lex.specs.State.{State, Fault, Outcome}
use Rattle.vl_lex.specs.Effects.{Effect, comes_to, expands, defines, effect, mode_at}
use Rattle.vl_lex.specs.Lexes.{Leads, IsRead, Expands, IsFileRead, LexesFrom}
use Rattle.vl_token.specs.Tokens.{Lexeme}
use Rattle.vl_pieces.specs.Modes.{IsPiece}
use Rattle.vl_pieces.specs.declared.pieces.Class.{Class}
use Rattle.vl_pieces.specs.declared.modes.Mode.{Mode}
use Rattle.vl_lex.specs.StateBridge.{IsChecked, Answers, NoText, Steps, AreRead}
use Rattle.vl_lex.specs.Seen.{texts}
use Rattle.vl_lex.specs.declared.faults.LexKind.{LexKind}
use Rattle.vl_lex.specs.declared.faults.LexKind.TheVariants.{MacroTooDeep}
use Rattle.vl_lex.specs.declared.origins.Origin.{Origin}
use Rattle.vl_lex.specs.declared.origins.Origin.TheVariants.{Macro as InMacro}

-- a definition whose text has a fault
pub define_fault : (origin : Origin) (start : ℕ) (text : List ℕ) (s new : State) (r : Refused LexKind) → IsChecked origin start text (Err r) → Answers (Leads NoText (defines origin start text s)) new (Err r)
define_fault origin start text s new (refused.Fault k p) h = (Some _, h, refl)
define_fault origin start text s new refused.NoMemory h = tt

-- what comes without a macro's text comes however such texts are read
leads_any : (E : Place → List ℕ → State → Outcome → Type 0) (e : Effect) (o : Outcome) → Leads NoText e o → Leads E e o
leads_any E (comes_to outcome) o h = h
leads_any E (expands place text s) o h = absurd h
leads_any E (defines origin start text s) o h = h

module _ (left : ℕ) (e : Effect) (place : Place) where
  pub step_done : (new : State) → Steps e place new (Ok None) → Leads (Expands left) e (Ok new)
  step_done new h = leads_any (Expands left) e (Ok new) h

  pub step_fault : (between new : State) (r : Refused LexKind) → Steps e place between (Err r) → Answers (Leads (Expands left) e) new (Err r)
  step_fault between new (refused.Fault k p) h = leads_any (Expands left) e _ h
  step_fault between new refused.NoMemory h = tt

  pub step_expands : (between new : State) (text : Bor (List ℕ)) (r : Result Unit (Refused LexKind)) → Steps e place between (Ok (Some text)) → Answers (Expands left place text.now between) new r → Answers (Leads (Expands left) e) new r
  step_expands between new text r h k = subst (λ f. Answers (Leads (Expands left) f) new r) (sym h) k

-- where no use is left
pub too_deep : (place : Place) (text : List ℕ) (s : State) → Expands 0 place text s (Err (record { kind = MacroTooDeep; place = place }))
unfolding Expands
too_deep place text s = refl

pub one_less : (left less : ℕ) (place : Place) (text : List ℕ) (s new : State) (r : Result Unit (Refused LexKind)) → left ≡ suc less → Answers (IsRead (Expands less) (InMacro place) 0 text s) new r → Answers (Expands left place text s) new r
unfolding Expands
one_less left less place text s new r e h = rw e h

module _ (left : ℕ) (origin : Origin) where
  pub read_end : (at : ℕ) (rest : List ℕ) (s : State) → rest ≡ [] → IsRead (Expands left) origin at rest s (Ok s)
  read_end at rest s e = ([], (e, refl))

  -- a piece that leads to a state, from which the text is read on
  pub read_on : (at : ℕ) (rest bytes tail : List ℕ) (s next : State) (mode : Mode) (n : ℕ) (c : Class) (o : Outcome) → mode ≡ mode_at s → IsPiece mode rest n c → bytes ≡ take n rest → tail ≡ drop n rest
      → Leads (Expands left) (effect origin at c bytes s) (Ok next) → IsRead (Expands left) origin (at + n) tail next o → IsRead (Expands left) origin at rest s o
  read_on at rest bytes tail s next mode n c o m p b t leads more =
      let piece : IsPiece (mode_at s) rest n c = subst (λ k. IsPiece k rest n c) m p in
      let led : Leads (Expands left) (effect origin at c (take n rest) s) (Ok next) = subst (λ l. Leads (Expands left) (effect origin at c l s) (Ok next)) b leads in
      let read : IsRead (Expands left) origin (at + n) (drop n rest) next o = subst (λ l. IsRead (Expands left) origin (at + n) l next o) t more in
      (record { class = c; size = n } ∷ read.0, (piece, (Ok next, led, read.1)))

  -- a piece that is a fault, or leads to one; what is known of the rest is then known of the whole
  pub read_stops : (at : ℕ) (text rest bytes : List ℕ) (first s between new : State) (mode : Mode) (n : ℕ) (c : Class) (r : Refused LexKind) → mode ≡ mode_at s → IsPiece mode rest n c → bytes ≡ take n rest
      → Answers (Leads (Expands left) (effect origin at c bytes s)) between (Err r) → ((o : Outcome) → IsRead (Expands left) origin at rest s o → IsRead (Expands left) origin 0 text first o)
      → Answers (IsRead (Expands left) origin 0 text first) new (Err r)
  read_stops at text rest bytes first s between new mode n c (refused.Fault k p) m piece b leads so_far =
      let is : IsPiece (mode_at s) rest n c = subst (λ k. IsPiece k rest n c) m piece in
      let f : Fault = record { kind = k; place = p } in
      let led : Leads (Expands left) (effect origin at c (take n rest) s) (Err f) = subst (λ l. Leads (Expands left) (effect origin at c l s) (Err f)) b leads in
      so_far (Err f) (record { class = c; size = n } ∷ [], (is, (Err f, led, refl)))
  read_stops at text rest bytes first s between new mode n c refused.NoMemory m piece b leads so_far = tt

-- a file whose reading comes to a fault
pub files_stop : (deepest n : ℕ) (files rest : List (Vec ℕ)) (x : Vec ℕ) (bytes : List ℕ) (first s between new : State) (r : Refused LexKind) → 0 < length rest → x ≡ get_or rest 0 x → bytes ≡ x.items
    → Answers (IsFileRead deepest n bytes s) between (Err r) → ((o : Result (List Lexeme) Fault) → LexesFrom deepest n (texts rest) s o → LexesFrom deepest 0 (texts files) first o)
    → AreRead deepest 0 (texts files) first new (Err r)
files_stop deepest n files [] x bytes first s between new r some is b read so_far = absurd (omega arith)
files_stop deepest n files (f ∷ fs) x bytes first s between new (refused.Fault k p) some is b read so_far =
    let same : bytes ≡ f.items = b ∙ ap (λ v. v.items) is in
    let stop : Fault = record { kind = k; place = p } in
    so_far (Err stop) (Err stop, subst (λ l. IsFileRead deepest n l s (Err stop)) same read, refl)
files_stop deepest n files (f ∷ fs) x bytes first s between new refused.NoMemory some is b read so_far = tt
