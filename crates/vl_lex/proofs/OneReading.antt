-- A list of files is read in one way.
use Rattle.std.proofs.Common.{◌≡◌, ℕ, zero, suc, ◌+◌, ◌^◌, List, [], ◌∷◌, length, take, drop, refl, sym, ap, ◌∙◌, arith, subst, inl, inr}
use Rattle.std.specs.Prelude.{Option, Some, None, Result, Ok, Err}
use Rattle.std.specs.Global.{Vec}
use Rattle.std.proofs.lemmas.Bool.{cases_order}
use Rattle.sg_text.specs.declared.places.Place.{Place}
use Rattle.sg_text.specs.declared.refusals.Refused.{Refused}
use Rattle.sg_text.specs.declared.refusals.Refused.TheVariants as refused
use Rattle.vl_token.specs.Tokens.{Lexeme}
use Rattle.vl_lex.specs.State.{Fault, State, Outcome, first_state}
use Rattle.vl_pieces.specs.Modes.{class_in, IsPiece, Piece, ArePieces}
use Rattle.vl_lex.specs.Effects.{Effect, comes_to, expands, defines, mode_at, effect}
use Rattle.vl_lex.specs.Lexes.{first_fault, or_state, Checks, Leads, Then, Reads, IsRead, Expands, at_file_end, LexesFrom, too_large, LexesUnless, Lexes}
use Rattle.vl_lex.specs.Seen.{Stands, Tells}
use Rattle.vl_lex.specs.declared.faults.LexKind.{LexKind}
use Rattle.vl_pieces.specs.declared.modes.Mode.{Mode}
use Rattle.vl_pieces.specs.declared.modes.Mode.TheVariants.{Plain}
use Rattle.vl_lex.specs.declared.origins.Origin.{Origin}
use Rattle.vl_lex.specs.declared.origins.Origin.TheVariants.{File, Macro as InMacro}
use Rattle.vl_pieces.specs.declared.pieces.Class.{Class}
use Rattle.vl_token.specs.declared.tokens.Token.{Token}
use Rattle.vl_pieces.proofs.ModeLaws.{piece_some}

not_both : {A : Type 0} {o : Option A} {x : A} → o ≡ None → o ≡ Some x → ⊥
not_both a b = cc

some_inj : {A : Type 0} {x y : A} → Some x ≡ Some y → x ≡ y
some_inj h = cc

-- of two longest fronts neither is longer
one_size : (mode : Mode) (text : List ℕ) (m n : ℕ) (c d : Class) → IsPiece mode text m c → IsPiece mode text n d → m ≡ n
one_size mode text m n c d p q = elim (cases_order m n) [
  | inl e ↦ e
  | inr (inl lt) ↦ absurd (not_both (p.longest n lt q.within) q.form)
  | inr (inr gt) ↦ absurd (not_both (q.longest m gt p.within) p.form)
]

one_class : (mode : Mode) (text : List ℕ) (m n : ℕ) (c d : Class) → IsPiece mode text m c → IsPiece mode text n d → c ≡ d
one_class mode text m n c d p q =
    let e = one_size mode text m n c d p q in
    let f : class_in mode (take n text) (drop n text) ≡ Some c = rw e at p.form in
    some_inj (sym f ∙ q.form)

-- no piece is at the end
nothing_left : (mode : Mode) (text : List ℕ) (n : ℕ) (c : Class) → text ≡ [] → IsPiece mode text n c → ⊥
nothing_left mode text n c e p =
    let some = piece_some mode text n c p in
    let within = p.within in
    let z : length text ≡ 0 = ap length e in
    omega arith

one_piece : (p q : Piece) → p.class ≡ q.class → p.size ≡ q.size → p ≡ q
one_piece p q c s =
    let f : record { class = p.class; size = p.size } ≡ record { class = q.class; size = q.size } = rw (c, s) refl in
    f

one_split : (text : List ℕ) (ps qs : List Piece) → ArePieces text ps → ArePieces text qs → ps ≡ qs
one_split text [] [] h k = refl
one_split text [] (q ∷ qs) h k = absurd (nothing_left Plain text q.size q.class h k.0)
one_split text (p ∷ ps) [] h k = absurd (nothing_left Plain text p.size p.class k h.0)
one_split text (p ∷ ps) (q ∷ qs) h k =
    let size = one_size Plain text p.size q.size p.class q.class h.0 k.0 in
    let same = one_piece p q (one_class Plain text p.size q.size p.class q.class h.0 k.0) size in
    let rest : ArePieces (drop q.size text) ps = subst (λ n. ArePieces (drop n text) ps) size h.1 in
    let more = one_split (drop q.size text) ps qs rest k.1 in
    rw (same, more) refl

one_check : (origin : Origin) (at : ℕ) (text : List ℕ) (f g : Option Fault) → Checks origin at text f → Checks origin at text g → f ≡ g
one_check origin at text f g h k = h.2 ∙ ap (first_fault origin at text) (one_split text h.0 k.0 h.1 k.1) ∙ sym k.2

-- a relation that gives one outcome
abbrev pub IsOne : (Place → List ℕ → State → Outcome → Type 0) → Type 0
IsOne E = (place : Place) (text : List ℕ) (s : State) (o p : Outcome) → E place text s o → E place text s p → o ≡ p

then_one : {O : Type 0} (between : Outcome) (o p : O) (F G : State → Type 0) (H K : Fault → Type 0) → ((next : State) → F next → G next → o ≡ p) → ((f : Fault) → H f → K f → o ≡ p) → Then between F H → Then between G K → o ≡ p
then_one (Ok s) o p F G H K goes stops h k = goes s h k
then_one (Err f) o p F G H K goes stops h k = stops f h k

module _ (E : Place → List ℕ → State → Outcome → Type 0) (one : IsOne E) where
  leads_one : (e : Effect) (o p : Outcome) → Leads E e o → Leads E e p → o ≡ p
  leads_one (comes_to outcome) o p h k = h ∙ sym k
  leads_one (expands place text s) o p h k = one place text s o p h k
  leads_one (defines origin start text s) o p h k = h.2 ∙ ap (λ f. or_state f s) (one_check origin start text h.0 k.0 h.1 k.1) ∙ sym k.2

  reads_one : (origin : Origin) (at : ℕ) (text : List ℕ) (s : State) (ps qs : List Piece) (o p : Outcome) → Reads E origin at text s ps o → Reads E origin at text s qs p → o ≡ p
  reads_one origin at text s [] [] o p h k = h.1 ∙ sym k.1
  reads_one origin at text s [] (y ∷ qs) o p h k = absurd (nothing_left (mode_at s) text y.size y.class h.0 k.0)
  reads_one origin at text s (x ∷ ps) [] o p h k = absurd (nothing_left (mode_at s) text x.size x.class k.0 h.0)
  reads_one origin at text s (x ∷ ps) (y ∷ qs) o p h k =
      let size = one_size (mode_at s) text x.size y.size x.class y.class h.0 k.0 in
      let class = one_class (mode_at s) text x.size y.size x.class y.class h.0 k.0 in
      let leads : Leads E (effect origin at x.class (take x.size text) s) k.1.0 = rw (size, class) k.1.1 in
      let same = leads_one (effect origin at x.class (take x.size text) s) h.1.0 k.1.0 h.1.1 leads in
      let F : State → Type 0 = λ next. Reads E origin (at + x.size) (drop x.size text) next ps o in
      let G : State → Type 0 = λ next. Reads E origin (at + y.size) (drop y.size text) next qs p in
      let H : Fault → Type 0 = λ f. o ≡ Err f in
      let K : Fault → Type 0 = λ f. p ≡ Err f in
      let goes : Then k.1.0 F H = subst (λ b. Then b F H) same h.1.2 in
      then_one k.1.0 o p F G H K (λ next f g. reads_one origin (at + y.size) (drop y.size text) next ps qs o p (subst (λ n. Reads E origin (at + n) (drop n text) next ps o) size f) g) (λ f a b. a ∙ sym b) goes k.1.2

  read_one : (origin : Origin) (at : ℕ) (text : List ℕ) (s : State) (o p : Outcome) → IsRead E origin at text s o → IsRead E origin at text s p → o ≡ p
  read_one origin at text s o p h k = reads_one origin at text s h.0 k.0 o p h.1 k.1

expands_one : (left : ℕ) → IsOne (Expands left)
unfolding Expands
expands_one zero place text s o p h k = h ∙ sym k
expands_one (suc left) place text s o p h k = read_one (Expands left) (expands_one left) (InMacro place) 0 text s o p h k

lexes_from_one : (deepest n : ℕ) (texts : List (List ℕ)) (s : State) (o p : Result (List Lexeme) Fault) → LexesFrom deepest n texts s o → LexesFrom deepest n texts s p → o ≡ p
lexes_from_one deepest n [] s o p h k = h ∙ sym k
lexes_from_one deepest n (text ∷ texts) s o p h k =
    let read = read_one (Expands deepest) (expands_one deepest) (File n) 0 text s h.1.0 k.1.0 h.1.1 k.1.1 in
    let same : h.0 ≡ k.0 = h.1.2 ∙ ap at_file_end read ∙ sym k.1.2 in
    let F : State → Type 0 = λ next. LexesFrom deepest (n + 1) texts next o in
    let G : State → Type 0 = λ next. LexesFrom deepest (n + 1) texts next p in
    let H : Fault → Type 0 = λ f. o ≡ Err f in
    let K : Fault → Type 0 = λ f. p ≡ Err f in
    let goes : Then k.0 F H = subst (λ b. Then b F H) same h.2 in
    then_one k.0 o p F G H K (λ next f g. lexes_from_one deepest (n + 1) texts next o p f g) (λ f a b. a ∙ sym b) goes k.2

unless_one : (large : Option ℕ) (largest deepest : ℕ) (files : List (List ℕ)) (o p : Result (List Lexeme) Fault) → LexesUnless large largest deepest files o → LexesUnless large largest deepest files p → o ≡ p
unless_one (Some n) largest deepest files o p h k = h ∙ sym k
unless_one None largest deepest files o p h k = lexes_from_one deepest 0 files first_state o p h k

-- files have one token list or one fault, and not both
pub lexes_one : (files : List (List ℕ)) (o p : Result (List Lexeme) Fault) → Lexes files o → Lexes files p → o ≡ p
lexes_one files o p h k = unless_one (too_large (2 ^ 28) 0 files) (2 ^ 28) 16 files o p h k

-- what stands is all that does
pub only_of : (files : List (List ℕ)) (result : Result (Vec Token) (Refused LexKind)) → Stands (Lexes files) result → (o : Result (List Lexeme) Fault) → Lexes files o → Tells o result
only_of files (Ok tokens) h o k = lexes_one files o _ k h
only_of files (Err (refused.Fault kind place)) h o k = lexes_one files o _ k h
only_of files (Err refused.NoMemory) h o k = tt
