-- What holds of all netlist files.
use Rattle.std.specs.Prelude.{ℕ, suc, ◌≡◌, ◌+◌, ◌≤◌, ◌^◌, ◌==◌, ◌&&◌, ◌||◌, not, List, [], ◌∷◌, ◌++◌, length, take, drop, Bool, true, false, Option, Some, None, Result, Ok, Err}
use Rattle.std.specs.List.{list_all}
use Rattle.sg_text.specs.declared.places.Place.{Place}
use Rattle.vl_token.specs.Tokens.{Settings, Lexeme}
use Rattle.vl_lex.specs.State.{State, Fault, Outcome, first_settings, is_taken}
use Rattle.vl_lex.specs.Directives.{directive_of, with_branches, is_defined, as_wanted}
use Rattle.vl_pieces.specs.Modes.{IsPiece, Piece}
use Rattle.vl_pieces.specs.Meanings.{meaning_of}
use Rattle.vl_lex.specs.Effects.{place_at, tokens_at, mode_behind, mode_at, effect}
use Rattle.vl_lex.specs.Lexes.{first_fault, Leads, IsRead, Expands, Lexes}
use Rattle.vl_lex.specs.declared.branches.Branch.{Branch}
use Rattle.vl_lex.specs.declared.directives.Directive.{Directive}
use Rattle.vl_lex.specs.declared.directives.Directive.TheVariants.{IfDef, IfNDef, ElsIf, Else, EndIf}
use Rattle.vl_pieces.specs.declared.modes.Mode.{Mode}
use Rattle.vl_pieces.specs.declared.modes.Mode.TheVariants.{Plain}
use Rattle.vl_lex.specs.declared.origins.Origin.{Origin}
use Rattle.vl_lex.specs.declared.origins.Origin.TheVariants.{File, Macro as InMacro}
use Rattle.vl_pieces.specs.declared.pieces.Class.{Class}
use Rattle.vl_pieces.specs.declared.pieces.Class.TheVariants as class

-- each list of files has an outcome, a token list or a fault
abbrev pub SomeOutcome : Type 0
SomeOutcome = (files : List (List ℕ)) → (o : Result (List Lexeme) Fault) × Lexes files o

-- and no two
abbrev pub OneOutcome : Type 0
OneOutcome = (files : List (List ℕ)) (o p : Result (List Lexeme) Fault) → Lexes files o → Lexes files p → o ≡ p

-- ---- text without directives

-- the pieces of a text where no directive stands, from a mode on
abbrev pub AreSplit : Mode → List ℕ → List Piece → Type 0
AreSplit mode text [] = text ≡ []
AreSplit mode text (p ∷ ps) = IsPiece mode text p.size p.class × AreSplit (mode_behind mode p.class (take p.size text)) (drop p.size text) ps

-- the tokens of pieces, which begin at a byte
abbrev pub tokens_of : Origin → ℕ → List ℕ → Settings → List Piece → List Lexeme
tokens_of origin at text settings [] = []
tokens_of origin at text settings (p ∷ ps) =
    tokens_at (place_at origin at) (meaning_of p.class (take p.size text) settings) ++ tokens_of origin (at + p.size) (drop p.size text) settings ps

abbrev pub unless_fault : Option Fault → List Lexeme → Result (List Lexeme) Fault
unless_fault None tokens = Ok tokens
unless_fault (Some f) tokens = Err f

-- A file without a backquote is its pieces: it has their tokens, or the first of them that is a fault.
abbrev pub PlainFile : Type 0
PlainFile =
    (text : List ℕ) → list_all (λ b. not (b == 96)) text ≡ true → length text ≤ 2 ^ 28
    → (ps : List Piece) × AreSplit Plain text ps × Lexes (text ∷ []) (unless_fault (first_fault (File 0) 0 text ps) (tokens_of (File 0) 0 text first_settings ps))

-- ---- branches

-- a state within more branches, outside its own
abbrev pub within : List Branch → State → State
within round s = record s { branches = s.branches ++ round }

-- What a text comes to by itself it comes to within branches whose texts are taken: the same tokens, macros and all else.
abbrev pub TakenBranch : Type 0
TakenBranch =
    (left : ℕ) (origin : Origin) (at : ℕ) (text : List ℕ) (s t : State) (round : List Branch) → list_all (λ b. b.taken) round ≡ true
    → IsRead (Expands left) origin at text s (Ok t) → IsRead (Expands left) origin at text (within round s) (Ok (within round t))

-- all but the branches and what waits for its words
pub record Keeps (s t : State) : Type 0 where
  pub tokens : t.tokens ≡ s.tokens
  pub macros : t.macros ≡ s.macros
  pub settings : t.settings ≡ s.settings
  pub mode : t.mode ≡ s.mode

-- A piece of text that isn't taken gives no token, and changes neither macros nor settings.
abbrev pub UntakenPiece : Type 0
UntakenPiece =
    (left : ℕ) (origin : Origin) (at : ℕ) (c : Class) (bytes : List ℕ) (s t : State) → s.waiting ≡ None → is_taken s.branches ≡ false
    → Leads (Expands left) (effect origin at c bytes s) (Ok t) → Keeps s t

-- ---- from `ifdef or `ifndef to behind `endif (IEEE 1364-2005, 19.4)

-- a byte of a file, and the text from there on
pub record Spot : Type 0 where
  pub at : ℕ
  pub text : List ℕ

-- the spot so many bytes on
abbrev pub past : ℕ → Spot → Spot
past n p = record { at = p.at + n; text = drop n p.text }

-- the spot behind pieces of these sizes
abbrev pub behind : List ℕ → Spot → Spot
behind [] p = p
behind (n ∷ ns) p = behind ns (past n p)

-- These pieces lead from a spot of a file and a state to others, where so many uses of macros may lie within one another.
-- Before each piece the state is such a one.
abbrev pub ReadsTo : (State → Type 0) → (left file : ℕ) → Spot → State → List Piece → Spot → State → Type 0
ReadsTo Such left file p s [] q t = (q ≡ p) × (t ≡ s)
ReadsTo Such left file p s (x ∷ xs) q t =
    Such s × IsPiece (mode_at s) p.text x.size x.class
    × ((next : State) × Leads (Expands left) (effect (File file) p.at x.class (take x.size p.text) s) (Ok next) × ReadsTo Such left file (past x.size p) next xs q t)

abbrev pub IsAny : State → Type 0
IsAny s = Unit {0}

abbrev pub IsUntaken : State → Type 0
IsUntaken s = (s.waiting ≡ None) × (is_taken s.branches ≡ false)

-- reading comes from a spot and a state to others
abbrev pub ComesTo : (left file : ℕ) → Spot → State → Spot → State → Type 0
ComesTo left file p s q t = (ps : List Piece) × ReadsTo IsAny left file p s ps q t

-- whatever the text comes to that is read from there on, the whole text comes to
abbrev pub IsReadOn : (left file : ℕ) → Spot → State → Spot → State → Type 0
IsReadOn left file p s q t = (o : Outcome) → IsRead (Expands left) (File file) q.at q.text t o → IsRead (Expands left) (File file) p.at p.text s o

-- A text by itself, outside all branches: at its end none is open, and no directive waits for words.
pub record IsText (left file : ℕ) (p : Spot) (s : State) (q : Spot) (t : State) : Type 0 where
  pub reads : ComesTo left file p (with_branches s []) q t
  pub closed : t.branches ≡ []
  pub complete : t.waiting ≡ None

-- A text that isn't taken, up to the directive that ends it: what is opened in it is closed in it.
pub record IsSkipped (left file : ℕ) (p : Spot) (s : State) (q : Spot) : Type 0 where
  pub pieces : List Piece
  pub last : State
  pub reads : ReadsTo IsUntaken left file p s pieces q last
  pub closed : last.branches ≡ s.branches
  pub complete : last.waiting ≡ None

-- a branch, whose text at hand is taken or not, and of which one was found by now that is
abbrev pub branch : Place → (taken found last : Bool) → Branch
branch place taken found last = record { place = place; taken = taken; settled = found; last = last }

-- the state in a branch of such branches
abbrev pub inside : List Branch → Branch → State → State
inside round b s = with_branches s (b ∷ round)

-- A text of a branch. If it is taken, it leads from s to t by itself; and else it is skipped, and t is s.
pub data BranchText (left file : ℕ) (round : List Branch) (b : Branch) (p : Spot) (s : State) (q : Spot) (t : State) : Type 0 where
  takes : b.taken ≡ true → IsText left file p s q t → BranchText left file round b p s q t
  skips : b.taken ≡ false → IsSkipped left file p (inside round b s) q → t ≡ s → BranchText left file round b p s q t

-- a directive stands at a spot, as a backquote and its name: so many bytes
pub record IsDirective (mode : Mode) (d : Directive) (p : Spot) (n : ℕ) : Type 0 where
  pub piece : IsPiece mode p.text n class.Use
  pub directive : directive_of (drop 1 (take n p.text)) ≡ Some d

-- blanks and comments of these sizes
abbrev pub AreGaps : Spot → List ℕ → Type 0
AreGaps p [] = Unit {0}
AreGaps p (n ∷ ns) = IsPiece Plain p.text n class.Gap × AreGaps (past n p) ns

-- a directive, blanks and comments, and a name
pub record IsTest (mode : Mode) (d : Directive) (name : List ℕ) (p q : Spot) : Type 0 where
  pub size : ℕ
  pub gaps : List ℕ
  pub name_size : ℕ
  pub directive : IsDirective mode d p size
  pub between : AreGaps (past size p) gaps
  pub word : IsPiece Plain (behind gaps (past size p)).text name_size class.Name
  pub spells : take name_size (behind gaps (past size p)).text ≡ name
  pub end : q ≡ past name_size (behind gaps (past size p))

-- a test holds: a name is defined, or it isn't
abbrev pub holds : (wanted : Bool) → List ℕ → State → Bool
holds wanted name s = as_wanted wanted (is_defined name s.macros)

-- What comes behind a text of a branch, up to behind its `endif: as many `elsif as there are, and perhaps an `else. A
-- text is taken where its test holds and none was found before it.
pub data Rest (left file : ℕ) (round : List Branch) (place : Place) (q : Spot) (t : State) : (taken found : Bool) → Spot → State → Type 0 where
  ends : (taken found : Bool) (p : Spot) (s : State) (n : ℕ) → IsDirective (mode_at (inside round (branch place taken found false) s)) EndIf p n → q ≡ past n p → t ≡ s
      → Rest left file round place q t taken found p s
  has_else : (taken found : Bool) (p : Spot) (s : State) (n : ℕ) (end : Spot) (m : ℕ) → IsDirective (mode_at (inside round (branch place taken found false) s)) Else p n
      → BranchText left file round (branch place (not found) true true) (past n p) s end t
      → IsDirective (mode_at (inside round (branch place (not found) true true) t)) EndIf end m → q ≡ past m end
      → Rest left file round place q t taken found p s
  has_elsif : (taken found : Bool) (p : Spot) (s : State) (name : List ℕ) (start end : Spot) (u : State) → IsTest (mode_at (inside round (branch place taken found false) s)) ElsIf name p start
      → BranchText left file round (branch place (holds true name s && not found) (holds true name s || found) false) start s end u
      → Rest left file round place q t (holds true name s && not found) (holds true name s || found) end u
      → Rest left file round place q t taken found p s

-- `ifdef, or `ifndef, whose test holds where the name isn't defined
abbrev pub opening : Bool → Directive
opening true = IfDef
opening false = IfNDef

-- From `ifdef or `ifndef to behind its `endif. The text that is taken, if one is, leads from s to t by itself; if none is,
-- t is s.
pub record IsConditional (left file : ℕ) (p : Spot) (s : State) (q : Spot) (t : State) : Type 0 where
  pub wanted : Bool
  pub name : List ℕ
  pub start : Spot
  pub end : Spot
  pub between : State
  pub test : IsTest (mode_at s) (opening wanted) name p start
  pub text : BranchText left file s.branches (branch (place_at (File file) p.at) (holds wanted name s) (holds wanted name s) false) start s end between
  pub rest : Rest left file s.branches (place_at (File file) p.at) q t (holds wanted name s) (holds wanted name s) end between

-- Where the text round it is taken, a conditional gives the tokens of its taken text, and changes macros, settings and mode
-- as that text does by itself. Its other texts give nothing.
abbrev pub TakenText : Type 0
TakenText =
    (left file : ℕ) (p q : Spot) (s t : State) → s.waiting ≡ None → list_all (λ b. b.taken) s.branches ≡ true → IsConditional left file p s q t
    → ComesTo left file p s q (with_branches t s.branches) × IsReadOn left file p s q (with_branches t s.branches)

-- ---- macros

abbrev pub AreAt : Place → List Lexeme → Type 0
AreAt place [] = Unit {0}
AreAt place (t ∷ ts) = (t.place ≡ place) × AreAt place ts

-- tokens at a place come to those of a state
abbrev pub AddsAt : Place → State → State → Type 0
AddsAt place s t = (added : List Lexeme) × (t.tokens ≡ s.tokens ++ added) × AreAt place added

-- A macro's use comes to what its text comes to, and all tokens of the text stand at the use.
abbrev pub MacroUse : Type 0
MacroUse =
    (left : ℕ) (origin : Origin) (at : ℕ) (name text : List ℕ) (s t : State) → s.waiting ≡ None → is_taken s.branches ≡ true → directive_of name ≡ None → s.macros name ≡ Some text
    → Leads (Expands (suc left)) (effect origin at class.Use (96 ∷ name) s) (Ok t)
    → IsRead (Expands left) (InMacro (place_at origin at)) 0 text s (Ok t) × AddsAt (place_at origin at) s t
