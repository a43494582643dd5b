-- What each directive does to the state (IEEE 1364-2005, the clause on compiler directives).
use Rattle.std.specs.Prelude.{ℕ, ℤ, pos, ◌-ℤ◌, int_lt, ◌&&◌, ◌||◌, not, List, [], ◌∷◌, Bool, true, false, Option, Some, None, is_some, Ok, if◌then◌else◌, codes}
use Rattle.std.specs.List.{list_any}
use Rattle.std.specs.Option.{option_map}
use Rattle.sg_text.specs.declared.places.Place.{Place}
use Rattle.vl_token.specs.Tokens.{Timescale as Scale, Settings}
use Rattle.vl_pieces.specs.Bytes.{same_bytes}
use Rattle.vl_lex.specs.State.{Macros, Word, State, Outcome, fault, first_settings, is_taken}
use Rattle.vl_lex.specs.declared.faults.LexKind.TheVariants.{BadDirective, UnbalancedIf}
use Rattle.vl_lex.specs.declared.branches.Branch.{Branch}
use Rattle.vl_lex.specs.declared.directives.Directive.{Directive}
use Rattle.vl_lex.specs.declared.directives.Directive.TheVariants.{Timescale, ResetAll, CellDefine, EndCellDefine, DefaultNetType, Define, Undef, IfDef, IfNDef, ElsIf, Else, EndIf, NoEffect}

-- the directives that have no effect
unfoldable pub are_no_effect : List (List ℕ)
are_no_effect =
    codes "nounconnected_drive" ∷ codes "delay_mode_path" ∷ codes "suppress_faults" ∷ codes "nosuppress_faults" ∷
    codes "enable_portfaults" ∷ codes "disable_portfaults" ∷ []

abbrev pub branch_directive : List ℕ → Option Directive
branch_directive name =
    if same_bytes name (codes "ifdef") then Some IfDef
    else if same_bytes name (codes "ifndef") then Some IfNDef
    else if same_bytes name (codes "elsif") then Some ElsIf
    else if same_bytes name (codes "else") then Some Else
    else if same_bytes name (codes "endif") then Some EndIf
    else None

abbrev pub other_directive : List ℕ → Option Directive
other_directive name =
    if same_bytes name (codes "timescale") then Some Timescale
    else if same_bytes name (codes "resetall") then Some ResetAll
    else if same_bytes name (codes "celldefine") then Some CellDefine
    else if same_bytes name (codes "endcelldefine") then Some EndCellDefine
    else if same_bytes name (codes "default_nettype") then Some DefaultNetType
    else if same_bytes name (codes "define") then Some Define
    else if same_bytes name (codes "undef") then Some Undef
    else if list_any (λ word. same_bytes word name) are_no_effect then Some NoEffect
    else None

abbrev pub first_some : Option Directive → Option Directive → Option Directive
first_some (Some d) other = Some d
first_some None other = other

-- the directive that a name is
unfoldable pub directive_of : List ℕ → Option Directive
directive_of name = first_some (branch_directive name) (other_directive name)

-- those that open, go on with or close a branch
abbrev pub is_conditional : Directive → Bool
is_conditional IfDef = true
is_conditional IfNDef = true
is_conditional ElsIf = true
is_conditional Else = true
is_conditional EndIf = true
is_conditional _ = false

-- the branches outside the innermost one
abbrev pub outer : List Branch → List Branch
outer [] = []
outer (b ∷ bs) = bs

-- How many words a directive has. In text that isn't taken an ifdef has none, and an elsif of a branch that lies there.
abbrev pub words_wanted : Directive → List Branch → ℕ
words_wanted Timescale branches = 5
words_wanted DefaultNetType branches = 1
words_wanted Define branches = 1
words_wanted Undef branches = 1
words_wanted IfDef branches = if is_taken branches then 1 else 0
words_wanted IfNDef branches = if is_taken branches then 1 else 0
words_wanted ElsIf branches = if is_taken (outer branches) then 1 else 0
words_wanted _ branches = 0

-- a branch is opened, taken where the test holds and the text round it is taken
abbrev pub with_branch : Place → Bool → List Branch → List Branch
with_branch place test branches = record { place = place; taken = test && is_taken branches; settled = test || not (is_taken branches); last = false } ∷ branches

-- The innermost branch goes on with another text. None follows its last one; where the text round it isn't taken, that
-- isn't looked at.
abbrev pub with_next_text : Bool → Bool → List Branch → Option (List Branch)
with_next_text test last [] = None
with_next_text test last (b ∷ bs) =
    if b.last && is_taken bs then None
    else Some (record { place = b.place; taken = test && not b.settled; settled = test || b.settled; last = last } ∷ bs)

abbrev pub without_branch : List Branch → Option (List Branch)
without_branch [] = None
without_branch (b ∷ bs) = Some bs

abbrev pub with_branches : State → List Branch → State
with_branches s branches = record s { branches = branches }

abbrev pub outcome_of_branches : Place → State → Option (List Branch) → Outcome
outcome_of_branches place s None = fault UnbalancedIf place
outcome_of_branches place s (Some branches) = Ok (with_branches s branches)

abbrev pub is_defined : List ℕ → Macros → Bool
is_defined name macros = is_some (macros name)

-- 1, 10 or 100, as a power of ten
abbrev pub tens_of : List ℕ → Option ℤ
tens_of bytes =
    if same_bytes bytes (codes "1") then Some (pos 0)
    else if same_bytes bytes (codes "10") then Some (pos 1)
    else if same_bytes bytes (codes "100") then Some (pos 2)
    else None

-- a unit of time, as the power of ten that divides a second
abbrev pub unit_of : List ℕ → Option ℤ
unit_of bytes =
    if same_bytes bytes (codes "s") then Some (pos 0)
    else if same_bytes bytes (codes "ms") then Some (pos 3)
    else if same_bytes bytes (codes "us") then Some (pos 6)
    else if same_bytes bytes (codes "ns") then Some (pos 9)
    else if same_bytes bytes (codes "ps") then Some (pos 12)
    else if same_bytes bytes (codes "fs") then Some (pos 15)
    else None

-- a number and a unit, as a power of ten of seconds
abbrev pub power_of : Option ℤ → Option ℤ → Option ℤ
power_of (Some tens) (Some unit) = Some (tens -ℤ unit)
power_of (Some tens) None = None
power_of None unit = None

-- a unit and a precision that isn't above it
abbrev pub scale_from : Option ℤ → Option ℤ → Option Scale
scale_from (Some unit) (Some precision) = if int_lt unit precision then None else Some (record { unit = unit; precision = precision })
scale_from (Some unit) None = None
scale_from None precision = None

-- what the words of a timescale say, as 10 ns / 100 ps
abbrev pub scale_of : List Word → Option Scale
scale_of (n ∷ u ∷ slash ∷ m ∷ v ∷ []) =
    if same_bytes slash.bytes (codes "/") then scale_from (power_of (tens_of n.bytes) (unit_of u.bytes)) (power_of (tens_of m.bytes) (unit_of v.bytes))
    else None
scale_of _ = None

-- the one word, if it is a name
abbrev pub name_of : List Word → Option (List ℕ)
name_of (w ∷ []) = if w.is_name then Some w.bytes else None
name_of _ = None

-- whether nets may be implicit
abbrev pub implicit_from : Option (List ℕ) → Option Bool
implicit_from None = None
implicit_from (Some name) = if same_bytes name (codes "wire") then Some true else if same_bytes name (codes "none") then Some false else None

abbrev pub as_wanted : Bool → Bool → Bool
as_wanted true b = b
as_wanted false b = not b

-- Whether the text behind a test of a macro's name is taken: where the name is defined, or where it isn't. In text that
-- isn't taken there is no name.
abbrev pub test_of : Bool → Macros → List Word → Option Bool
test_of wanted macros [] = Some false
test_of wanted macros (w ∷ ws) = option_map (λ name. as_wanted wanted (is_defined name macros)) (name_of (w ∷ ws))

-- what is there is used, and else the directive is refused
abbrev pub or_bad_directive : {A : Type 0} → Place → (A → Outcome) → Option A → Outcome
or_bad_directive place f None = fault BadDirective place
or_bad_directive place f (Some a) = f a

abbrev pub with_settings : State → Settings → State
with_settings s settings = record s { settings = settings }

abbrev pub without : List ℕ → Macros → Macros
without name macros other = if same_bytes name other then None else macros other

-- a new text of a macro stands in place of its old one
abbrev pub with_text : List ℕ → List ℕ → Macros → Macros
with_text name text macros other = if same_bytes name other then Some text else macros other

abbrev pub with_macro : List ℕ → List ℕ → State → State
with_macro name text s = record s { macros = with_text name text s.macros }

abbrev pub opens_branch : Bool → Place → List Word → State → Outcome
opens_branch wanted place words s = or_bad_directive place (λ test. Ok (with_branches s (with_branch place test s.branches))) (test_of wanted s.macros words)

-- A directive that has its words is applied. A definition isn't applied so, since its text is one line.
abbrev pub outcome_of_directive : Directive → Place → List Word → State → Outcome
outcome_of_directive Timescale place words s = or_bad_directive place (λ scale. Ok (with_settings s (record s.settings { scale = scale }))) (scale_of words)
outcome_of_directive ResetAll place words s = Ok (with_settings s first_settings)
outcome_of_directive CellDefine place words s = Ok (with_settings s (record s.settings { cell = true }))
outcome_of_directive EndCellDefine place words s = Ok (with_settings s (record s.settings { cell = false }))
outcome_of_directive DefaultNetType place words s = or_bad_directive place (λ implicit. Ok (with_settings s (record s.settings { implicit = implicit }))) (implicit_from (name_of words))
outcome_of_directive Define place words s = fault BadDirective place
outcome_of_directive Undef place words s = or_bad_directive place (λ name. Ok (record s { macros = without name s.macros })) (name_of words)
outcome_of_directive IfDef place words s = opens_branch true place words s
outcome_of_directive IfNDef place words s = opens_branch false place words s
outcome_of_directive ElsIf place words s = or_bad_directive place (λ test. outcome_of_branches place s (with_next_text test false s.branches)) (test_of true s.macros words)
outcome_of_directive Else place words s = outcome_of_branches place s (with_next_text true true s.branches)
outcome_of_directive EndIf place words s = outcome_of_branches place s (without_branch s.branches)
outcome_of_directive NoEffect place words s = Ok s
