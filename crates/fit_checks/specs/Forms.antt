-- Which checks are written for a check with both conditions, and when they may be (IEEE 1364-2005, 15.8.2).
use Rattle.std.specs.Prelude.{◌≡◌, ◌⊎◌, ◌&&◌, ℕ, Bool, true, false, List, [], ◌∷◌, Option, Some, None, Result, Ok, Err, length}
use Rattle.std.specs.List.{list_all, list_any}
use Rattle.grammar.specs.Rule.{◌◂◌}
use Rattle.vl_lex.specs.Lexes.{Lexes}
use Rattle.vl_token.specs.Tokens.{Lexeme, Meaning, symbol_token}
use Rattle.vl_token.specs.declared.symbols.Symbol.TheVariants.{Minus, Semicolon}
use Rattle.vl_tree.specs.Checks as rules
use Rattle.vl_tree.specs.Conditions.{condition}
use Rattle.vl_tree.specs.Rules as rule
use Rattle.vl_tree.specs.Rules.{Grammar}
use Rattle.vl_tree.specs.Tree.{Check}
use Rattle.fit_checks.specs.declared.forms.Form.{Form}
use Rattle.fit_checks.specs.declared.forms.Form.TheVariants.{OnBoth, Split}
use Rattle.fit_checks.specs.Written.{Run, Written, as_written, check, delayed, halves, is_joinable, on_both, stamp}
use Rattle.fit_checks.specs.WrittenSeen.{meanings}

-- the tokens that are written
abbrev pub made : Form → Written → Run
made OnBoth w = on_both w
made Split w = halves w

-- the place behind what was read
abbrev pub behind : {A : Type 0} → Result (A × ℕ) ℕ → Option ℕ
behind (Ok x) = Some x.1
behind (Err e) = None

-- there are no tokens, or all of them are one condition of the grammar
abbrev pub IsConditionOrNone : Run → Type 0
IsConditionOrNone run = (run ≡ []) ⊎ ((ts : List Lexeme) × (meanings ts ≡ run) × (behind (condition.read ts 0) ≡ Some (length ts)))

-- a terminal's own condition and a further one can be joined, where both are there
abbrev pub can_join : (own further : Run) → Bool
can_join [] further = true
can_join (x ∷ xs) [] = true
can_join (x ∷ xs) (y ∷ ys) = is_joinable (x ∷ xs) && is_joinable (y ∷ ys)

abbrev pub can_join_all : Written → Bool
can_join_all w =
    (can_join w.refer.condition (stamp w) && can_join w.refer.condition (check w))
    && (can_join w.datum.condition (stamp w) && can_join w.datum.condition (check w))

abbrev pub is_minus : Meaning → Bool
is_minus (symbol_token Minus) = true
is_minus _ = false

abbrev pub is_empty : Run → Bool
is_empty [] = true
is_empty (x ∷ xs) = false

-- Both terminals have one condition where both conditions are the same; a check is cut in two where it names no delayed signals and no limit below 0.
abbrev pub Allows : Form → Written → Type 0
Allows OnBoth w = stamp w ≡ check w
Allows Split w = (list_all is_empty (delayed w) ≡ true) × (list_any is_minus w.first ≡ false) × (list_any is_minus w.second ≡ false)

pub record Fits (form : Form) (w : Written) : Type 0 where
  pub stamp_read : IsConditionOrNone (stamp w)
  pub check_read : IsConditionOrNone (check w)
  pub join : can_join_all w ≡ true
  pub allowed : Allows form w

-- check ";"
abbrev pub statement : Grammar Check
statement = rules.check true ◂ rule.mark Semicolon

-- a check of the grammar and a semicolon stand from one token to the one behind
abbrev pub IsStatement : List Lexeme → ℕ → ℕ → Type 0
IsStatement ts at next = behind (statement.read ts at) ≡ Some next

-- one of them, or two
abbrev pub AreTaken : Form → List Lexeme → Type 0
AreTaken OnBoth ts = IsStatement ts 0 (length ts)
AreTaken Split ts = (next : ℕ) × IsStatement ts 0 next × IsStatement ts next (length ts)

-- There is a check with both conditions that some tokens spell, and others spell what is written for it.
pub record AreExact (old new : List Lexeme) : Type 0 where
  pub form : Form
  pub written : Written
  pub spelled : as_written written ≡ meanings old
  pub made : made form written ≡ meanings new
  pub fits : Fits form written
  pub taken : AreTaken form new

-- the same of texts, each read by itself
pub record IsExact (replaced text : List ℕ) : Type 0 where
  pub old : List Lexeme
  pub new : List Lexeme
  pub read_old : Lexes (replaced ∷ []) (Ok old)
  pub read_new : Lexes (text ∷ []) (Ok new)
  pub exact : AreExact old new
