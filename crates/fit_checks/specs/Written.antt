-- Timing checks of two limits by their tokens, and the checks that are written for them (IEEE 1364-2005, 15.2.3, 15.2.6, 15.6, 15.8.2).
use Rattle.std.specs.Prelude.{ℕ, Bool, true, false, ◌&&◌, ◌||◌, not, List, [], ◌∷◌, ◌++◌, codes, flat_map, if◌then◌else◌}
use Rattle.std.specs.List.{list_any}
use Rattle.sg_logic.specs.declared.values.Value.TheVariants.{Zero}
use Rattle.vl_token.specs.Tokens.{Meaning, symbol_token, sized_token, system_token}
use Rattle.vl_token.specs.declared.symbols.Symbol.{Symbol}
use Rattle.vl_token.specs.declared.symbols.Symbol.TheVariants.{AndAndAnd, AndAnd, And, OrOr, Or, CaseEqual, Equal, CaseUnequal, Unequal, Bang, TildeXor, XorTilde, Xor, Tilde, LeftParen, RightParen, Comma, Semicolon}
use Rattle.vl_tree.specs.declared.check_names.TwoLimitCheck.{TwoLimitCheck}
use Rattle.vl_tree.specs.declared.check_names.TwoLimitCheck.TheVariants.{SetupHold, RecRem}

-- some tokens, without their places
abbrev pub Run : Type 0
Run = List Meaning

abbrev pub mark : Symbol → Run
mark s = symbol_token s ∷ []

-- a terminal, and the condition behind its &&&, empty where it has none
pub record Terminal : Type 0 where
  pub signal : Run
  pub condition : Run

-- A check by its arguments; of those behind the notifier, which are the conditions of the time stamp and of the time check and the delayed signals, as many as are there.
pub record Written : Type 0 where
  pub kind : TwoLimitCheck
  pub refer : Terminal
  pub datum : Terminal
  pub first : Run
  pub second : Run
  pub notifier : Run
  pub last : List Run

abbrev pub at_first : List Run → Run
at_first [] = []
at_first (r ∷ rs) = r

abbrev pub behind_first : List Run → List Run
behind_first [] = []
behind_first (r ∷ rs) = rs

-- empty where they aren't there
abbrev pub stamp : Written → Run
stamp w = at_first w.last

abbrev pub check : Written → Run
check w = at_first (behind_first w.last)

abbrev pub delayed : Written → List Run
delayed w = behind_first (behind_first w.last)

-- ---- conditions on terminals

-- == and !=, and all other operators of conditions
abbrev pub is_equality : Meaning → Bool
is_equality (symbol_token Equal) = true
is_equality (symbol_token Unequal) = true
is_equality _ = false

abbrev pub is_operator : Meaning → Bool
is_operator (symbol_token AndAnd) = true
is_operator (symbol_token And) = true
is_operator (symbol_token OrOr) = true
is_operator (symbol_token Or) = true
is_operator (symbol_token CaseEqual) = true
is_operator (symbol_token CaseUnequal) = true
is_operator (symbol_token Bang) = true
is_operator (symbol_token TildeXor) = true
is_operator (symbol_token XorTilde) = true
is_operator (symbol_token Xor) = true
is_operator (symbol_token Tilde) = true
is_operator _ = false

-- whether == and != stand more than once
abbrev pub has_equalities : Run → Bool
has_equalities [] = false
has_equalities (m ∷ ms) = if is_equality m then list_any is_equality ms else has_equalities ms

-- A condition that can be a part of another one: it has no == and no !=, or is one of these and has no other operator, so that it is known whether that is its outermost one.
abbrev pub is_joinable : Run → Bool
is_joinable c = not (list_any is_equality c) || (not (has_equalities c) && not (list_any is_operator c))

abbrev pub enclosed : Run → Run
enclosed c = symbol_token LeftParen ∷ (c ++ mark RightParen)

abbrev pub not_zero : Run
not_zero = symbol_token CaseUnequal ∷ sized_token (Zero ∷ []) ∷ mark RightParen

abbrev pub definite : Run → Run
definite c = symbol_token LeftParen ∷ (enclosed c ++ not_zero)

-- As a part it is (a), and (a == b) is ((a == b) !== 1'b0), since a check is enabled too where that is x (15.6).
abbrev pub part : Run → Run
part c = if list_any is_equality c then definite c else enclosed c

-- what stands behind a signal for its own condition and a further one
abbrev pub conditions : (own further : Run) → Run
conditions [] [] = []
conditions [] (y ∷ ys) = symbol_token AndAndAnd ∷ y ∷ ys
conditions (x ∷ xs) [] = symbol_token AndAndAnd ∷ x ∷ xs
conditions (x ∷ xs) (y ∷ ys) = symbol_token AndAndAnd ∷ (part (x ∷ xs) ++ symbol_token AndAnd ∷ part (y ∷ ys))

abbrev pub terminal : Terminal → (further : Run) → Run
terminal t further = t.signal ++ conditions t.condition further

-- ---- statements

abbrev pub argument : Run → Run
argument run = symbol_token Comma ∷ run

abbrev pub arguments : List Run → Run
arguments runs = flat_map argument runs

-- none, where it is empty
abbrev pub filled : Run → List Run
filled [] = []
filled (x ∷ xs) = (x ∷ xs) ∷ []

abbrev pub front : List ℕ → (first : Run) → Run
front name first = system_token name ∷ symbol_token LeftParen ∷ first

abbrev pub ending : Run
ending = symbol_token RightParen ∷ mark Semicolon

abbrev pub statement : List ℕ → (first second : Run) → List Run → Run
statement name first second rest = front name first ++ (argument second ++ (arguments rest ++ ending))

abbrev pub name_of : TwoLimitCheck → List ℕ
name_of SetupHold = codes "$setuphold"
name_of RecRem = codes "$recrem"

-- the check as it is written
abbrev pub as_written : Written → Run
as_written w = statement (name_of w.kind) (terminal w.refer []) (terminal w.datum []) (w.first ∷ w.second ∷ w.notifier ∷ w.last)

-- the delayed signals behind two empty arguments
abbrev pub behind_empty : List Run → List Run
behind_empty [] = []
behind_empty (r ∷ rs) = [] ∷ [] ∷ r ∷ rs

-- the condition of the time stamp on both terminals, and both arguments empty
abbrev pub on_both : Written → Run
on_both w = statement (name_of w.kind) (terminal w.refer (stamp w)) (terminal w.datum (stamp w)) (w.first ∷ w.second ∷ w.notifier ∷ behind_empty (delayed w))

abbrev pub one_limit : List ℕ → (first second limit notifier : Run) → Run
one_limit name first second limit notifier = statement name first second (limit ∷ filled notifier)

-- In setup and removal the data is stamped, in hold and recovery the reference. $setup has the data before the reference (15.2.1).
abbrev pub halves_of : TwoLimitCheck → Written → Run
halves_of SetupHold w =
    one_limit (codes "$setup") (terminal w.datum (stamp w)) (terminal w.refer (check w)) w.first w.notifier
    ++ one_limit (codes "$hold") (terminal w.refer (stamp w)) (terminal w.datum (check w)) w.second w.notifier
halves_of RecRem w =
    one_limit (codes "$recovery") (terminal w.refer (stamp w)) (terminal w.datum (check w)) w.first w.notifier
    ++ one_limit (codes "$removal") (terminal w.refer (check w)) (terminal w.datum (stamp w)) w.second w.notifier

abbrev pub halves : Written → Run
halves w = halves_of w.kind w
