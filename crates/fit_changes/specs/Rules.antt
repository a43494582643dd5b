-- The rules by which texts are changed.
use Rattle.std.specs.Prelude.{ℕ, Bool, List, [], ◌∷◌, codes, nat_le}
use Rattle.fit_changes.specs.declared.rules.Rule.{Rule}
use Rattle.fit_changes.specs.declared.rules.Rule.TheVariants as rule

-- its word in a report
abbrev pub rule_word : Rule → List ℕ
rule_word rule.NegativeLimit = codes "negative-limit"
rule_word rule.Constant = codes "constant"
rule_word rule.Unused = codes "unused"
rule_word rule.Directive = codes "directive"
rule_word rule.Macro = codes "macro"
rule_word rule.Include = codes "include"
rule_word rule.Define = codes "define"
rule_word rule.PowerPin = codes "power-pin"
rule_word rule.Wrapper = codes "wrapper"
rule_word rule.Pull = codes "pull"
rule_word rule.Strength = codes "strength"
rule_word rule.Arithmetic = codes "arithmetic"
rule_word rule.Expression = codes "expression"
rule_word rule.StampCondition = codes "stamp-condition"
rule_word rule.IfnoneEdge = codes "ifnone-edge"
rule_word rule.Missing = codes "missing"
rule_word rule.Array = codes "array"
rule_word rule.BusPort = codes "bus-port"
rule_word rule.Exponent = codes "exponent"
rule_word rule.Head = codes "head"
rule_word rule.DelayMode = codes "delay-mode"
rule_word rule.Supply = codes "supply"
rule_word rule.Cut = codes "cut"
rule_word rule.Drop = codes "drop"
rule_word rule.NoChecks = codes "no-checks"
rule_word rule.NoNotifier = codes "no-notifier"
rule_word rule.Select = codes "select"
rule_word rule.SplitCheck = codes "split-check"
rule_word rule.NetType = codes "net-type"
rule_word rule.Edge = codes "edge"
rule_word rule.Condition = codes "condition"
rule_word rule.List = codes "list"
rule_word rule.Corner = codes "corner"
rule_word rule.CellType = codes "cell-type"

-- its number, in the order in which a report counts them
abbrev pub rule_number : Rule → ℕ
rule_number rule.NegativeLimit = 0
rule_number rule.Constant = 1
rule_number rule.Unused = 2
rule_number rule.Directive = 3
rule_number rule.Macro = 4
rule_number rule.Include = 5
rule_number rule.Define = 6
rule_number rule.PowerPin = 7
rule_number rule.Wrapper = 8
rule_number rule.Pull = 9
rule_number rule.Strength = 10
rule_number rule.Arithmetic = 11
rule_number rule.Expression = 12
rule_number rule.StampCondition = 13
rule_number rule.IfnoneEdge = 14
rule_number rule.Missing = 15
rule_number rule.Array = 16
rule_number rule.BusPort = 17
rule_number rule.Exponent = 18
rule_number rule.Head = 19
rule_number rule.DelayMode = 20
rule_number rule.Supply = 21
rule_number rule.Cut = 22
rule_number rule.Drop = 23
rule_number rule.NoChecks = 24
rule_number rule.NoNotifier = 25
rule_number rule.Select = 26
rule_number rule.SplitCheck = 27
rule_number rule.NetType = 28
rule_number rule.Edge = 29
rule_number rule.Condition = 30
rule_number rule.List = 31
rule_number rule.Corner = 32
rule_number rule.CellType = 33

-- whether values or violations may change by it: by the first 20 all of them stay
abbrev pub is_told : Rule → Bool
is_told r = nat_le 20 (rule_number r)

abbrev pub rules : List Rule
rules = rule.NegativeLimit ∷ rule.Constant ∷ rule.Unused ∷ rule.Directive ∷ rule.Macro ∷ rule.Include ∷ rule.Define ∷ rule.PowerPin ∷ rule.Wrapper ∷ rule.Pull ∷ rule.Strength ∷ rule.Arithmetic ∷ rule.Expression ∷ rule.StampCondition ∷ rule.IfnoneEdge ∷ rule.Missing ∷ rule.Array ∷ rule.BusPort ∷ rule.Exponent ∷ rule.Head ∷ rule.DelayMode ∷ rule.Supply ∷ rule.Cut ∷ rule.Drop ∷ rule.NoChecks ∷ rule.NoNotifier ∷ rule.Select ∷ rule.SplitCheck ∷ rule.NetType ∷ rule.Edge ∷ rule.Condition ∷ rule.List ∷ rule.Corner ∷ rule.CellType ∷ []
