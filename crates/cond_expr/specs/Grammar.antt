-- The grammar of conditions of specify paths and timing checks (IEEE 1364-2005, 14.2.4 and 15.6), with the precedence of
-- operators of 5.1.2. A condition of depth d has at most d parentheses and unary operators round any part. A leaf is the
-- position of an operand's name among the tokens.
use Rattle.std.specs.Prelude.{ℕ, zero, suc, List, length, Bool, ◌||◌, Option, Some, None}
use Rattle.grammar.specs.Depth.{deepening}
use Rattle.grammar.specs.Reads.{FailsAt}
use Rattle.grammar.specs.Rule.{Rule, one, ◌∙∙◌, mapped, located, ◌▸◌, ◌◂◌, either, optional, many, named}
use Rattle.cond_expr.specs.declared.tokens.Op.{Op}
use Rattle.cond_expr.specs.Token.{Tok}
use Rattle.cond_expr.specs.Kinds.{Kind, kind_of, is_name, is_index, is_constant, is_left, is_right, is_unary, is_binary, is_binary_up_to, constant_of, operator_of}
use Rattle.cond_expr.specs.Tree.{Cond, leaf, constant, unary, chain_of}

abbrev pub Grammar : Type 0 → Type 1
Grammar A = Rule Tok Kind A

abbrev pub token : (Kind → Bool) → Grammar Tok
token is = one kind_of is

abbrev pub quoted : (Kind → Bool) → Grammar (Unit {0})
quoted is = mapped (λ _. tt) (token is)

abbrev pub operator : (Kind → Bool) → Grammar Op
operator is = mapped operator_of (token is)

-- name [ index ]
unfoldable pub operand_parts : Grammar (Cond ℕ)
operand_parts = mapped (λ x. leaf x.0) (located (token is_name ∙∙ optional kind_of (token is_index)))

abbrev pub operand : Grammar (Cond ℕ)
operand = named is_name is_index operand_parts

-- name [ index ] | constant
unfoldable pub atom_parts : Grammar (Cond ℕ)
atom_parts = either kind_of operand (mapped (λ t. constant (constant_of t)) (token is_constant))

abbrev pub atom : Grammar (Cond ℕ)
atom = named (λ k. is_name k || is_constant k) is_index atom_parts

-- the kinds of token that an expression begins with, and those with which one of these levels goes on
abbrev pub primary_starts : Kind → Bool
primary_starts k = is_name k || (is_constant k || (is_left k || is_unary k))

abbrev pub level_continues : ℕ → Kind → Bool
level_continues n k = is_index k || is_binary_up_to n k

-- parts joined from the left by the operators of a level, those of tighter levels first
unfoldable pub level_parts : ℕ → Grammar (Cond ℕ) → Grammar (Cond ℕ)
level_parts zero part = part
level_parts (suc n) part =
    let tighter = named primary_starts (level_continues n) (level_parts n part) in
    mapped (λ x. chain_of x.0 x.1) (tighter ∙∙ many kind_of (operator (is_binary (suc n)) ∙∙ tighter))

abbrev pub level : ℕ → Grammar (Cond ℕ) → Grammar (Cond ℕ)
level n part = named primary_starts (level_continues n) (level_parts n part)

-- atom | "(" expression ")" | unary-operator primary
unfoldable pub primary_parts : ℕ → Grammar (Cond ℕ)
primary_parts zero = atom
primary_parts (suc d) =
    let inner = named primary_starts is_index (primary_parts d) in
    either kind_of atom (either kind_of (quoted is_left ▸ (level 6 inner ◂ quoted is_right)) (mapped (λ x. unary x.0 x.1) (operator is_unary ∙∙ inner)))

abbrev pub primary : ℕ → Grammar (Cond ℕ)
primary d = named primary_starts is_index (primary_parts d)

abbrev pub expression : ℕ → Grammar (Cond ℕ)
expression d = level 6 (primary d)

-- a condition of any depth
abbrev pub condition : Grammar (Cond ℕ)
condition = deepening primary_starts (level_continues 6) expression

-- All tokens spell some condition.
abbrev pub IsCondition : List Tok → Type 0
IsCondition ts = (c : Cond ℕ) × condition.language.Spells ts 0 c (length ts)

-- No condition is spelled, and e is the first token such that the tokens up to and with it begin none. At the length, all
-- tokens begin one.
abbrev pub FailsConditionAt : List Tok → ℕ → Type 0
FailsConditionAt ts e = FailsAt condition.language ts e

abbrev pub FirstFault : List Tok → Option ℕ → Type 0
FirstFault ts None = IsCondition ts
FirstFault ts (Some e) = FailsConditionAt ts e
