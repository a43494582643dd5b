-- Conditions over the bits of a module (IEEE 1364-2005, 14.2.4). A condition is read twice: its operands word by word, for faults, and its tree, for what it means. Where there is no fault both agree: each operand
-- of the tree is a bit that has a net (`PathsHaveNets` and `ChecksHaveNets` of elab_closed).
use Rattle.std.specs.Prelude.{ℕ, ◌+◌, List, [], ◌∷◌, ◌++◌, Option, Some, None, Result, Ok, Err, map, slice_get}
use Rattle.std.specs.Option.{option_map}
use Rattle.cond_expr.specs.declared.tokens.Tok.TheVariants.{Name}
use Rattle.cond_expr.specs.Binding.{index_of}
use Rattle.cond_expr.specs.Grammar.{expression}
use Rattle.cond_expr.specs.Token.{Tok}
use Rattle.cond_expr.specs.Tree.{Cond, leaf, constant, unary, binary}
use Rattle.grammar.specs.Rule.{read_all}
use Rattle.sg_logic.specs.declared.values.Value.TheVariants.{X}
use Rattle.sg_text.specs.declared.places.Place.{Place}
use Rattle.vl_tree.specs.declared.expressions.Select.TheVariants as select
use Rattle.vl_tree.specs.Tree.{Term, Word, PathCondition, always, if_none, if_words}
use Rattle.elab_model.specs.Names.{Variable}
use Rattle.elab_model.specs.Terms.{NetBit, term_bits}

abbrev pub tokens : List Word → List Tok
tokens ws = map (λ w. w.token) ws

-- the most parentheses and unary operators round a part
abbrev pub depth_limit : ℕ
depth_limit = 64

-- the tree that tokens spell, over the places of its operands' names among them; none where it is deeper
abbrev pub tree_of : List Tok → Result (Cond ℕ) ℕ
tree_of ts = read_all (expression depth_limit) ts

-- an operand as a term: a name, and the index behind it
abbrev pub operand : List ℕ → Place → Option Tok → Term
operand n p next = record { name = record { text = n; place = p }; select = option_map select.Bit (index_of next) }

-- the operands of a condition, in text order
abbrev pub next_token : List Word → Option Tok
next_token [] = None
next_token (w ∷ ws) = Some w.token

abbrev pub operand_of : Place → Tok → Option Tok → List Term
operand_of p (Name n) next = operand n p next ∷ []
operand_of p _ next = []

abbrev pub operands : List Word → List Term
operands [] = []
operands (w ∷ ws) = operand_of w.place w.token (next_token ws) ++ operands ws

-- the bit of the operand whose name stands at a place among the tokens; without one a blank
abbrev pub first_bit : List NetBit → NetBit
first_bit [] = record { name = []; position = 0 }
first_bit (b ∷ bs) = b

abbrev pub bit_of_token : List Variable → Option Tok → Option Tok → NetBit
bit_of_token vs (Some (Name n)) next = first_bit (term_bits vs (operand n (record { file = 0; byte = 0 }) next))
bit_of_token vs _ next = first_bit []

abbrev pub operand_bit : List Variable → List Tok → ℕ → NetBit
operand_bit vs ts at = bit_of_token vs (slice_get ts at) (slice_get ts (at + 1))

-- the same condition over other leaves
abbrev pub over : {L M : Type 0} → (L → M) → Cond L → Cond M
over f (leaf l) = leaf (f l)
over f (constant v) = constant v
over f (unary op c) = unary op (over f c)
over f (binary op a b) = binary op (over f a) (over f b)

-- when a path of a module may be taken: always; by a condition, as the text spells it and over bits; or where no other path with a
-- condition may be
pub data ModuleCondition : Type 0 where
  Always : ModuleCondition
  If : (written : List Tok) (bound : Cond NetBit) → ModuleCondition
  IfNone : ModuleCondition

abbrev pub bound_to : List Variable → List Tok → Result (Cond ℕ) ℕ → Cond NetBit
bound_to vs ts (Ok c) = over (operand_bit vs ts) c
bound_to vs ts (Err e) = constant X

abbrev pub condition_over : List Variable → List Tok → ModuleCondition
condition_over vs ts = If ts (bound_to vs ts (tree_of ts))

abbrev pub condition_of : List Variable → PathCondition → ModuleCondition
condition_of vs always = Always
condition_of vs (if_words ws) = condition_over vs (tokens ws)
condition_of vs if_none = IfNone
