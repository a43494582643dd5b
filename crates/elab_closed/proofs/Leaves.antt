-- The leaves of a condition's tree are the places of names among its tokens.
use Rattle.std.specs.Prelude.{◌≡◌, ℕ, zero, suc, List, [], ◌∷◌, length, Some, Ok, slice_get, true}
use Rattle.std.specs.List.{AllByRecursion}
use Rattle.std.proofs.Common.{sym, subst, inl, inr}
use Rattle.grammar.specs.Language.{SpellsMany}
use Rattle.grammar.specs.Rule.{◌∙∙◌, read_all}
use Rattle.cond_expr.specs.declared.tokens.Op.{Op}
use Rattle.cond_expr.specs.declared.tokens.Tok.TheVariants.{Name, Index, Const, Op as operator_token, Left, Right}
use Rattle.cond_expr.specs.Kinds.{kind_of, is_name, is_binary}
use Rattle.cond_expr.specs.Token.{Tok}
use Rattle.cond_expr.specs.Tree.{Cond, leaf, constant, unary, binary, chain_of}
use Rattle.cond_expr.specs.Grammar.{Grammar, operator, operand_parts, operand, atom_parts, atom, level_parts, level, primary_parts, primary, expression}
use Rattle.cond_expr.proofs.WholeConditions.{spelled_if_read}

-- a name stands at a place among tokens
abbrev pub IsNamed : List Tok → ℕ → Type 0
IsNamed ts at = (n : List ℕ) × (slice_get ts at ≡ Some (Name n))

-- so of each leaf
abbrev pub AreNamed : List Tok → Cond ℕ → Type 0
AreNamed ts (leaf at) = IsNamed ts at
AreNamed ts (constant v) = Unit {0}
AreNamed ts (unary op c) = AreNamed ts c
AreNamed ts (binary op a b) = AreNamed ts a × AreNamed ts b

-- and of all that a rule spells
abbrev SpellsNamed : Grammar (Cond ℕ) → Type 0
SpellsNamed r = (ts : List Tok) (i : ℕ) (c : Cond ℕ) (j : ℕ) → r.language.Spells ts i c j → AreNamed ts c

named-token : (ts : List Tok) (i : ℕ) (t : Tok) → slice_get ts i ≡ Some t → is_name (kind_of t) ≡ true → IsNamed ts i
named-token ts i (Name n) e k = (n, e)
named-token ts i (Index n) e k = absurd (cc)
named-token ts i (Const v) e k = absurd (cc)
named-token ts i (operator_token o) e k = absurd (cc)
named-token ts i Left e k = absurd (cc)
named-token ts i Right e k = absurd (cc)

operand-named : SpellsNamed operand
unfolding operand_parts
operand-named ts i c j s = subst (AreNamed ts) s.1 (subst (IsNamed ts) (sym s.2.0) (named-token ts i s.0.1.0 s.2.1.1.0 s.2.1.1.1))

atom-named : SpellsNamed atom
unfolding atom_parts
atom-named ts i c j (inl s) = operand-named ts i c j s
atom-named ts i c j (inr s) = subst (AreNamed ts) s.1 tt

chain-named : (ts : List Tok) (c : Cond ℕ) (xs : List (Op × Cond ℕ)) → AreNamed ts c → AllByRecursion (λ x. AreNamed ts x.1) xs → AreNamed ts (chain_of c xs)
chain-named ts c [] h k = h
chain-named ts c (x ∷ xs) h k = chain-named ts (binary x.0 c x.1) xs (h, k.0) k.1

parts-named : (n : ℕ) (r : Grammar (Cond ℕ)) → SpellsNamed r → (ts : List Tok) (i : ℕ) (xs : List (Op × Cond ℕ)) (j : ℕ) → SpellsMany (operator (is_binary n) ∙∙ r).language ts i xs j
    → AllByRecursion (λ x. AreNamed ts x.1) xs
parts-named n r h ts i [] j s = tt
parts-named n r h ts i (x ∷ xs) j s = (h ts s.1.0 x.1 s.0 s.1.2, parts-named n r h ts s.0 xs j s.2)

level-named : (n : ℕ) (r : Grammar (Cond ℕ)) → SpellsNamed r → SpellsNamed (level n r)
unfolding level_parts
level-named zero r h ts i c j s = h ts i c j s
level-named (suc n) r h ts i c j s =
    subst (AreNamed ts) s.1
    (chain-named ts s.0.0 s.0.1 (level-named n r h ts i s.0.0 s.2.0 s.2.1) (parts-named (suc n) (level n r) (level-named n r h) ts s.2.0 s.0.1 j s.2.2))

primary-named : (d : ℕ) → SpellsNamed (primary d)
unfolding primary_parts
primary-named zero ts i c j s = atom-named ts i c j s
primary-named (suc d) ts i c j (inl s) = atom-named ts i c j s
primary-named (suc d) ts i c j (inr (inl s)) =
    let inner = s.2.2 in
    subst (AreNamed ts) s.1 (subst (AreNamed ts) inner.1 (level-named 6 (primary d) (primary-named d) ts s.2.0 inner.0.0 inner.2.0 inner.2.1))
primary-named (suc d) ts i c j (inr (inr s)) = subst (AreNamed ts) s.1 (primary-named d ts s.2.0 s.0.1 j s.2.2)

pub read-named : (ts : List Tok) (c : Cond ℕ) → read_all (expression 64) ts ≡ Ok c → AreNamed ts c
read-named ts c e = level-named 6 (primary 64) (primary-named 64) ts 0 c (length ts) (spelled_if_read ts c e)
