-- Each rule of the grammar is read exactly. It stands here since the witness of the crate's grammar cites it (src/conditions.rt).
use Rattle.std.proofs.Common.{◌≡◌, ℕ, zero, suc, ◌<◌, ◌≤◌, Bool, true, false, refl, arith}
use Rattle.std.specs.Prelude.{◌&&◌, ◌||◌, not, nat_le, ◌==◌}
use Rattle.std.proofs.Common.{inl, inr}
use Rattle.std.proofs.lemmas.Bool.{eqb-true, leb-true, le-leb, cases_Bool, and_parts, or_cases, or_left}
use Rattle.grammar.specs.Exact.{Exact, Apart, IsWithin}
use Rattle.grammar.specs.Rule.{Rule, ◌∙∙◌}
use Rattle.grammar.proofs.Choice.{either-exact}
use Rattle.grammar.proofs.Many.{many-exact}
use Rattle.grammar.proofs.Mapped.{mapped-exact, located-exact}
use Rattle.grammar.proofs.Named.{named-exact}
use Rattle.grammar.proofs.One.{one-exact}
use Rattle.grammar.proofs.Optional.{optional-exact}
use Rattle.grammar.proofs.Sequence.{seq-exact}
use Rattle.cond_expr.specs.Kinds.{kind_of, is_name, is_index, is_constant, is_left, is_right, is_unary, is_binary, is_binary_up_to, operator_of, precedence, Kind, name_kind, index_kind, constant_kind, left_kind, right_kind, operator_kind}
use Rattle.cond_expr.specs.declared.tokens.Op.{Op}
use Rattle.cond_expr.specs.Grammar.{operator, quoted, operand_parts, operand, atom_parts, atom, primary_starts, level_continues, level_parts, level, primary_parts, primary, expression}
use Rattle.cond_expr.specs.Tree.{Cond}
use Rattle.cond_expr.specs.Token.{Tok}
use Rattle.cond_expr.specs.AllKinds.{apart, is_within}

pub operand-exact : Exact kind_of operand
unfolding operand_parts
operand-exact = named-exact kind_of _ (mapped-exact kind_of _ _ (located-exact kind_of _ (seq-exact kind_of _ _ (one-exact kind_of is_name) (optional-exact kind_of _ (one-exact kind_of is_index) refl) (apart _ _ refl)))) _ _ refl (is_within _ _ refl) (is_within _ _ refl)

pub atom-exact : Exact kind_of atom
unfolding atom_parts
atom-exact = named-exact kind_of _ (either-exact kind_of _ _ operand-exact (mapped-exact kind_of _ _ (one-exact kind_of is_constant)) refl refl (apart _ _ refl)) _ _ refl (is_within _ _ refl) (is_within _ _ refl)

pub quoted-exact : (is : Kind → Bool) → Exact kind_of (quoted is)
quoted-exact is = mapped-exact kind_of _ _ (one-exact kind_of is)

-- ---- levels

-- no operator of one level is one of a tighter level
pub level_apart : (n : ℕ) → Apart (level_continues n) (is_binary (suc n))
level_apart n (operator_kind o) p q =
    let le : precedence o ≤ n = leb-true _ _ ((and_parts (not (precedence o == 0)) (nat_le (precedence o) n) p).1) in
    omega (arith, eqb-true (precedence o) (suc n) q)
level_apart n name_kind p q = cc
level_apart n index_kind p q = cc
level_apart n constant_kind p q = cc
level_apart n left_kind p q = cc
level_apart n right_kind p q = cc

not_zero : (m : ℕ) → 0 < m → not (m == 0) ≡ true
not_zero m lt = elim (cases_Bool (m == 0)) [ inl e ↦ absurd (omega (arith, eqb-true m 0 e)) | inr e ↦ rw e refl ]

level_more : (n : ℕ) (o : Op) → (is_binary (suc n) (operator_kind o) || level_continues n (operator_kind o)) ≡ true → level_continues (suc n) (operator_kind o) ≡ true
level_more n o p = go (precedence o) p
  where
    go : (m : ℕ) → (m == suc n || (not (m == 0) && nat_le m n)) ≡ true → (not (m == 0) && nat_le m (suc n)) ≡ true
    go m p = elim (or_cases (m == suc n) (not (m == 0) && nat_le m n) p) [
      | inl e ↦ rw (not_zero m (omega (arith, eqb-true m (suc n) e)), le-leb m (suc n) (omega (arith, eqb-true m (suc n) e))) refl
      | inr e ↦ rw ((and_parts (not (m == 0)) (nat_le m n) e).0, le-leb m (suc n) (omega (arith, leb-true m n ((and_parts (not (m == 0)) (nat_le m n) e).1)))) refl
    ]

level_within : (n : ℕ) → IsWithin (λ k. is_binary (suc n) k || level_continues n k) (level_continues (suc n))
level_within n (operator_kind o) p = level_more n o p
level_within n name_kind p = p
level_within n index_kind p = refl
level_within n constant_kind p = p
level_within n left_kind p = p
level_within n right_kind p = p

regrouped : (b c : Bool) → ((c || b) || c) ≡ true → (b || c) ≡ true
regrouped true c p = refl
regrouped false true p = refl
regrouped false false p = p

module _ (part : Rule Tok Kind (Cond ℕ)) (exact : Exact kind_of part) (full : part.empty ≡ false) (starts : IsWithin part.starts primary_starts) (continues : IsWithin part.continues is_index) where
  -- an operator of a level and the part after it
  pub operation-exact : (n : ℕ) → Exact kind_of (level n part) → Exact kind_of (operator (is_binary (suc n)) ∙∙ level n part)
  operation-exact n tighter = seq-exact kind_of _ _ (mapped-exact kind_of operator_of _ (one-exact kind_of (is_binary (suc n)))) tighter (λ k p q. absurd cc)

  pub level-exact : (n : ℕ) → Exact kind_of (level n part)
  unfolding level_parts
  level-exact zero = named-exact kind_of part exact _ _ full starts (λ k p. or_left (is_index k) (is_binary_up_to 0 k) (continues k p))
  level-exact (suc n) =
      let tighter = level-exact n in
      named-exact kind_of _
      (mapped-exact kind_of _ _ (seq-exact kind_of _ _ tighter (many-exact kind_of _ (operation-exact n tighter) refl (level_apart n)) (level_apart n)))
      _ _ refl (λ k p. p) (λ k p. level_within n k (regrouped (is_binary (suc n) k) (level_continues n k) p))

-- ---- parts

pub primary-exact : (d : ℕ) → Exact kind_of (primary d)
unfolding primary_parts
primary-exact zero = named-exact kind_of _ atom-exact _ _ refl (is_within _ _ refl) (is_within _ _ refl)
primary-exact (suc d) =
    let inner = primary-exact d in
    let whole = level-exact (primary d) inner refl (λ k p. p) (λ k p. p) 6 in
    let enclosed = mapped-exact kind_of _ _ (seq-exact kind_of _ _ (quoted-exact is_left) (mapped-exact kind_of _ _ (seq-exact kind_of _ _ whole (quoted-exact is_right) (apart _ _ refl))) (apart _ _ refl)) in
    let prefixed = mapped-exact kind_of _ _ (seq-exact kind_of _ _ (mapped-exact kind_of operator_of _ (one-exact kind_of is_unary)) inner (apart _ _ refl)) in
    named-exact kind_of _ (either-exact kind_of _ _ atom-exact (either-exact kind_of _ _ enclosed prefixed refl refl (apart _ _ refl)) refl refl (apart _ _ refl)) _ _ refl (is_within _ _ refl) (is_within _ _ refl)

pub expression-exact : (d : ℕ) → Exact kind_of (expression d)
expression-exact d = level-exact (primary d) (primary-exact d) refl (λ k p. p) (λ k p. p) 6
