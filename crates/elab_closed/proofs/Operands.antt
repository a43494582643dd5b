-- The operands of a condition without fault are bits of variables.
use Rattle.std.specs.Prelude.{◌≡◌, ℕ, zero, suc, ◌+◌, List, [], ◌∷◌, Option, Some, Result, Ok, Err, flat_map, is_err, slice_get, refl}
use Rattle.std.specs.Option.{option_map}
use Rattle.std.proofs.Common.{sym, ◌∙◌, ap, arith, subst}
use Rattle.std.proofs.lemmas.Grind.{flat_map-append}
use Rattle.cond_expr.specs.Binding.{index_of}
use Rattle.cond_expr.specs.Token.{Tok}
use Rattle.cond_expr.specs.Tree.{Cond, leaf, constant, unary, binary}
use Rattle.cond_expr.specs.declared.tokens.Tok.TheVariants.{Name}
use Rattle.sg_text.specs.declared.places.Place.{Place}
use Rattle.vl_tree.specs.declared.expressions.Select.TheVariants as select
use Rattle.vl_tree.specs.Tree.{Word, PathCondition, always, if_none, if_words}
use Rattle.elab_model.specs.declared.kinds.ElabKind.TheVariants.{TooDeep}
use Rattle.elab_model.specs.Faults.{fault_if}
use Rattle.elab_model.specs.Names.{Variable}
use Rattle.elab_model.specs.Terms.{NetBit}
use Rattle.specify_model.specs.Conditions.{bit_of_token, bound_to, condition_of, next_token, operand, operand_bit, operand_of, operands, over, tokens, tree_of}
use Rattle.specify_model.specs.Faults.{condition_faults, first_place, operand_faults, own_condition}
use Rattle.elab_laws.proofs.EndBits.{HasNetBit}
use Rattle.elab_laws.proofs.NoFaults.{front, back}
use Rattle.elab_closed.specs.NamedNets.{EachInCondition, EachOperand}
use Rattle.elab_closed.proofs.KnownBits.{operand-known_at}
use Rattle.elab_closed.proofs.Leaves.{IsNamed, AreNamed, read-named}

-- ---- the words of a condition

-- each name among tokens is an operand without fault, at some place
abbrev pub AreSound : List Variable → List Tok → Type 0
AreSound vs ts = (at : ℕ) (n : List ℕ) → slice_get ts at ≡ Some (Name n) → (p : Place) × (operand_faults vs (operand n p (slice_get ts (at + 1))) ≡ [])

next-is : (ws : List Word) → slice_get (tokens ws) 0 ≡ next_token ws
next-is [] = refl
next-is (w ∷ ws) = refl

operand-here : (vs : List Variable) (p : Place) (t : Tok) (next : Option Tok) (n : List ℕ) → t ≡ Name n → flat_map (operand_faults vs) (operand_of p t next) ≡ [] → operand_faults vs (operand n p next) ≡ []
operand-here vs p t next n e h = front (operand_faults vs (operand n p next)) [] (ap (λ x. flat_map (operand_faults vs) (operand_of p x next)) (sym e) ∙ h)

pub words-sound : (vs : List Variable) (ws : List Word) → flat_map (operand_faults vs) (operands ws) ≡ [] → AreSound vs (tokens ws)
words-sound vs [] h at n e = cc
words-sound vs (w ∷ ws) h zero n e =
    let own = operand_of w.place w.token (next_token ws) in
    let none = front (flat_map (operand_faults vs) own) (flat_map (operand_faults vs) (operands ws)) (sym (flat_map-append (operand_faults vs) own (operands ws)) ∙ h) in
    let t : w.token ≡ Name n = (let g : ◌≡◌ {A = Option Tok} (Some w.token) (Some (Name n)) = e in cc) in
    (w.place, ap (λ x. operand_faults vs (operand n w.place x)) (next-is ws) ∙ operand-here vs w.place w.token (next_token ws) n t none)
words-sound vs (w ∷ ws) h (suc k) n e =
    let own = operand_of w.place w.token (next_token ws) in
    let none = back (flat_map (operand_faults vs) own) (flat_map (operand_faults vs) (operands ws)) (sym (flat_map-append (operand_faults vs) own (operands ws)) ∙ h) in
    let rest = words-sound vs ws none k n e in
    let j : suc k + 1 ≡ suc (k + 1) = omega arith in
    (rest.0, ap (λ i. operand_faults vs (operand n rest.0 (slice_get (tokens (w ∷ ws)) i))) j ∙ rest.1)

-- ---- its operands

module _ (vs : List Variable) (P : NetBit → Type 0) (known : (b : NetBit) → HasNetBit vs b → P b) where
  leaf-known : (ts : List Tok) (at : ℕ) → AreSound vs ts → IsNamed ts at → P (operand_bit vs ts at)
  leaf-known ts at sound (n, e) =
      let next = slice_get ts (at + 1) in
      let (p, none) = sound at n e in
      subst (λ t. P (bit_of_token vs t next)) (sym e) (known _ (operand-known_at vs n (option_map select.Bit (index_of next)) p (record { file = 0; byte = 0 }) none))

  tree-known : (ts : List Tok) (c : Cond ℕ) → AreSound vs ts → AreNamed ts c → EachOperand P (over (operand_bit vs ts) c)
  tree-known ts (leaf at) sound named = leaf-known ts at sound named
  tree-known ts (constant v) sound named = tt
  tree-known ts (unary op c) sound named = tree-known ts c sound named
  tree-known ts (binary op a b) sound named = (tree-known ts a sound named.0, tree-known ts b sound named.1)

  bound-known : (ts : List Tok) → AreSound vs ts → EachOperand P (bound_to vs ts (tree_of ts))
  bound-known ts sound = by (tree_of ts) refl
    where
      by : (r : Result (Cond ℕ) ℕ) → tree_of ts ≡ r → EachOperand P (bound_to vs ts r)
      by (Ok c) e = tree-known ts c sound (read-named ts c e)
      by (Err at) e = tt

  pub words-known : (p : Place) (ws : List Word) → condition_faults vs p ws ≡ [] → EachOperand P (bound_to vs (tokens ws) (tree_of (tokens ws)))
  words-known p ws h =
      let wrong = flat_map (operand_faults vs) (operands ws) in
      bound-known (tokens ws) (words-sound vs ws (front wrong (fault_if (is_err (tree_of (tokens ws))) TooDeep (first_place p ws)) h))

  pub condition-known : (p : Place) (c : PathCondition) → flat_map (condition_faults vs p) (own_condition c) ≡ [] → EachInCondition P (condition_of vs c)
  condition-known p always h = tt
  condition-known p if_none h = tt
  condition-known p (if_words ws) h = words-known p ws (front (condition_faults vs p ws) [] h)
