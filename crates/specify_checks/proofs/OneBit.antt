-- A terminal without a fault is one bit.
use Rattle.std.specs.Prelude.{◌≡◌, ℕ, suc, ◌<◌, List, [], ◌∷◌, Bool, true, false, ◌&&◌, not, ◌==◌, Option, Some, None, flat_map, filter_map, length, map, slice_index_or, refl}
use Rattle.std.proofs.Common.{sym, ◌∙◌, ap, arith, subst, append-nil}
use Rattle.std.proofs.lemmas.Bool.{eqb-true}
use Rattle.std.proofs.lemmas.List.{length-map}
use Rattle.sg_circuit.specs.Closed.{width_of}
use Rattle.sg_circuit.specs.declared.scopes.Range.{Range}
use Rattle.vl_tree.specs.declared.expressions.Select.{Select}
use Rattle.vl_tree.specs.declared.expressions.Select.TheVariants as select
use Rattle.vl_tree.specs.Tree.{Named, Term}
use Rattle.elab_laws.specs.Handing.{all_bits}
use Rattle.elab_model.specs.declared.kinds.ElabKind.TheVariants.{WidthMismatch}
use Rattle.elab_model.specs.Bits.{net, bits, bits_between, leaf_bits, part_bits, whole_bits, position_at, positions, positions_between, variable_named}
use Rattle.elab_model.specs.Faults.{fault_if}
use Rattle.elab_model.specs.Hierarchy.{is_empty}
use Rattle.elab_model.specs.Leaves.{leaf_of}
use Rattle.elab_model.specs.Names.{Variable}
use Rattle.specify_model.specs.Conditions.{first_bit}
use Rattle.specify_model.specs.Faults.{term_faults, operand_faults}
use Rattle.elab_model.specs.Terms.{NetBit, net_bit, expression_of, term_bits}
use Rattle.elab_ends.specs.Seen.{bit_seen, bits_seen, AreInRow}
use Rattle.specify_values.proofs.InTurn.{if-none}
use Rattle.specify_paths.proofs.InOrder.{none-left, none-right}

-- a variable has one at least
pub has-bit : (r : Option Range) → 0 < width_of r
has-bit None = omega arith
has-bit (Some r) = omega arith

-- ---- all bits of a term are bits of nets

nets-only : (n : List ℕ) (ps : List ℕ) → length (filter_map net_bit (map (net n) ps)) ≡ length (map (net n) ps)
nets-only n [] = refl
nets-only n (p ∷ ps) = ap (λ k. suc k) (nets-only n ps)

between-only : (n : List ℕ) (a b : Option ℕ) → length (filter_map net_bit (bits_between n a b)) ≡ length (bits_between n a b)
between-only n (Some p) (Some q) = nets-only n (positions_between p q)
between-only n (Some p) None = refl
between-only n None (Some q) = refl
between-only n None None = refl

part-only : (n : List ℕ) (s : Select) (o : Option Variable) → length (filter_map net_bit (part_bits n s o)) ≡ length (part_bits n s o)
part-only n s None = refl
part-only n (select.Bit i) (Some v) = between-only n (position_at v.range i) (position_at v.range i)
part-only n (select.Part left right) (Some v) = between-only n (position_at v.range left) (position_at v.range right)

whole-only : (n : List ℕ) (o : Option Variable) → length (filter_map net_bit (whole_bits n o)) ≡ length (whole_bits n o)
whole-only n None = refl
whole-only n (Some v) = nets-only n (positions v.range)

leaf-only : (vs : List Variable) (n : Named) (s : Option Select) → length (filter_map net_bit (leaf_bits vs (leaf_of n s))) ≡ length (leaf_bits vs (leaf_of n s))
leaf-only vs n None = whole-only n.text (variable_named vs n.text)
leaf-only vs n (Some s) = part-only n.text s (variable_named vs n.text)

bits-only : (vs : List Variable) (t : Term) → length (term_bits vs t) ≡ length (bits vs (expression_of t))
bits-only vs t =
    let leaf = leaf_bits vs (leaf_of t.name t.select) in
    subst (λ bs. length (filter_map net_bit bs) ≡ length bs) (sym (append-nil leaf)) (leaf-only vs t.name t.select)

-- ---- without a fault it is one bit

module _ (vs : List Variable) (t : Term) (sound : operand_faults vs t ≡ []) where
  one-wide : length (bits vs (expression_of t)) ≡ 1
  one-wide =
      let count = length (bits vs (expression_of t)) in
      let wide = fault_if (is_empty (term_faults vs t) && not (count == 1)) WidthMismatch t.name.place in
      let declared : term_faults vs t ≡ [] = none-left (term_faults vs t) wide sound in
      let test : (is_empty (term_faults vs t) && not (count == 1)) ≡ false = if-none (is_empty (term_faults vs t) && not (count == 1)) WidthMismatch t.name.place (none-right (term_faults vs t) wide sound) in
      let same : not (count == 1) ≡ false = sym (ap (λ fs. is_empty fs && not (count == 1)) declared) ∙ test in
      eqb-true count 1 (not-false (count == 1) same)
    where
      not-false : (b : Bool) → not b ≡ false → b ≡ true
      not-false true e = refl
      not-false false e = cc

  pub only-bit : term_bits vs t ≡ first_bit (term_bits vs t) ∷ []
  only-bit = by (term_bits vs t) (bits-only vs t ∙ one-wide)
    where
      by : (bs : List NetBit) → length bs ≡ 1 → bs ≡ first_bit bs ∷ []
      by [] e = absurd (omega (arith, e))
      by (b ∷ []) e = refl
      by (b ∷ c ∷ bs) e = absurd (omega (arith, e))

-- ---- places that are the bits of one term

module _ (vs : List Variable) (t : Term) (is : List ℕ) (seen : bits_seen vs is ≡ flat_map (term_bits vs) (t ∷ [])) where
  all-bits : bits_seen vs is ≡ term_bits vs t
  all-bits = seen ∙ append-nil (term_bits vs t)

  pub one : operand_faults vs t ≡ [] → length is ≡ 1
  one h = sym (length-map is (bit_seen vs)) ∙ ap length (all-bits ∙ only-bit vs t h)

  pub first-is : (d : ℕ) → length is ≡ 1 → bit_seen vs (slice_index_or is 0 d) ≡ first_bit (term_bits vs t)
  first-is d one = by is one ∙ ap first_bit all-bits
    where
      by : (js : List ℕ) → length js ≡ 1 → bit_seen vs (slice_index_or js 0 d) ≡ first_bit (bits_seen vs js)
      by [] e = absurd (omega (arith, e))
      by (j ∷ js) e = refl

pub first-in_row : (vs : List Variable) (is : List ℕ) (d : ℕ) → AreInRow vs is → length is ≡ 1 → slice_index_or is 0 d < length (all_bits vs)
first-in_row vs is d row one = row 0 d (omega (arith, one))
