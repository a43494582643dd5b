-- An operand without fault is one bit of a variable.
use Rattle.std.specs.Prelude.{◌≡◌, ℕ, List, [], ◌∷◌, Option, Some, None, filter_map, length, map, refl}
use Rattle.std.specs.List.{AllByRecursion}
use Rattle.std.proofs.Common.{subst}
use Rattle.sg_text.specs.declared.places.Place.{Place}
use Rattle.vl_tree.specs.declared.expressions.Select.{Select}
use Rattle.vl_tree.specs.declared.expressions.Select.TheVariants as select
use Rattle.vl_tree.specs.Tree.{Named, Term}
use Rattle.elab_model.specs.Bits.{Bit, net, constant, bits, bits_between, leaf_bits, part_bits, position_at, positions, variable_named, whole_bits}
use Rattle.elab_model.specs.Leaves.{leaf_of}
use Rattle.elab_model.specs.Names.{Variable}
use Rattle.elab_model.specs.Terms.{net_bit, expression_of, term_bits}
use Rattle.elab_model.specs.TerminalFaults.{width_faults}
use Rattle.specify_model.specs.Conditions.{first_bit}
use Rattle.specify_model.specs.Faults.{operand_faults, term_faults}
use Rattle.elab_laws.proofs.ElementWidths.{width-is}
use Rattle.elab_laws.proofs.EndBits.{HasNetBit}
use Rattle.elab_laws.proofs.Lists.{all-anyway, all-append, all-map}
use Rattle.elab_laws.proofs.NoFaults.{front, back}
use Rattle.elab_laws.proofs.Places.{IsBitOf, bits-below}

-- a name stands for bits of a variable, and for no constant
abbrev IsVariableBit : Bit → Type 0
IsVariableBit (net n p) = Unit {0}
IsVariableBit (constant at v) = ⊥

all-nets : (n : List ℕ) (ps : List ℕ) → AllByRecursion IsVariableBit (map (net n) ps)
all-nets n ps = all-map IsVariableBit (net n) ps (all-anyway (λ p. Unit {0}) ps (λ p. tt))

whole-nets : (n : List ℕ) (o : Option Variable) → AllByRecursion IsVariableBit (whole_bits n o)
whole-nets n None = tt
whole-nets n (Some v) = all-nets n (positions v.range)

between-nets : (n : List ℕ) (a b : Option ℕ) → AllByRecursion IsVariableBit (bits_between n a b)
between-nets n (Some p) (Some q) = all-nets n _
between-nets n (Some p) None = tt
between-nets n None b = tt

part-nets : (n : List ℕ) (s : Select) (o : Option Variable) → AllByRecursion IsVariableBit (part_bits n s o)
part-nets n s None = tt
part-nets n (select.Bit i) (Some v) = between-nets n (position_at v.range i) (position_at v.range i)
part-nets n (select.Part left right) (Some v) = between-nets n (position_at v.range left) (position_at v.range right)

leaf-nets : (vs : List Variable) (n : Named) (s : Option Select) → AllByRecursion IsVariableBit (leaf_bits vs (leaf_of n s))
leaf-nets vs n None = whole-nets n.text (variable_named vs n.text)
leaf-nets vs n (Some s) = part-nets n.text s (variable_named vs n.text)

one-known : (vs : List Variable) (bs : List Bit) → length bs ≡ 1 → AllByRecursion IsVariableBit bs → AllByRecursion (IsBitOf vs) bs → HasNetBit vs (first_bit (filter_map net_bit bs))
one-known vs [] e h k = cc
one-known vs (net n p ∷ bs) e h k = k.0
one-known vs (constant at v ∷ bs) e h k = absurd h.0

one-only : (bs : List Bit) → length bs ≡ 1 → AllByRecursion IsVariableBit bs → filter_map net_bit bs ≡ first_bit (filter_map net_bit bs) ∷ []
one-only [] e h = cc
one-only (net n p ∷ []) e h = refl
one-only (net n p ∷ b ∷ bs) e h = cc
one-only (constant at v ∷ bs) e h = absurd h.0

operand-width : (vs : List Variable) (t : Term) → operand_faults vs t ≡ [] → length (bits vs (expression_of t)) ≡ 1
operand-width vs t h = let e = expression_of t in width-is vs 1 e (front (term_faults vs t) (width_faults vs 1 e) h) (back (term_faults vs t) (width_faults vs 1 e) h)

term-nets : (vs : List Variable) (t : Term) → AllByRecursion IsVariableBit (bits vs (expression_of t))
term-nets vs t = all-append IsVariableBit (leaf_bits vs (leaf_of t.name t.select)) [] (leaf-nets vs t.name t.select) tt

pub operand-is_one : (vs : List Variable) (t : Term) → operand_faults vs t ≡ [] → term_bits vs t ≡ first_bit (term_bits vs t) ∷ []
operand-is_one vs t h = one-only (bits vs (expression_of t)) (operand-width vs t h) (term-nets vs t)

pub operand-known : (vs : List Variable) (t : Term) → operand_faults vs t ≡ [] → HasNetBit vs (first_bit (term_bits vs t))
operand-known vs t h = one-known vs (bits vs (expression_of t)) (operand-width vs t h) (term-nets vs t) (bits-below vs (expression_of t))

-- where a name stands makes no difference
abbrev term_at : List ℕ → Option Select → Place → Term
term_at n s p = record { name = record { text = n; place = p }; select = s }

same-bits : (vs : List Variable) (n : List ℕ) (s : Option Select) (p q : Place) → term_bits vs (term_at n s p) ≡ term_bits vs (term_at n s q)
same-bits vs n None p q = refl
same-bits vs n (Some s) p q = refl

pub operand-known_at : (vs : List Variable) (n : List ℕ) (s : Option Select) (p q : Place) → operand_faults vs (term_at n s p) ≡ [] → HasNetBit vs (first_bit (term_bits vs (term_at n s q)))
operand-known_at vs n s p q h = subst (λ bs. HasNetBit vs (first_bit bs)) (same-bits vs n s p q) (operand-known vs (term_at n s p) h)
