-- The bits of terms, one after another, as places of the row.
use Rattle.std.specs.Prelude.{◌≡◌, ℕ, suc, ◌+◌, ◌<◌, All, List, [], ◌∷◌, ◌++◌, filter_map, length, map, slice_index_or}
use Rattle.std.proofs.Common.{sym, ◌∙◌, ap, arith, subst, append_assoc, drop, drop-cons}
use Rattle.std.proofs.lemmas.List.{map-append}
use Rattle.std.proofs.lemmas.List.Elements.{All-push, All-same}
use Rattle.sg_logic.specs.declared.values.Value.{Value}
use Rattle.sg_text.specs.declared.places.Place.{Place}
use Rattle.vl_tree.specs.declared.specify.Term as code_term
use Rattle.vl_tree.specs.Seen.{view_term}
use Rattle.vl_tree.specs.Tree.{Expression}
use Rattle.elab_bits.specs.Seen.{IsInRow, view_bit}
use Rattle.elab_bits.specs.declared.bits.Bit as code
use Rattle.elab_bits.specs.declared.bits.Bit.TheVariants as bit
use Rattle.elab_model.specs.Bits.{bits}
use Rattle.elab_model.specs.Names.{Variable}
use Rattle.elab_model.specs.Terms.{NetBit, net_bit, expression_of, term_bits}
use Rattle.elab_ends.specs.Seen.{AreInRow, bit_seen, bits_seen}

-- ---- a bit more

module _ (vs : List Variable) (xs : List code.Bit) (i : ℕ) (d : code.Bit) where
  abbrev left : List NetBit
  left = filter_map net_bit (map (view_bit vs) (drop (i + 1) xs))

  next : (x : code.Bit) → i < length xs → slice_index_or xs i d ≡ x → map (view_bit vs) (drop i xs) ≡ view_bit vs x ∷ map (view_bit vs) (drop (i + 1) xs)
  next x lt is =
      let n : suc i ≡ i + 1 = omega arith in
      ap (map (view_bit vs)) (drop-cons xs i d lt ∙ ap (λ y. y ∷ drop (suc i) xs) is) ∙ ap (λ k. view_bit vs x ∷ map (view_bit vs) (drop k xs)) n

  pub net-added : (p : ℕ) (old new : List ℕ) (total : List NetBit) → i < length xs → slice_index_or xs i d ≡ bit.Net p → new ≡ old ++ p ∷ []
      → bits_seen vs old ++ filter_map net_bit (map (view_bit vs) (drop i xs)) ≡ total → bits_seen vs new ++ left ≡ total
  net-added p old new total lt is more h =
      ap (λ ps. bits_seen vs ps ++ left) more ∙ ap (λ bs. bs ++ left) (map-append (bit_seen vs) old (p ∷ [])) ∙ append_assoc (bits_seen vs old) (bit_seen vs p ∷ []) left
      ∙ ap (λ bs. bits_seen vs old ++ filter_map net_bit bs) (sym (next (bit.Net p) lt is)) ∙ h

  pub constant-passed : (p : Place) (v : Value) (old new : List ℕ) (total : List NetBit) → i < length xs → slice_index_or xs i d ≡ bit.Constant p v → new ≡ old
      → bits_seen vs old ++ filter_map net_bit (map (view_bit vs) (drop i xs)) ≡ total → bits_seen vs new ++ left ≡ total
  constant-passed p v old new total lt is same h = ap (λ ps. bits_seen vs ps ++ left) same ∙ ap (λ bs. bits_seen vs old ++ filter_map net_bit bs) (sym (next (bit.Constant p v) lt is)) ∙ h

  pub net-in_row : (p : ℕ) (old new : List ℕ) → i < length xs → slice_index_or xs i d ≡ bit.Net p → new ≡ old ++ p ∷ [] → All (IsInRow vs) xs → AreInRow vs old → AreInRow vs new
  net-in_row p old new lt is more bits row =
      All-same (λ k. IsInRow vs (bit.Net k)) new (old ++ p ∷ []) more (All-push (λ k. IsInRow vs (bit.Net k)) old p row (subst (IsInRow vs) is (bits i d lt)))

pub same-row : (vs : List Variable) (old new : List ℕ) → new ≡ old → AreInRow vs old → AreInRow vs new
same-row vs old new e h = subst (AreInRow vs) (sym e) h

-- ---- a term

pub bits-are : (vs : List Variable) (t : code_term.Term) (e : Expression) (bs : List code.Bit) → e ≡ expression_of (view_term t) → map (view_bit vs) bs ≡ bits vs e → map (view_bit vs) bs ≡ bits vs (expression_of (view_term t))
bits-are vs t e bs is h = h ∙ ap (bits vs) is

pub term-added : (vs : List Variable) (t : code_term.Term) (e : Expression) (bs : List code.Bit) (old new : List ℕ) → e ≡ expression_of (view_term t) → map (view_bit vs) bs ≡ bits vs e
    → bits_seen vs new ≡ bits_seen vs old ++ filter_map net_bit (map (view_bit vs) bs) → bits_seen vs new ≡ bits_seen vs old ++ term_bits vs (view_term t)
term-added vs t e bs old new is h more = more ∙ ap (λ cs. bits_seen vs old ++ filter_map net_bit cs) (bits-are vs t e bs is h)
