-- The bits of terminals, added one after another.
use Rattle.std.specs.Prelude.{◌≡◌, ℕ, zero, suc, ◌+◌, ◌-◌, ◌<◌, ◌≤◌, List, [], ◌∷◌, ◌++◌, Option, Some, None, map, flat_map, filter_map, length, take, drop, slice_index_or, refl}
use Rattle.std.specs.List.{cons_option}
use Rattle.std.proofs.Common.{sym, ◌∙◌, ap, arith, subst, append_assoc, length-append}
use Rattle.std.proofs.lemmas.Grind.{flat_map-append}
use Rattle.std.proofs.lemmas.List.{append-nil, length-map, take-map, take_all, take_at, take_more, drop_all}
use Rattle.vl_tree.specs.Tree.{Expression}
use Rattle.elab_model.specs.Bits.{Bit, bits}
use Rattle.elab_model.specs.Elements.{only_bit}
use Rattle.elab_model.specs.Names.{Variable}
use Rattle.elab_bits.specs.declared.bits.Bit as code_bit
use Rattle.elab_bits.specs.Seen.{view_bit}
use Rattle.elab_elements.specs.declared.terminals.Terminals.{Terminals}
use Rattle.elab_elements.specs.Terminals.{outputs_of, inputs_of, AddsTerminals}

-- ---- an output

only-one : (bs : List Bit) → length bs ≡ 1 → only_bit bs ≡ bs
only-one [] e = cc
only-one (b ∷ []) e = refl
only-one (b ∷ c ∷ bs) e = absurd (omega arith)

-- what was added is one bit, or is cut off again
pub output-kept : (vs : List Variable) (before : ℕ) (old new : List code_bit.Bit) (bs : List Bit) → before ≡ length old → length new ≡ before + 1 → map (view_bit vs) new ≡ map (view_bit vs) old ++ bs
    → map (view_bit vs) new ≡ map (view_bit vs) old ++ only_bit bs
output-kept vs before old new bs b n h =
    let e : length new ≡ length old + length bs = sym (length-map new (view_bit vs)) ∙ ap length h ∙ length-append (map (view_bit vs) old) bs ∙ ap (λ k. k + length bs) (length-map old (view_bit vs)) in
    h ∙ ap (λ cs. map (view_bit vs) old ++ cs) (sym (only-one bs (omega (arith, b, n, e))))

pub output-cut : (vs : List Variable) (before : ℕ) (old new : List code_bit.Bit) (bs : List Bit) → before ≡ length old → (length new ≡ before + 1 → ⊥) → map (view_bit vs) new ≡ map (view_bit vs) old ++ bs
    → map (view_bit vs) (take before new) ≡ map (view_bit vs) old ++ only_bit bs
output-cut vs before old new bs b n h =
    let e : length new ≡ length old + length bs = sym (length-map new (view_bit vs)) ∙ ap length h ∙ length-append (map (view_bit vs) old) bs ∙ ap (λ k. k + length bs) (length-map old (view_bit vs)) in
    sym (take-map (view_bit vs) before new) ∙ ap (take before) h ∙ take_at (map (view_bit vs) old) bs before (length-map old (view_bit vs) ∙ sym b) ∙ sym (append-nil (map (view_bit vs) old))
    ∙ ap (λ cs. map (view_bit vs) old ++ cs) (sym (by bs (λ one. n (omega (arith, b, e, one)))))
  where
    by : (bs : List Bit) → (length bs ≡ 1 → ⊥) → only_bit bs ≡ []
    by [] f = refl
    by (b ∷ []) f = absurd (f refl)
    by (b ∷ c ∷ bs) f = refl

-- ---- several terminals

take-both : {A : Type 0} (n : ℕ) (xs ys : List A) → take n (xs ++ ys) ≡ take n xs ++ take (n - length xs) ys
take-both {A} n [] ys = let e : n ≡ n - 0 = omega arith in ap (λ k. take k ys) e ∙ ap (λ (zs : List A). zs ++ take (n - 0) ys) (sym (take_all n [] (omega arith)))
take-both zero (x ∷ xs) ys = let e : 0 ≡ 0 - suc (length xs) = omega arith in ap (λ k. take k ys) e
take-both (suc n) (x ∷ xs) ys = let e : n - length xs ≡ suc n - suc (length xs) = omega arith in ap (λ zs. x ∷ zs) (take-both n xs ys ∙ ap (λ k. take n xs ++ take k ys) e)

drop-both : {A : Type 0} (n : ℕ) (xs ys : List A) → drop n (xs ++ ys) ≡ drop n xs ++ drop (n - length xs) ys
drop-both {A} n [] ys = let e : n ≡ n - 0 = omega arith in ap (λ k. drop k ys) e ∙ ap (λ (zs : List A). zs ++ drop (n - 0) ys) (sym (drop_all n [] (omega arith)))
drop-both zero (x ∷ xs) ys = let e : 0 ≡ 0 - suc (length xs) = omega arith in ap (λ k. (x ∷ xs) ++ drop k ys) e
drop-both (suc n) (x ∷ xs) ys = let e : n - length xs ≡ suc n - suc (length xs) = omega arith in drop-both n xs ys ∙ ap (λ k. drop n xs ++ drop k ys) e

pub adds-nothing : (vs : List Variable) (n : ℕ) (old : Terminals) → AddsTerminals vs n [] old old
adds-nothing vs n old = record {
  left = sym (ap (λ es. map (view_bit vs) old.left.items ++ flat_map (λ e. only_bit (bits vs e)) es) (take_all n [] (omega arith)) ∙ append-nil (map (view_bit vs) old.left.items));
  right = sym (ap (λ es. map (view_bit vs) old.right.items ++ flat_map (bits vs) es) (drop_all n [] (omega arith)) ∙ append-nil (map (view_bit vs) old.right.items));
}

adds-both : (vs : List Variable) (n m : ℕ) (xs ys : List Expression) (a b c : Terminals) → m ≡ n - length xs → AddsTerminals vs n xs a b → AddsTerminals vs m ys b c → AddsTerminals vs n (xs ++ ys) a c
adds-both vs n m xs ys a b c e h k =
    let f : Expression → List Bit = λ e. only_bit (bits vs e) in
    record {
      left = k.left ∙ ap (λ bs. bs ++ outputs_of vs m ys) h.left ∙ append_assoc (map (view_bit vs) a.left.items) (outputs_of vs n xs) (outputs_of vs m ys)
          ∙ ap (λ bs. map (view_bit vs) a.left.items ++ bs) (sym (ap (flat_map f) (take-both n xs ys ∙ ap (λ j. take n xs ++ take j ys) (sym e)) ∙ flat_map-append f (take n xs) (take m ys)));
      right = k.right ∙ ap (λ bs. bs ++ inputs_of vs m ys) h.right ∙ append_assoc (map (view_bit vs) a.right.items) (inputs_of vs n xs) (inputs_of vs m ys)
          ∙ ap (λ bs. map (view_bit vs) a.right.items ++ bs) (sym (ap (flat_map (bits vs)) (drop-both n xs ys ∙ ap (λ j. drop n xs ++ drop j ys) (sym e)) ∙ flat_map-append (bits vs) (drop n xs) (drop m ys)));
    }

-- an output, or an input
pub adds-output : (vs : List Variable) (n : ℕ) (e : Expression) (a b : Terminals) → (n ≡ 0 → ⊥) → map (view_bit vs) b.left.items ≡ map (view_bit vs) a.left.items ++ only_bit (bits vs e) → b.right ≡ a.right
    → AddsTerminals vs n (e ∷ []) a b
adds-output vs zero e a b some h k = absurd (some refl)
adds-output vs (suc n) e a b some h k = record {
  left = h ∙ ap (λ bs. map (view_bit vs) a.left.items ++ bs) (sym (ap (λ es. only_bit (bits vs e) ++ flat_map (λ e. only_bit (bits vs e)) es) (take_all n [] (omega arith)) ∙ append-nil (only_bit (bits vs e))));
  right = ap (λ v. map (view_bit vs) v.items) k ∙ sym (ap (λ es. map (view_bit vs) a.right.items ++ flat_map (bits vs) es) (drop_all n [] (omega arith)) ∙ append-nil (map (view_bit vs) a.right.items));
}

pub adds-input : (vs : List Variable) (n : ℕ) (e : Expression) (a b : Terminals) → n ≡ 0 → map (view_bit vs) b.right.items ≡ map (view_bit vs) a.right.items ++ bits vs e → b.left ≡ a.left
    → AddsTerminals vs n (e ∷ []) a b
adds-input vs n e a b none h k = subst (λ n. AddsTerminals vs n (e ∷ []) a b) (sym none) (record {
  left = ap (λ v. map (view_bit vs) v.items) k ∙ sym (append-nil (map (view_bit vs) a.left.items));
  right = h ∙ ap (λ bs. map (view_bit vs) a.right.items ++ bs) (sym (append-nil (bits vs e)));
})

-- ---- one more of a list

pub record AreAdded (vs : List Variable) (outputs rest : ℕ) (es : List Expression) (old new : Terminals) : Type 0 where
  pub rest_is : rest ≡ outputs - length es
  pub added : AddsTerminals vs outputs es old new

pub begins : (vs : List Variable) (outputs : ℕ) (old : Terminals) → AreAdded vs outputs outputs [] old old
begins vs outputs old = record { rest_is = omega arith; added = adds-nothing vs outputs old }

module _ {A : Type 0} (f : List A → List Expression) (each : (xs ys : List A) → f (xs ++ ys) ≡ f xs ++ f ys) where
  pub one-added : (vs : List Variable) (outputs rest after : ℕ) (xs : List A) (i : ℕ) (x : A) (old cur new : Terminals) → i < length xs → x ≡ slice_index_or xs i x
      → AreAdded vs outputs rest (f (take i xs)) old cur → AddsTerminals vs rest (f (x ∷ [])) cur new → after ≡ rest - length (f (x ∷ [])) → AreAdded vs outputs after (f (take (i + 1) xs)) old new
  one-added vs outputs rest after xs i x old cur new lt at h k a =
      let e : f (take (i + 1) xs) ≡ f (take i xs) ++ f (x ∷ []) = ap f (take_more xs i x lt ∙ ap (λ y. take i xs ++ y ∷ []) (sym at)) ∙ each (take i xs) (x ∷ []) in
      let n = length-append (f (take i xs)) (f (x ∷ [])) in
      let r = h.rest_is in
      subst (λ es. AreAdded vs outputs after es old new) (sym e)
      (record { rest_is = omega (arith, a, n, r); added = adds-both vs outputs rest (f (take i xs)) (f (x ∷ [])) old cur new r h.added k })

  pub all-added : (vs : List Variable) (outputs rest : ℕ) (xs : List A) (i : ℕ) (old new : Terminals) → length xs ≤ i → AreAdded vs outputs rest (f (take i xs)) old new → AddsTerminals vs outputs (f xs) old new
  all-added vs outputs rest xs i old new le h = subst (λ ys. AddsTerminals vs outputs (f ys) old new) (take_all i xs le) h.added

pub chosen-append : {A B C : Type 0} (g : B → Option C) (h : A → B) (xs ys : List A) → filter_map g (map h (xs ++ ys)) ≡ filter_map g (map h xs) ++ filter_map g (map h ys)
chosen-append g h [] ys = refl
chosen-append {C = C} g h (x ∷ xs) ys = by (g (h x)) (chosen-append g h xs ys)
  where
    by : (o : Option C) → filter_map g (map h (xs ++ ys)) ≡ filter_map g (map h xs) ++ filter_map g (map h ys)
        → cons_option o (filter_map g (map h (xs ++ ys))) ≡ cons_option o (filter_map g (map h xs)) ++ filter_map g (map h ys)
    by None e = e
    by (Some c) e = ap (λ zs. c ∷ zs) e

-- in room that was cleared, by the list that is lent
pub seen-left : (vs : List Variable) (n : ℕ) (es : List Expression) (old new : Terminals) (slice : List code_bit.Bit) → old.left.items ≡ [] → AddsTerminals vs n es old new → slice ≡ new.left.items
    → map (view_bit vs) slice ≡ outputs_of vs n es
seen-left vs n es old new slice e h s = ap (map (view_bit vs)) s ∙ h.left ∙ ap (λ xs. map (view_bit vs) xs ++ outputs_of vs n es) e

pub seen-right : (vs : List Variable) (n : ℕ) (es : List Expression) (old new : Terminals) (slice : List code_bit.Bit) → old.right.items ≡ [] → AddsTerminals vs n es old new → slice ≡ new.right.items
    → map (view_bit vs) slice ≡ inputs_of vs n es
seen-right vs n es old new slice e h s = ap (map (view_bit vs)) s ∙ h.right ∙ ap (λ xs. map (view_bit vs) xs ++ inputs_of vs n es) e
