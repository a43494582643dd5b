-- The variable of a name stands at its place.
use Rattle.std.specs.Prelude.{◌≡◌, ℕ, suc, ◌+◌, ◌<◌, List, [], ◌∷◌, Bool, true, false, Some, None, find, length, slice_index_or, refl, bytes_eq}
use Rattle.std.specs.List.{position_from}
use Rattle.std.proofs.Common.{sym, ◌∙◌, arith, subst}
use Rattle.std.proofs.lemmas.Slice.Eq.{bytes_eq-Decides}
use Rattle.elab_model.specs.Names.{Variable}
use Rattle.elab_model.specs.Bits.{variable_named}
use Rattle.elab_variables.proofs.Lists.{found-is}
use Rattle.elab_variables.specs.Seen.{variable_at, place_named}
use Rattle.elab_bits.proofs.InRow.{blank}

-- what is found first, where positions count from k
record FoundAt {A : Type 0} (test : A → Bool) (k : ℕ) (xs : List A) (d : A) (i : ℕ) : Type 0 where
  shift : ℕ
  is : i ≡ k + shift
  below : shift < length xs
  found : find test xs ≡ Some (slice_index_or xs shift d)

found-at : {A : Type 0} (test : A → Bool) (k : ℕ) (xs : List A) (d : A) (i : ℕ) → position_from test k xs ≡ Some i → FoundAt test k xs d i
found-at test k [] d i e = cc
found-at {A} test k (x ∷ xs) d i e = by (test x) refl (λ h. found-at test (k + 1) xs d i h)
  where
    by : (b : Bool) → test x ≡ b → (position_from test (k + 1) xs ≡ Some i → FoundAt test (k + 1) xs d i) → FoundAt test k (x ∷ xs) d i
    by true t next =
        let g : Some k ≡ Some i = rw t at e in
        let f : k ≡ i = cc in
        record { shift = 0; is = sym f ∙ (omega arith); below = omega arith; found = rw t refl }
    by false t next =
        let g : position_from test (k + 1) xs ≡ Some i = rw t at e in
        let r = next g in
        record { shift = suc r.shift; is = r.is ∙ (omega arith); below = (let b = r.below in omega arith); found = rw t r.found }

none-found : {A : Type 0} (test : A → Bool) (k : ℕ) (xs : List A) → position_from test k xs ≡ None → find test xs ≡ None
none-found test k [] e = refl
none-found test k (x ∷ xs) e = by (test x) refl (λ h. none-found test (k + 1) xs h)
  where
    by : (b : Bool) → test x ≡ b → (position_from test (k + 1) xs ≡ None → find test xs ≡ None) → find test (x ∷ xs) ≡ None
    by true t next = let g : Some k ≡ None = rw t at e in cc
    by false t next = let g : position_from test (k + 1) xs ≡ None = rw t at e in rw t (next g)

pub record IsNamedAt (vs : List Variable) (n : List ℕ) (i : ℕ) : Type 0 where
  pub below : i < length vs
  pub found : variable_named vs n ≡ Some (variable_at vs i)
  pub name : (variable_at vs i).name ≡ n

pub named-at : (vs : List Variable) (n : List ℕ) (i : ℕ) → Some i ≡ place_named vs n → IsNamedAt vs n i
named-at vs n i e =
    let r = found-at (λ v. bytes_eq n v.name) 0 vs blank i (sym e) in
    let s : r.shift ≡ i = sym (r.is ∙ (omega arith)) in
    let f : variable_named vs n ≡ Some (variable_at vs i) = subst (λ j. variable_named vs n ≡ Some (variable_at vs j)) s r.found in
    record {
      below = subst (λ j. j < length vs) s r.below;
      found = f;
      name = sym ((bytes_eq-Decides n (variable_at vs i).name).0 (found-is (λ v. bytes_eq n v.name) vs (variable_at vs i) f).passes);
    }

pub not-named : (vs : List Variable) (n : List ℕ) → None ≡ place_named vs n → variable_named vs n ≡ None
not-named vs n e = none-found (λ v. bytes_eq n v.name) 0 vs (sym e)
