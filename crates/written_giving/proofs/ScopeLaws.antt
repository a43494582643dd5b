-- A scope's cell is for that scope alone.
use Rattle.std.proofs.Common.{◌≡◌, zero, suc, ◌<◌, Bool, true, false, List, [], ◌∷◌, length, reverse, refl, sym, ◌∙◌, ap, subst, arith}
use Rattle.std.specs.Prelude.{ℕ, ◌==◌, Option, Some, None, IfSome, IsSome, bytes_eq, if◌then◌else◌}
use Rattle.std.proofs.lemmas.Bool.{eqb-true}
use Rattle.std.proofs.lemmas.List.{reverse-append}
use Rattle.std.proofs.lemmas.Slice.Eq.{bytes_eq-Decides}
use Rattle.late_limits.proofs.NumberLaws.{test_same}
use Rattle.sg_circuit.specs.Circuit.{Circuit, scope_at}
use Rattle.sg_circuit.specs.Closed.{IsClosed}
use Rattle.sdf_tree.specs.declared.words.Divider.TheVariants.{Slash}
use Rattle.annotation_model.specs.Scopes.{climb, is_scope, is_of_cell}
use Rattle.written_model.specs.Names.{below, names_in, names_to}
use Rattle.written_model.specs.Tree.{instance_of}
use Rattle.written_reading.specs.Named.{IsNamed}
use Rattle.written_giving.proofs.LetterLaws.{path-back}

-- a cell's names are climbed
pub of-cell : (c : Circuit) (t : List ℕ) (ns : List (List ℕ)) (s : ℕ) → is_of_cell c Slash t (instance_of ns) s ≡ is_scope 0 (climb c (reverse ns) (Some s))
of-cell c t [] s = refl
of-cell c t (n ∷ ns) s = ap (λ xs. is_scope 0 (climb c xs (Some s))) (path-back n ns)

module _ (c : Circuit) (closed : IsClosed c) (named : IsNamed c) where
  abbrev leads : ℕ → ℕ → ℕ → Bool
  leads t s r = is_scope 0 (climb c (reverse (names_in t c s)) (Some r))

  parent-below : (s p : ℕ) → s < length c.scopes → (scope_at c s).parent ≡ Some p → p < s
  parent-below s p l e = subst (λ o. IfSome o (λ q. q < s)) e (closed.parents s l)

  first-scope : (s : ℕ) → s < length c.scopes → (scope_at c s).parent ≡ None → s ≡ 0
  first-scope zero l e = refl
  first-scope (suc s) l e = absurd (let h : false ≡ true = subst (λ (o : Option ℕ). IsSome o) e (named.others (suc s) (omega arith) l) in cc)

  turned : (t s p : ℕ) → (scope_at c s).parent ≡ Some p → reverse (names_in (suc t) c s) ≡ (scope_at c s).name ∷ reverse (names_in t c p)
  turned t s p e = ap (λ o. reverse (below (names_in t c) (scope_at c s).name o)) e ∙ reverse-append (names_in t c p) ((scope_at c s).name ∷ [])

  nowhere-leads : (ns : List (List ℕ)) → is_scope 0 (climb c ns None) ≡ false
  nowhere-leads [] = refl
  nowhere-leads (n ∷ ns) = refl

  step : (t s p r : ℕ) → (scope_at c s).parent ≡ Some p
      → leads (suc t) s r ≡ is_scope 0 (if bytes_eq (scope_at c r).name (scope_at c s).name then climb c (reverse (names_in t c p)) (scope_at c r).parent else None)
  step t s p r e = ap (λ xs. is_scope 0 (climb c xs (Some r))) (turned t s p e)

  pub leads-own : (t s : ℕ) → s < t → s < length c.scopes → leads t s s ≡ true
  leads-own zero s l m = absurd (omega (arith, l))
  leads-own (suc t) s l m = by (scope_at c s).parent refl (λ p k n. leads-own t p k n)
    where
      by : (o : Option ℕ) → (scope_at c s).parent ≡ o → ((p : ℕ) → p < t → p < length c.scopes → leads t p p ≡ true) → leads (suc t) s s ≡ true
      by None e rec =
          ap (λ o. is_scope 0 (climb c (reverse (below (names_in t c) (scope_at c s).name o)) (Some s))) e ∙ test_same s 0 (first-scope s m e)
      by (Some p) e rec =
          let k = parent-below s p m e in
          let name = (scope_at c s).name in
          step t s p s e
          ∙ (ap (λ b. is_scope 0 (if b then climb c (reverse (names_in t c p)) (scope_at c s).parent else None)) ((bytes_eq-Decides name name).1 refl)
          ∙ (ap (λ o. is_scope 0 (climb c (reverse (names_in t c p)) o)) e ∙ rec p (omega (arith, k, l)) (omega (arith, k, m))))

  pub leads-one : (t s r : ℕ) → s < t → s < length c.scopes → r < length c.scopes → leads t s r ≡ true → s ≡ r
  leads-one zero s r l m n e = absurd (omega (arith, l))
  leads-one (suc t) s r l m n e = by (scope_at c s).parent refl (λ p q. leads-one t p q)
    where
      by : (o : Option ℕ) → (scope_at c s).parent ≡ o → ((p q : ℕ) → p < t → p < length c.scopes → q < length c.scopes → leads t p q ≡ true → p ≡ q) → s ≡ r
      by None f rec =
          let g : (r == 0) ≡ true = sym (ap (λ o. is_scope 0 (climb c (reverse (below (names_in t c) (scope_at c s).name o)) (Some r))) f) ∙ e in
          first-scope s m f ∙ sym (eqb-true r 0 g)
      by (Some p) f rec = named-alike (bytes_eq (scope_at c r).name (scope_at c s).name) refl (sym (step t s p r f) ∙ e)
        where
          up : (o : Option ℕ) → (scope_at c r).parent ≡ o → (scope_at c r).name ≡ (scope_at c s).name → is_scope 0 (climb c (reverse (names_in t c p)) o) ≡ true → s ≡ r
          up None g same h = absurd (let x : false ≡ true = sym (nowhere-leads (reverse (names_in t c p))) ∙ h in cc)
          up (Some q) g same h =
              let k = parent-below s p m f in
              let j = parent-below r q n g in
              let i : p ≡ q = rec p q (omega (arith, k, l)) (omega (arith, k, m)) (omega (arith, j, n)) h in
              named.siblings s r m n (f ∙ (ap Some i ∙ sym g)) (sym same)

          named-alike : (b : Bool) → bytes_eq (scope_at c r).name (scope_at c s).name ≡ b → is_scope 0 (if b then climb c (reverse (names_in t c p)) (scope_at c r).parent else None) ≡ true → s ≡ r
          named-alike true g h = up (scope_at c r).parent refl ((bytes_eq-Decides (scope_at c r).name (scope_at c s).name).0 g) h
          named-alike false g h = absurd (let x : false ≡ true = h in cc)

  -- a scope's cell is for it, and for no other scope
  pub cell-own : (t : List ℕ) (s : ℕ) → s < length c.scopes → is_of_cell c Slash t (instance_of (names_to c s)) s ≡ true
  cell-own t s l = of-cell c t (names_to c s) s ∙ leads-own (length c.scopes) s l l

  pub cell-one : (t : List ℕ) (s r : ℕ) → s < length c.scopes → r < length c.scopes → is_of_cell c Slash t (instance_of (names_to c s)) r ≡ true → s ≡ r
  cell-one t s r l m e = leads-one (length c.scopes) s r l l m (sym (of-cell c t (names_to c s) r) ∙ e)
