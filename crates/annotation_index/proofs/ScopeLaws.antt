-- Going down by names comes to the scopes from which climbing by them comes back.
use Rattle.std.specs.Prelude.{◌≡◌, refl, ℕ, ◌<◌, ◌==◌, ◌&&◌, ◌||◌, bytes_eq, Bool, true, false, if◌then◌else◌, List, [], ◌∷◌, ◌++◌, map, reverse, length, Option, Some, None, IfSome}
use Rattle.std.specs.List.{flat_map}
use Rattle.std.proofs.Common.{ap, sym, ◌∙◌, arith, inl, inr}
use Rattle.std.proofs.Math.Bool.{or-false}
use Rattle.std.proofs.lemmas.Bool.{cases_eq}
use Rattle.std.proofs.lemmas.List.{reverse-append}
use Rattle.sg_circuit.specs.Circuit.{Circuit, scope_at}
use Rattle.sg_circuit.specs.Closed.{IsClosed}
use Rattle.sdf_lex.specs.Names.{called, path_parts}
use Rattle.sdf_tree.specs.declared.words.Divider.{Divider}
use Rattle.sdf_tree.specs.Words.{divider_byte}
use Rattle.sdf_tree.specs.Written.{Instance, the_top, all_of_type, the_path}
use Rattle.annotation_model.specs.Scopes.{climb, is_scope, is_of_cell}
use Rattle.annotation_model.specs.Ports.{has}
use Rattle.annotation_model.proofs.ListedLaws.{test_same, test_other}
use Rattle.annotation_index.specs.Candidates.{Lookups, AreOf, descend, cell_scopes}
use Rattle.annotation_index.proofs.PickLaws.{has-append}

pub test_back : (x k : ℕ) → (k == x) ≡ (x == k)
test_back x k = elim (cases_eq x k) [ inl e ↦ test_same k x (sym e) ∙ sym (test_same x k e) | inr e ↦ test_other k x (λ q. e (sym q)) ∙ sym (test_other x k e) ]

-- whether a list has the number, if there is one
abbrev pub has_if : Option ℕ → List ℕ → Bool
has_if None xs = false
has_if (Some v) xs = has v xs

has_if-more : (up : Option ℕ) (x : ℕ) (xs : List ℕ) → (is_scope x up || has_if up xs) ≡ has_if up (x ∷ xs)
has_if-more None x xs = refl
has_if-more (Some v) x xs = ap (λ b. b || has v xs) (test_back x v)

has_if-none : (up : Option ℕ) → false ≡ has_if up []
has_if-none None = refl
has_if-none (Some v) = refl

-- what stands in the list of one number alone stands in all where that number is
has-by : (f : ℕ → List ℕ) (s : ℕ) (up : Option ℕ) → ((x : ℕ) → has s (f x) ≡ is_scope x up) → (xs : List ℕ) → has s (flat_map f xs) ≡ has_if up xs
has-by f s up h [] = has_if-none up
has-by f s up h (x ∷ xs) = has-append s (f x) (flat_map f xs) ∙ (ap (λ b. b || has s (flat_map f xs)) (h x) ∙ (ap (λ b. is_scope x up || b) (has-by f s up h xs) ∙ has_if-more up x xs))

module _ (c : Circuit) where
  -- from nowhere one climbs nowhere
  pub climb-none : (names : List (List ℕ)) → climb c names None ≡ None
  climb-none [] = refl
  climb-none (n ∷ ns) = refl

  climb-append : (xs ys : List (List ℕ)) (up : Option ℕ) → climb c (xs ++ ys) up ≡ climb c ys (climb c xs up)
  climb-append [] ys up = refl
  climb-append (n ∷ xs) ys None = sym (climb-none ys)
  climb-append (n ∷ xs) ys (Some s) = by (bytes_eq (scope_at c s).name n) (climb-append xs ys (scope_at c s).parent)
    where
      by : (b : Bool) → climb c (xs ++ ys) (scope_at c s).parent ≡ climb c ys (climb c xs (scope_at c s).parent)
          → (if b then climb c (xs ++ ys) (scope_at c s).parent else None) ≡ climb c ys (if b then climb c xs (scope_at c s).parent else None)
      by true e = e
      by false e = sym (climb-none ys)

  -- climbing stays among the scopes
  pub climb-within : IsClosed c → (names : List (List ℕ)) (up : Option ℕ) → IfSome up (λ s. s < length c.scopes) → IfSome (climb c names up) (λ t. t < length c.scopes)
  climb-within closed [] up h = h
  climb-within closed (n ∷ ns) None h = tt
  climb-within closed (n ∷ ns) (Some s) h = by (bytes_eq (scope_at c s).name n) (climb-within closed ns (scope_at c s).parent (above (scope_at c s).parent (closed.parents s h)))
    where
      above : (parent : Option ℕ) → IfSome parent (λ p. p < s) → IfSome parent (λ p. p < length c.scopes)
      above None l = tt
      above (Some p) l = omega (arith, l, h)

      by : (b : Bool) → IfSome (climb c ns (scope_at c s).parent) (λ t. t < length c.scopes) → IfSome (if b then climb c ns (scope_at c s).parent else None) (λ t. t < length c.scopes)
      by true l = l
      by false l = tt

  module _ (l : Lookups) (of_circuit : AreOf c l) where
    one_down : (up : Option ℕ) (n : List ℕ) (t : ℕ) → has_if up (l.inside t n) ≡ is_scope t (climb c (n ∷ []) up)
    one_down None n t = refl
    one_down (Some v) n t = of_circuit.inside_of v t n ∙ by (bytes_eq (scope_at c v).name n)
      where
        by : (b : Bool) → (b && is_scope t (scope_at c v).parent) ≡ is_scope t (if b then (scope_at c v).parent else None)
        by true = refl
        by false = refl

    pub descended : (names : List (List ℕ)) (s t : ℕ) → has s (descend l.inside names t) ≡ is_scope t (climb c (reverse names) (Some s))
    descended [] s t = or-false (t == s) ∙ test_back s t
    descended (n ∷ ns) s t =
        has-by (descend l.inside ns) s (climb c (reverse ns) (Some s)) (λ u. descended ns s u) (l.inside t n)
        ∙ (one_down (climb c (reverse ns) (Some s)) n t
        ∙ ap (is_scope t) (sym (climb-append (reverse ns) (n ∷ []) (Some s)) ∙ ap (λ names. climb c names (Some s)) (sym (reverse-append (n ∷ []) ns))))

    pub of_cell : (divider : Divider) (cell_type : List ℕ) (instance : Instance) (s : ℕ) → s < length c.scopes
        → has s (cell_scopes l divider cell_type instance) ≡ is_of_cell c divider cell_type instance s
    of_cell divider cell_type the_top s within = or-false (0 == s) ∙ test_back s 0
    of_cell divider cell_type all_of_type s within = of_circuit.by_module s cell_type within
    of_cell divider cell_type (the_path path) s within = descended (map called (path_parts (divider_byte divider) path)) s 0
