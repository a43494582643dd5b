-- Going down and up by one name more.
use Rattle.std.specs.Prelude.{◌≡◌, refl, ℕ, ◌+◌, ◌<◌, ◌≤◌, bytes_eq, Bool, true, false, if◌then◌else◌, All, List, [], ◌∷◌, ◌++◌, length, reverse, take, drop, slice_index_or, Option, Some, None, IfSome}
use Rattle.std.specs.Global.{Vec}
use Rattle.std.specs.List.{flat_map}
use Rattle.std.proofs.Common.{ap, sym, ◌∙◌, subst, arith, zero, suc}
use Rattle.std.proofs.lemmas.Grind.{flat_map-append}
use Rattle.std.proofs.lemmas.List.{append-nil, flat_map_more, map-append, reverse-append, take_more, take_all, drop_more, drop_all, get_or-map, length-map}
use Rattle.sg_circuit.specs.Circuit.{Circuit, Scope, scope_at}
use Rattle.sg_circuit.specs.Closed.{IsClosed}
use Rattle.sg_circuit.specs.Seen.{circuit_seen, scope_seen}
use Rattle.sg_circuit.specs.declared.circuits.Parts.{Parts}
use Rattle.sg_circuit.specs.declared.scopes.Scope as code_scope
use Rattle.annotation_index.specs.Candidates.{descend}
use Rattle.annotation_index.proofs.ScopeLaws.{climb-none}
use Rattle.annotation_model.specs.Scopes.{climb}
use Rattle.annotation_scopes.specs.Walks.{names_seen}

-- ---- down

pub more_below : (f : ℕ → List ℕ) (scopes found more : List ℕ) (i d : ℕ) → i < length scopes → more ≡ found ++ f (slice_index_or scopes i d)
    → found ≡ flat_map f (take i scopes) → more ≡ flat_map f (take (i + 1) scopes)
more_below f scopes found more i d l e h =
    e ∙ (ap (λ xs. xs ++ f (slice_index_or scopes i d)) h ∙ (flat_map_more f [] (take i scopes) (slice_index_or scopes i d) ∙ ap (λ xs. flat_map f xs) (sym (take_more scopes i d l))))

pub all_below : (f : ℕ → List ℕ) (scopes found : List ℕ) (i : ℕ) → length scopes ≤ i → found ≡ flat_map f (take i scopes) → found ≡ flat_map f scopes
all_below f scopes found i l h = h ∙ ap (λ xs. flat_map f xs) (take_all i scopes l)

-- pieces of pieces
flat_flat : (f g : ℕ → List ℕ) (xs : List ℕ) → flat_map g (flat_map f xs) ≡ flat_map (λ x. flat_map g (f x)) xs
flat_flat f g [] = refl
flat_flat f g (x ∷ xs) = flat_map-append g (f x) (flat_map f xs) ∙ ap (λ ys. flat_map g (f x) ++ ys) (flat_flat f g xs)

each_itself : (xs : List ℕ) → flat_map (λ x. x ∷ []) xs ≡ xs
each_itself [] = refl
each_itself (x ∷ xs) = ap (λ ys. x ∷ ys) (each_itself xs)

pub one_within : (count : ℕ) (scopes : List ℕ) (scope : ℕ) → scope < count → scopes ≡ scope ∷ [] → All (λ s. s < count) scopes
one_within count scopes scope l e = subst (λ xs. All (λ s. s < count) xs) (sym e) (λ k d within. one k d within)
  where
    one : (k d : ℕ) → k < length (scope ∷ []) → slice_index_or (scope ∷ []) k d < count
    one zero d within = l
    one (suc k) d within = absurd (omega (arith, within))

module _ (inside : ℕ → List ℕ → List ℕ) (names : List (Vec ℕ)) where
  pub from_one : (scopes : List ℕ) (scope : ℕ) → scopes ≡ scope ∷ [] → flat_map (descend inside (names_seen names)) scopes ≡ descend inside (names_seen names) scope
  from_one scopes scope e = ap (λ xs. flat_map (descend inside (names_seen names)) xs) e ∙ append-nil (descend inside (names_seen names) scope)

  pub one_down : (i : ℕ) (d name : Vec ℕ) (text scopes next meant : List ℕ) → i < length names → name ≡ slice_index_or names i d → text ≡ name.items
      → next ≡ flat_map (λ s. inside s text) scopes
      → flat_map (descend inside (names_seen (drop i names))) scopes ≡ meant → flat_map (descend inside (names_seen (drop (i + 1) names))) next ≡ meant
  one_down i d name text scopes next meant l is same e h =
      ap (λ xs. flat_map (descend inside (names_seen (drop (i + 1) names))) xs) (e ∙ ap (λ (n : List ℕ). flat_map (λ s. inside s n) scopes) (same ∙ ap (λ (v : Vec ℕ). v.items) is))
      ∙ (flat_flat (λ s. inside s (slice_index_or names i d).items) (descend inside (names_seen (drop (i + 1) names))) scopes
      ∙ (ap (λ (ns : List (Vec ℕ)). flat_map (descend inside (names_seen ns)) scopes) (sym (drop_more names i d l)) ∙ h))

  pub all_down : (i : ℕ) (scopes meant : List ℕ) → length names ≤ i → flat_map (descend inside (names_seen (drop i names))) scopes ≡ meant → scopes ≡ meant
  all_down i scopes meant l h = sym (each_itself scopes) ∙ (ap (λ (ns : List (Vec ℕ)). flat_map (descend inside (names_seen ns)) scopes) (sym (drop_all i names l)) ∙ h)

-- ---- up

-- a scope's parent is a scope
pub parent_within : (parts : Parts) (s : ℕ) (d scope : code_scope.Scope) → scope ≡ slice_index_or parts.scopes.items s d → IsClosed (circuit_seen parts) → s < length parts.scopes.items
    → IfSome scope.parent (λ p. p < length parts.scopes.items)
parent_within parts s d scope is closed l = by scope.parent (subst (λ (x : code_scope.Scope). IfSome x.parent (λ p. p < s)) (sym is) parents)
  where
    blank : Scope
    blank = scope_at (record { tick = (circuit_seen parts).tick; nets = []; elements = []; udps = []; checks = []; check_timings = []; check_conditions = []; scopes = []; zeroed = [] }) 0

    seen : scope_at (circuit_seen parts) s ≡ scope_seen (slice_index_or parts.scopes.items s d)
    seen = get_or-map scope_seen parts.scopes.items s d blank l

    parents : IfSome (slice_index_or parts.scopes.items s d).parent (λ p. p < s)
    parents = subst (λ (x : Scope). IfSome x.parent (λ p. p < s)) seen (closed.parents s (subst (λ n. s < n) (sym (length-map parts.scopes.items scope_seen)) l))

    by : (parent : Option ℕ) → IfSome parent (λ p. p < s) → IfSome parent (λ p. p < length parts.scopes.items)
    by None h = tt
    by (Some p) h = omega (arith, l, h)

last_name : (names rest : List (Vec ℕ)) (name : Vec ℕ) → names ≡ rest ++ name ∷ [] → reverse (names_seen names) ≡ name.items ∷ reverse (names_seen rest)
last_name names rest name is =
    ap (λ (ns : List (Vec ℕ)). reverse (names_seen ns)) is
    ∙ (ap (λ (ns : List (List ℕ)). reverse ns) (map-append (λ (v : Vec ℕ). v.items) rest (name ∷ [])) ∙ reverse-append (names_seen rest) (name.items ∷ []))

module _ (c : Circuit) where
  one_first : (n : List ℕ) (ns : List (List ℕ)) (s : ℕ) → climb c (n ∷ ns) (Some s) ≡ climb c ns (climb c (n ∷ []) (Some s))
  one_first n ns s = by (bytes_eq (scope_at c s).name n)
    where
      by : (b : Bool) → (if b then climb c ns (scope_at c s).parent else None) ≡ climb c ns (if b then (scope_at c s).parent else None)
      by true = refl
      by false = sym (climb-none c ns)

  -- by the last name that is left, and by the others
  pub one_up : (names rest : List (Vec ℕ)) (name : Vec ℕ) (text : List ℕ) (at : ℕ) (up meant : Option ℕ) → names ≡ rest ++ name ∷ [] → text ≡ name.items
      → up ≡ climb c (text ∷ []) (Some at) → climb c (reverse (names_seen names)) (Some at) ≡ meant → climb c (reverse (names_seen rest)) up ≡ meant
  one_up names rest name text at up meant is same found so_far =
      ap (λ (o : Option ℕ). climb c (reverse (names_seen rest)) o) (found ∙ ap (λ (n : List ℕ). climb c (n ∷ []) (Some at)) same)
      ∙ (sym (one_first name.items (reverse (names_seen rest)) at)
      ∙ (ap (λ (ns : List (List ℕ)). climb c ns (Some at)) (sym (last_name names rest name is)) ∙ so_far))

  pub stopped : (names : List (List ℕ)) (up meant : Option ℕ) → up ≡ None → climb c names up ≡ meant → None ≡ meant
  stopped names up meant none so_far = sym (climb-none c names) ∙ (ap (λ (o : Option ℕ). climb c names o) (sym none) ∙ so_far)

  pub all_up : (names : List (Vec ℕ)) (at : ℕ) (meant : Option ℕ) → length names ≡ 0 → climb c (reverse (names_seen names)) (Some at) ≡ meant → Some at ≡ meant
  all_up [] at meant l so_far = so_far
  all_up (n ∷ ns) at meant l so_far = absurd (omega (arith, l))
