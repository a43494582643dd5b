-- The ports that legs lead to and from.
use Rattle.std.specs.Prelude.{◌≡◌, refl, ℕ, ℤ, ◌+◌, ◌-◌, ◌<◌, ◌≤◌, ◌&&◌, ◌||◌, Bool, true, false, if◌then◌else◌, List, [], ◌∷◌, ◌++◌, length, take, drop, reverse, slice_index_or, Option, Some, None}
use Rattle.std.specs.Global.{Vec}
use Rattle.std.specs.List.{flat_map, list_any}
use Rattle.std.proofs.Common.{ap, sym, ◌∙◌, arith}
use Rattle.std.proofs.lemmas.List.{take_more, take_all, get_or-map, reverse-reverse}
use Rattle.std.proofs.lemmas.List.Concat.{flat_map-append}
use Rattle.std.proofs.lemmas.List.Folds.{list_any-append, list_any_at}
use Rattle.sg_circuit.specs.Circuit.{Circuit, Scope, scope_at}
use Rattle.sg_circuit.specs.Seen.{circuit_seen, scope_seen}
use Rattle.sg_circuit.specs.declared.circuits.Parts.{Parts}
use Rattle.sg_circuit.specs.declared.scopes.Scope as code_scope
use Rattle.annotation_model.specs.Ports.{has, is_input, nets_named}
use Rattle.annotation_model.specs.Scopes.{climb}
use Rattle.annotation_index.specs.Candidates.{Lookups, descend, is_source_at}
use Rattle.annotation_scopes.specs.Walks.{names_seen}
use Rattle.annotation_finder.specs.Fitting.{below}

-- a scope of the code's table
pub scope_is : (parts : Parts) (s : ℕ) (d : code_scope.Scope) → s < length parts.scopes.items → scope_at (circuit_seen parts) s ≡ scope_seen (slice_index_or parts.scopes.items s d)
scope_is parts s d l = get_or-map (λ (x : code_scope.Scope). scope_seen x) parts.scopes.items s d _ l

leaf_is : (parts : Parts) (s : ℕ) (x : code_scope.Scope) → s < length parts.scopes.items → x ≡ slice_index_or parts.scopes.items s x → x.leaf ≡ (scope_at (circuit_seen parts) s).is_leaf
leaf_is parts s x l e = ap (λ (y : code_scope.Scope). y.leaf) e ∙ sym (ap (λ (y : Scope). y.is_leaf) (scope_is parts s x l))

-- of no leaf, or of one
pub not_leaf : (parts : Parts) (s : ℕ) (x : code_scope.Scope) (b : Bool) → s < length parts.scopes.items → x ≡ slice_index_or parts.scopes.items s x → x.leaf ≡ false
    → false ≡ ((scope_at (circuit_seen parts) s).is_leaf && b)
not_leaf parts s x b l e h = ap (λ t. t && b) (sym h ∙ leaf_is parts s x l e)

pub of_leaf : (parts : Parts) (s : ℕ) (x : code_scope.Scope) (r b : Bool) → s < length parts.scopes.items → x ≡ slice_index_or parts.scopes.items s x → x.leaf ≡ true → r ≡ b
    → r ≡ ((scope_at (circuit_seen parts) s).is_leaf && b)
of_leaf parts s x r b l e h f = f ∙ ap (λ t. t && b) (sym h ∙ leaf_is parts s x l e)

any-flat : {A : Type 0} (p : A → Bool) (f : ℕ → List A) (xs : List ℕ) → list_any p (flat_map f xs) ≡ list_any (λ x. list_any p (f x)) xs
any-flat p f [] = refl
any-flat p f (x ∷ xs) = list_any-append p (f x) (flat_map f xs) ∙ ap (λ b. list_any p (f x) || b) (any-flat p f xs)

-- one of the lists has what passes
pub found_inside : {A : Type 0} (p : A → Bool) (f : ℕ → List A) (xs : List ℕ) (i d : ℕ) → i < length xs → list_any p (f (slice_index_or xs i d)) ≡ true → true ≡ list_any p (flat_map f xs)
found_inside p f xs i d l h = sym (any-flat p f xs ∙ list_any_at (λ x. list_any p (f x)) xs i d l h)

-- so far none has
pub none_inside : {A : Type 0} (p : A → Bool) (f : ℕ → List A) (xs : List ℕ) (i d : ℕ) → i < length xs → list_any p (flat_map f (take i xs)) ≡ false
    → list_any p (f (slice_index_or xs i d)) ≡ false → list_any p (flat_map f (take (i + 1) xs)) ≡ false
none_inside p f xs i d l none h =
    ap (λ ys. list_any p (flat_map f ys)) (take_more xs i d l)
    ∙ (ap (list_any p) (flat_map-append f (take i xs) (slice_index_or xs i d ∷ []))
    ∙ (list_any-append p (flat_map f (take i xs)) (f (slice_index_or xs i d) ++ [])
    ∙ (ap (λ b. b || list_any p (f (slice_index_or xs i d) ++ [])) none
    ∙ (list_any-append p (f (slice_index_or xs i d)) [] ∙ ap (λ b. b || false) h))))

pub none_at_all : {A : Type 0} (p : A → Bool) (f : ℕ → List A) (xs : List ℕ) (i : ℕ) → length xs ≤ i → list_any p (flat_map f (take i xs)) ≡ false → false ≡ list_any p (flat_map f xs)
none_at_all p f xs i l none = sym (ap (λ ys. list_any p (flat_map f ys)) (sym (take_all i xs l)) ∙ none)

-- a path's first name leads to the scopes from which the others lead on
pub inside_first : (l : Lookups) (path : List (Vec ℕ)) (first : Vec ℕ) (given inner : List ℕ) (s : ℕ) → 1 ≤ length path → first ≡ slice_index_or path 0 first → given ≡ first.items → inner ≡ l.inside s given
    → flat_map (descend l.inside (names_seen (take (length path - 1) (drop 1 path)))) inner ≡ descend l.inside (names_seen path) s
inside_first l [] first given inner s n e f g = absurd (omega arith)
inside_first l (p ∷ ps) first given inner s n e f g =
    ap (λ rest. flat_map (descend l.inside (names_seen rest)) inner) (take_all (length (p ∷ ps) - 1) ps (omega arith))
    ∙ ap (flat_map (descend l.inside (names_seen ps))) (g ∙ ap (l.inside s) (f ∙ ap (λ (x : Vec ℕ). x.items) e))

pub below_named : (c : Circuit) (l : Lookups) (bit : Option ℤ) (net s : ℕ) (name given : List ℕ) (path given_path : List (Vec ℕ)) → given ≡ name → given_path ≡ path
    → list_any (is_source_at c given bit net) (descend l.inside (names_seen given_path) s) ≡ list_any (is_source_at c name bit net) (descend l.inside (reverse (reverse (names_seen path))) s)
below_named c l bit net s name given path given_path e f =
    ap (λ n. list_any (is_source_at c n bit net) (descend l.inside (names_seen given_path) s)) e
    ∙ ap (λ names. list_any (is_source_at c name bit net) (descend l.inside names s)) (ap names_seen f ∙ sym (reverse-reverse (names_seen path)))

-- ---- the scope below which a port is named

not_named : (b t : Bool) (up : Option ℕ) → b ≡ t → b ≡ false → None ≡ (if t then up else None)
not_named true t up e h = absurd cc
not_named false t up e h = ap (λ x. if x then up else None) e

is_named : (b t : Bool) (up : Option ℕ) → b ≡ t → b ≡ true → up ≡ (if t then up else None)
is_named true t up e h = ap (λ x. if x then up else None) e
is_named false t up e h = absurd cc

pub not_below : (c : Circuit) (s net : ℕ) (name given : List ℕ) (path : List (Vec ℕ)) (bit : Option ℤ) (b : Bool) → given ≡ name → b ≡ has net (nets_named is_input (scope_at c s).variables given bit)
    → b ≡ false → None ≡ below c s (record { names = name ∷ reverse (names_seen path); bit = bit }) net
not_below c s net name given path bit b same e h =
    not_named b (has net (nets_named is_input (scope_at c s).variables name bit)) (climb c (reverse (names_seen path)) (Some s))
    (e ∙ ap (λ n. has net (nets_named is_input (scope_at c s).variables n bit)) same) h

pub found_below : (c : Circuit) (s net : ℕ) (name given : List ℕ) (path given_path : List (Vec ℕ)) (bit : Option ℤ) (b : Bool) (up : Option ℕ) → given ≡ name
    → b ≡ has net (nets_named is_input (scope_at c s).variables given bit) → b ≡ true → given_path ≡ path → up ≡ climb c (reverse (names_seen given_path)) (Some s)
    → up ≡ below c s (record { names = name ∷ reverse (names_seen path); bit = bit }) net
found_below c s net name given path given_path bit b up same e h same_path f =
    f ∙ (ap (λ p. climb c (reverse (names_seen p)) (Some s)) same_path
    ∙ is_named b (has net (nets_named is_input (scope_at c s).variables name bit)) (climb c (reverse (names_seen path)) (Some s))
    (e ∙ ap (λ n. has net (nets_named is_input (scope_at c s).variables n bit)) same) h)
