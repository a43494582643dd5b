-- Candidates are gathered one after another.
use Rattle.std.specs.Prelude.{◌≡◌, refl, ℕ, ◌+◌, ◌<◌, ◌≤◌, All, List, [], ◌∷◌, ◌++◌, length, take, reverse, slice_index_or}
use Rattle.std.specs.Global.{Vec}
use Rattle.std.specs.List.{flat_map}
use Rattle.std.proofs.Common.{ap, sym, ◌∙◌, subst}
use Rattle.std.proofs.lemmas.List.{append-nil, take_more, take_all, flat_map_more, reverse-reverse}
use Rattle.std.proofs.lemmas.List.Elements.{All-append}
use Rattle.annotation_index.specs.Candidates.{Lookups, descend}
use Rattle.annotation_scopes.specs.Walks.{names_seen}

-- nothing was gathered yet
pub gathered-none : {X A : Type 0} (f : X → List A) (start : List A) → start ≡ start ++ flat_map f []
gathered-none f start = sym (append-nil start)

-- one more
pub gathered-more : {X A : Type 0} (f : X → List A) (start : List A) (xs : List X) (i : ℕ) (d : X) (found new : List A) → i < length xs → found ≡ start ++ flat_map f (take i xs)
    → new ≡ found ++ f (slice_index_or xs i d) → new ≡ start ++ flat_map f (take (i + 1) xs)
gathered-more f start xs i d found new l h e =
    e ∙ (ap (λ ys. ys ++ f (slice_index_or xs i d)) h ∙ (flat_map_more f start (take i xs) (slice_index_or xs i d) ∙ ap (λ ys. start ++ flat_map f ys) (sym (take_more xs i d l))))

-- all of them
pub gathered-all : {X A : Type 0} (f : X → List A) (start : List A) (xs : List X) (i : ℕ) (found : List A) → length xs ≤ i → found ≡ start ++ flat_map f (take i xs) → found ≡ start ++ flat_map f xs
gathered-all f start xs i found l h = h ∙ ap (λ ys. start ++ flat_map f ys) (take_all i xs l)

pub all-more : {A : Type 0} (P : A → Type 0) (old xs new : List A) → new ≡ old ++ xs → All P old → All P xs → All P new
all-more P old xs new e h k = subst (All P) (sym e) (All-append P old xs h k)

-- where each gives nothing, there is nothing
pub nothing-of : {X A : Type 0} (f : X → List A) (xs : List X) → ((x : X) → f x ≡ []) → flat_map f xs ≡ []
nothing-of f [] h = refl
nothing-of f (x ∷ xs) h = ap (λ ys. ys ++ flat_map f xs) (h x) ∙ nothing-of f xs h

pub same-of : {X A : Type 0} (f g : X → List A) (xs : List X) → ((x : X) → f x ≡ g x) → flat_map f xs ≡ flat_map g xs
same-of f g [] h = refl
same-of f g (x ∷ xs) h = ap (λ ys. ys ++ flat_map f xs) (h x) ∙ ap (λ ys. g x ++ ys) (same-of f g xs h)

-- what a name gives, of a copy of it, added to nothing
pub named-first : (f : List ℕ → List ℕ) (nets new old name given : List ℕ) → nets ≡ new → new ≡ old ++ f given → old ≡ [] → given ≡ name → nets ≡ f name
named-first f nets new old name given e g none same = e ∙ (g ∙ (ap (λ ks. ks ++ f given) none ∙ ap f same))

-- the names of a path are turned about twice
pub scopes_named : (l : Lookups) (given path : List (Vec ℕ)) (scopes : List ℕ) → given ≡ path
    → flat_map (descend l.inside (names_seen given)) scopes ≡ flat_map (descend l.inside (reverse (reverse (names_seen path)))) scopes
scopes_named l given path scopes e = ap (λ names. flat_map (descend l.inside names) scopes) (ap names_seen e ∙ sym (reverse-reverse (names_seen path)))
