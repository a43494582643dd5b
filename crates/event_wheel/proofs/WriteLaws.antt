-- The ends of one chain are written.
use Rattle.std.proofs.Common.{◌≡◌, ℕ, ◌<◌, List, ◌∙◌, ap, length}
use Rattle.std.specs.Prelude.{slice_index_or, slice_set}
use Rattle.std.proofs.lemmas.List.{get_or_default}
use Rattle.std.specs.declared.option.Option.{Option}
use Rattle.std.specs.declared.option.Option.TheVariants.{None}
use Rattle.event_wheel.specs.declared.chains.Ends.{Ends}
use Rattle.event_wheel.specs.Links.{ends_between, known_without}
use Rattle.event_wheel.specs.Families.{no_ends}

-- what was read at a place is what a default gives there
pub read_ends : (xs : List Ends) (i : ℕ) (e : Ends) → i < length xs → e ≡ slice_index_or xs i e → e ≡ slice_index_or xs i no_ends
read_ends xs i e l h = h ∙ get_or_default xs i e no_ends l

pub read_at : (xs : List Ends) (i j : ℕ) (e : Ends) → i ≡ j → j < length xs → e ≡ slice_index_or xs i e → e ≡ slice_index_or xs j no_ends
read_at xs i j e same l h = read_ends xs j e l (h ∙ ap (λ n. slice_index_or xs n e) same)

pub ends_joined : (xs : List Ends) (i j : ℕ) (e after : Ends) (p q f l : Option ℕ) → i ≡ j → j < length xs → e ≡ slice_index_or xs i e → after ≡ ends_between e p q f l
    → slice_set xs i after ≡ slice_set xs j (ends_between (slice_index_or xs j no_ends) p q f l)
ends_joined xs i j e after p q f l same within read is =
    let at : e ≡ slice_index_or xs j no_ends = read_at xs i j e same within read in
    ap (λ n. slice_set xs n after) same ∙ ap (slice_set xs j) (is ∙ ap (λ (x : Ends). ends_between x p q f l) at)

-- the same of keys
pub read_near : (xs : List (Option ℕ)) (i j : ℕ) (k : Option ℕ) → i ≡ j → j < length xs → k ≡ slice_index_or xs i k → k ≡ slice_index_or xs j None
read_near xs i j k same l h = h ∙ (ap (λ n. slice_index_or xs n k) same ∙ get_or_default xs j k None l)

-- a chain's ends after a change, where a link to the new node is what its key says
pub joined : (e after : Ends) (p q link key : Option ℕ) → link ≡ key → after ≡ ends_between e p q link link → after ≡ ends_between e p q key key
joined e after p q link key is h = h ∙ ap (λ (l : Option ℕ). ends_between e p q l l) is

-- where it closes a gap between two links, which are what a node says
pub closed : (e after : Ends) (p q before next : Option ℕ) → p ≡ before → q ≡ next → after ≡ ends_between e p q q p → after ≡ ends_between e before next next before
closed e after p q before next ep eq h = h ∙ (ap (λ (l : Option ℕ). ends_between e l q q l) ep ∙ ap (λ (l : Option ℕ). ends_between e before l l before) eq)

-- and a key that is known, after one was taken from between two links
pub known_between : (near p q before next : Option ℕ) (k : ℕ) → p ≡ before → q ≡ next → known_without near k p q ≡ known_without near k before next
known_between near p q before next k ep eq = ap (λ (l : Option ℕ). known_without near k l q) ep ∙ ap (λ (l : Option ℕ). known_without near k before l) eq
