-- The numbers that a variable's bits are given are those of the bits that it is bound to.
use Rattle.std.specs.Prelude.{◌≡◌, ℕ, zero, suc, ◌+◌, List, [], ◌∷◌, ◌++◌, Bool, true, false, Option, Some, None, map, flat_map, length, slice_get, replicate, refl, if◌then◌else◌}
use Rattle.std.specs.List.{AllByRecursion, range_with_len}
use Rattle.std.specs.Option.{option_map, option_and_then}
use Rattle.std.proofs.Common.{sym, ◌∙◌, ap, arith, add-zero}
use Rattle.std.proofs.lemmas.List.{map-append}
use Rattle.elab_laws.specs.Handing.{variable_bits, all_bits, given_by, given_at}
use Rattle.elab_laws.specs.Given.{number_of_bit, bound_bits, given_bits, IsAsWide}
use Rattle.elab_model.specs.Bits.{bits, positions}
use Rattle.elab_model.specs.Connections.{connection_at}
use Rattle.elab_model.specs.Hierarchy.{Step}
use Rattle.elab_model.specs.Homes.{home, is_shared}
use Rattle.elab_model.specs.Names.{Variable, variables}
use Rattle.elab_model.specs.Nets.{OwnNet, number_of}
use Rattle.elab_model.specs.Ports.{port_list}
use Rattle.sg_circuit.specs.Closed.{width_of}
use Rattle.vl_tree.specs.Tree.{Expression, Source}

-- over all places of a list
by-places : {A B : Type 0} (f : ℕ → B) (g : A → B) (a : ℕ) (xs : List A) → ((j : ℕ) (x : A) → slice_get xs j ≡ Some x → f (a + j) ≡ g x) → map f (range_with_len a (length xs)) ≡ map g xs
by-places f g a [] h = refl
by-places f g a (x ∷ xs) h =
    let e : f a ≡ g x = ap f (sym (add-zero a)) ∙ h 0 x refl in
    rw e (ap (λ ys. g x ∷ ys) (by-places f g (a + 1) xs (λ j y k. let s : (a + 1) + j ≡ a + suc j = omega arith in ap f s ∙ h (suc j) y k)))

all-none : (f : ℕ → Option ℕ) (a n : ℕ) → ((p : ℕ) → f p ≡ None) → map f (range_with_len a n) ≡ replicate n None
all-none f a zero h = refl
all-none f a (suc n) h = rw (h a) (ap (λ ys. None ∷ ys) (all-none f (a + 1) n h))

map-map : {A B C : Type 0} (g : B → C) (f : A → B) (xs : List A) → map g (map f xs) ≡ map (λ x. g (f x)) xs
map-map g f [] = refl
map-map g f (x ∷ xs) = ap (λ ys. g (f x) ∷ ys) (map-map g f xs)

bound-given : (number : List ℕ → ℕ → ℕ) (vs : List Variable) (w : ℕ) (o : Option Expression) → IsAsWide w (option_map (λ e. bits vs e) o)
    → map (λ p. given_by number (option_and_then (λ e. slice_get (bits vs e) p) o)) (range_with_len 0 w) ≡ given_bits number w (option_map (λ e. bits vs e) o)
bound-given number vs w None h = all-none (λ p. None) 0 w (λ p. refl)
bound-given number vs w (Some e) h =
    ap (λ n. map (λ p. given_by number (slice_get (bits vs e) p)) (range_with_len 0 n)) (sym h)
    ∙ by-places (λ p. given_by number (slice_get (bits vs e) p)) (number_of_bit number) 0 (bits vs e)
    (λ j x k. let z : 0 + j ≡ j = omega arith in ap (λ i. given_by number (slice_get (bits vs e) i)) z ∙ ap (given_by number) k)

given-if : (number : List ℕ → ℕ → ℕ) (vs : List Variable) (w : ℕ) (b : Bool) (o : Option Expression) → IsAsWide w (if b then option_map (λ e. bits vs e) o else None)
    → map (λ p. given_by number (if b then option_and_then (λ e. slice_get (bits vs e) p) o else None)) (range_with_len 0 w)
    ≡ given_bits number w (if b then option_map (λ e. bits vs e) o else None)
given-if number vs w true o h = bound-given number vs w o h
given-if number vs w false o h = all-none (λ p. None) 0 w (λ p. refl)

-- one variable of an instance below the top
pub variable-given : (os : List OwnNet) (source : Source) (s parent : Step) (over : List Step) (v : Variable) → IsAsWide (width_of v.range) (bound_bits source s parent v.name)
    → map (given_at os source (record { step = s; above = parent ∷ over })) (variable_bits v)
    ≡ given_bits (λ m q. number_of os (home source parent over m q)) (width_of v.range) (bound_bits source s parent v.name)
variable-given os source s parent over v h =
    map-map (given_at os source (record { step = s; above = parent ∷ over })) (λ p. (v, p)) (positions v.range)
    ∙ given-if (λ m q. number_of os (home source parent over m q)) (variables parent.definition) (width_of v.range) (is_shared source s v.name) (connection_at s.connections (port_list s.definition) v.name) h

-- all variables
pub all-given : (os : List OwnNet) (source : Source) (s parent : Step) (over : List Step) (vs : List Variable) → AllByRecursion (λ v. IsAsWide (width_of v.range) (bound_bits source s parent v.name)) vs
    → map (given_at os source (record { step = s; above = parent ∷ over })) (all_bits vs)
    ≡ flat_map (λ v. given_bits (λ m q. number_of os (home source parent over m q)) (width_of v.range) (bound_bits source s parent v.name)) vs
all-given os source s parent over [] h = refl
all-given os source s parent over (v ∷ vs) h =
    map-append (given_at os source (record { step = s; above = parent ∷ over })) (variable_bits v) (all_bits vs)
    ∙ ap (λ xs. xs ++ map (given_at os source (record { step = s; above = parent ∷ over })) (all_bits vs)) (variable-given os source s parent over v h.0)
    ∙ ap (λ xs. given_bits (λ m q. number_of os (home source parent over m q)) (width_of v.range) (bound_bits source s parent v.name) ++ xs) (all-given os source s parent over vs h.1)
