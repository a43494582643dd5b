-- The numbers that are handed down are those of the homes.
use Rattle.std.specs.Prelude.{◌≡◌, ◌⊎◌, ℕ, zero, suc, ◌+◌, ◌<◌, ◌≤◌, ◌==◌, List, [], ◌∷◌, ◌++◌, Bool, true, false, Option, Some, None, map, flat_map, length, refl, if◌then◌else◌}
use Rattle.std.specs.List.{AllByRecursion, enumerate_from}
use Rattle.std.proofs.Common.{sym, ◌∙◌, ap, arith, inl, inr, subst, append_assoc, length-append, add-one}
use Rattle.std.proofs.lemmas.Bool.Decides.{nat_tests}
use Rattle.std.proofs.lemmas.Grind.{flat_map-append}
use Rattle.std.proofs.lemmas.List.Folds.{flat_map-map}
use Rattle.elab_laws.specs.Handing.{variable_bits, all_bits, numbered, new_count, given_by, given, given_at, number_at, IsHandedDown}
use Rattle.elab_laws.proofs.Lists.{In, all-in, all-weaker, all-flat_in}
use Rattle.elab_laws.proofs.Homes.{spot-same}
use Rattle.elab_laws.proofs.Apart.{AreApart, scope_of_spot, scopes-tell}
use Rattle.elab_laws.proofs.NetsApart.{number-count}
use Rattle.elab_model.specs.Bits.{Bit, net, constant, index_at, positions}
use Rattle.elab_model.specs.Hierarchy.{Step, Instance, Child, children_in, size, children_from, children_at, instances_from, instances, top_instance, levels_below_top}
use Rattle.elab_model.specs.Homes.{bit, is_same_spot, home, same_above, home_of}
use Rattle.elab_model.specs.Members.{members}
use Rattle.elab_model.specs.Names.{Variable, variables}
use Rattle.elab_model.specs.Nets.{OwnNet, bit_net, variable_nets, member_nets, nets_of, number_of, nets}
use Rattle.vl_tree.specs.Tree.{Module, Source}

-- ---- the steps above an instance have lower numbers

abbrev pub Rises : Instance → Type 0
Rises s = AllByRecursion (λ a. a.number < s.step.number) s.above

children-rise : (source : Source) (d : ℕ) (above : List Step) (k next : ℕ) → AllByRecursion (λ a. a.number < k) above → k ≤ next → (is : List Child)
    → AllByRecursion Rises (children_from source d above next is)
children-rise source d above k next h le [] = tt
children-rise source d above k next h le (i ∷ is) = (
  all-weaker (λ a. a.number < k) (λ a. a.number < next) above (λ a lt. omega arith) h,
  children-rise source d above k (next + size source d i.definition) h (omega arith) is,
)

pub instances_from-rise : (source : Source) (d : ℕ) (s : Instance) → Rises s → AllByRecursion Rises (instances_from source d s)
instances_from-rise source zero s h = (h, tt)
instances_from-rise source (suc d) s h = (
  h,
  all-flat_in Rises (instances_from source d) (children_at source (suc d) s)
      (all-weaker Rises (λ c. AllByRecursion Rises (instances_from source d c)) (children_at source (suc d) s) (instances_from-rise source d)
      (children-rise source d (s.step ∷ s.above) (suc s.step.number) (suc s.step.number)
      (omega arith, all-weaker (λ a. a.number < s.step.number) (λ a. a.number < suc s.step.number) s.above (λ a lt. omega arith) h) (omega arith) (children_in source s.step.definition))),
)

pub instances-rise : (source : Source) (top : Module) → AllByRecursion Rises (instances source top)
instances-rise source top = instances_from-rise source levels_below_top (top_instance top) tt

-- what holds of the numbers of a chain holds of a home's scope
pub home-scope : (P : ℕ → Type 0) (source : Source) (s : Step) (over : List Step) (n : List ℕ) (p : ℕ) → P s.number → AllByRecursion (λ a. P a.number) over → P (scope_of_spot (home source s over n p))
home-scope P source s [] n p h g = h
home-scope P source s (parent ∷ over) n p h g = by (same_above source s parent n p) refl (λ m q. home-scope P source parent over m q g.0 g.1)
  where
    by : (b : Option Bit) → same_above source s parent n p ≡ b → ((m : List ℕ) (q : ℕ) → P (scope_of_spot (home source parent over m q))) → P (scope_of_spot (home source s (parent ∷ over) n p))
    by None e k = rw (e, home) h
    by (Some (constant at v)) e k = rw (e, home) h
    by (Some (net m q)) e k = rw (e, home) (k m q)

-- ---- one bit: it is a new net of the instance, or it is handed down

abbrev pub the_net : Instance → Variable → ℕ → OwnNet
the_net s v p = record { spot = bit s.step.number v.name p; scope = s.step.number; name = v.name; bit = index_at v.range p }

pub record IsNew (os : List OwnNet) (source : Source) (s : Instance) (v : Variable) (p : ℕ) : Type 0 where
  pub none : given os source s.step s.above v.name p ≡ None
  pub home_is : home_of source s v.name p ≡ bit s.step.number v.name p
  pub owned : bit_net source s v p ≡ the_net s v p ∷ []

pub record IsHanded (os : List OwnNet) (source : Source) (s : Instance) (v : Variable) (p : ℕ) : Type 0 where
  pub some : given os source s.step s.above v.name p ≡ Some (number_of os (home_of source s v.name p))
  pub not_owned : bit_net source s v p ≡ []

owned-if : (source : Source) (s : Instance) (v : Variable) (p : ℕ) (b : Bool) → is_same_spot (home_of source s v.name p) (bit s.step.number v.name p) ≡ b
    → bit_net source s v p ≡ (if b then the_net s v p ∷ [] else [])
owned-if source s v p b e = ap (λ b. if b then the_net s v p ∷ [] else []) e

new-bit : (os : List OwnNet) (source : Source) (s : Instance) (v : Variable) (p : ℕ) → given os source s.step s.above v.name p ≡ None
    → home_of source s v.name p ≡ bit s.step.number v.name p → IsNew os source s v p
new-bit os source s v p g h = record {
  none = g;
  home_is = h;
  owned = owned-if source s v p true (ap (λ a. is_same_spot a (bit s.step.number v.name p)) h ∙ spot-same (bit s.step.number v.name p));
}

pub one-bit : (os : List OwnNet) (source : Source) (step : Step) (above : List Step) (v : Variable) (p : ℕ) → AllByRecursion (λ a. a.number < step.number) above
    → IsNew os source (record { step = step; above = above }) v p ⊎ IsHanded os source (record { step = step; above = above }) v p
one-bit os source s [] v p h = inl (new-bit os source (record { step = s; above = [] }) v p refl refl)
one-bit os source s (parent ∷ over) v p h = by (same_above source s parent v.name p) refl
  where
    the : Instance
    the = record { step = s; above = parent ∷ over }

    by : (b : Option Bit) → same_above source s parent v.name p ≡ b → IsNew os source (record { step = s; above = parent ∷ over }) v p ⊎ IsHanded os source (record { step = s; above = parent ∷ over }) v p
    by None e = inl (new-bit os source (record { step = s; above = parent ∷ over }) v p (ap (given_by (λ m q. number_of os (home source parent over m q))) e) (rw (e, home) refl))
    by (Some (constant at w)) e = inl (new-bit os source (record { step = s; above = parent ∷ over }) v p (ap (given_by (λ m q. number_of os (home source parent over m q))) e) (rw (e, home) refl))
    by (Some (net m q)) e =
        let here : home source s (parent ∷ over) v.name p ≡ home source parent over m q = rw (e, home) refl in
        let lt : scope_of_spot (home source parent over m q) < s.number = home-scope (λ k. k < s.number) source parent over m q h.0 h.1 in
        let other : (scope_of_spot (home source parent over m q) == s.number) ≡ false = grind (arith, nat_tests) in
        let not : is_same_spot (home source s (parent ∷ over) v.name p) (bit s.number v.name p) ≡ false =
        ap (λ a. is_same_spot a (bit s.number v.name p)) here ∙ scopes-tell (home source parent over m q) (bit s.number v.name p) other in
        inr (record {
          some = ap (given_by (λ m q. number_of os (home source parent over m q))) e ∙ ap (λ a. Some (number_of os a)) (sym here);
          not_owned = owned-if source (record { step = s; above = parent ∷ over }) v p false not;
        })

-- ---- all bits

abbrev pub owned_at : Source → Instance → Variable × ℕ → List OwnNet
owned_at source s b = bit_net source s b.0 b.1

pub variable_nets-bits : (source : Source) (s : Instance) (vs : List Variable)
    → flat_map (λ v. flat_map (bit_net source s v) (positions v.range)) vs ≡ flat_map (owned_at source s) (all_bits vs)
variable_nets-bits source s [] = refl
variable_nets-bits source s (v ∷ vs) =
    ap (λ xs. flat_map (bit_net source s v) (positions v.range) ++ xs) (variable_nets-bits source s vs)
    ∙ ap (λ xs. xs ++ flat_map (owned_at source s) (all_bits vs)) (sym (flat_map-map (owned_at source s) (λ p. (v, p)) (positions v.range)))
    ∙ sym (flat_map-append (owned_at source s) (variable_bits v) (all_bits vs))

pub bits-numbered : (os : List OwnNet) (source : Source) (s : Instance) → AreApart os → Rises s → (bs : List (Variable × ℕ)) (before after : List OwnNet) (next : ℕ)
    → os ≡ before ++ (flat_map (owned_at source s) bs ++ after) → next ≡ length before
    → map (number_at os source s) bs ≡ numbered next (map (given_at os source s) bs)
bits-numbered os source s apart rises [] before after next e n = refl
bits-numbered os source s apart rises (b ∷ bs) before after next e n =
    elim (one-bit os source s.step s.above b.0 b.1 rises) [
      | inl r ↦ new r (λ before next e n. bits-numbered os source s apart rises bs before after next e n)
      | inr r ↦ handed r (λ before next e n. bits-numbered os source s apart rises bs before after next e n)
    ]
  where
    Rest : Type 0
    Rest = (before : List OwnNet) (next : ℕ) → os ≡ before ++ (flat_map (owned_at source s) bs ++ after) → next ≡ length before → map (number_at os source s) bs ≡ numbered next (map (given_at os source s) bs)

    new : IsNew os source s b.0 b.1 → ((before : List OwnNet) (next : ℕ) → os ≡ before ++ (flat_map (owned_at source s) bs ++ after) → next ≡ length before → map (number_at os source s) bs ≡ numbered next (map (given_at os source s) bs))
        → map (number_at os source s) (b ∷ bs) ≡ numbered next (map (given_at os source s) (b ∷ bs))
    new r rest =
        let o = the_net s b.0 b.1 in
        let f : os ≡ before ++ (o ∷ (flat_map (owned_at source s) bs ++ after)) = e ∙ ap (λ xs. before ++ ((xs ++ flat_map (owned_at source s) bs) ++ after)) r.owned in
        let g : os ≡ (before ++ o ∷ []) ++ (flat_map (owned_at source s) bs ++ after) = f ∙ sym (append_assoc before (o ∷ []) (flat_map (owned_at source s) bs ++ after)) in
        let l : suc next ≡ length (before ++ o ∷ []) = ap suc n ∙ sym (add-one (length before)) ∙ sym (length-append before (o ∷ [])) in
        let k : number_of os (bit s.step.number b.0.name b.1) ≡ next = ap (λ xs. number_of xs (bit s.step.number b.0.name b.1)) f ∙ number-count before o (flat_map (owned_at source s) bs ++ after) (subst AreApart f apart) ∙ sym n in
        let here : number_at os source s b ≡ next = ap (number_of os) r.home_is ∙ k in
        rw (r.none, here) (ap (λ xs. next ∷ xs) (rest (before ++ o ∷ []) (suc next) g l))

    handed : IsHanded os source s b.0 b.1 → ((before : List OwnNet) (next : ℕ) → os ≡ before ++ (flat_map (owned_at source s) bs ++ after) → next ≡ length before → map (number_at os source s) bs ≡ numbered next (map (given_at os source s) bs))
        → map (number_at os source s) (b ∷ bs) ≡ numbered next (map (given_at os source s) (b ∷ bs))
    handed r rest =
        let f : os ≡ before ++ (flat_map (owned_at source s) bs ++ after) = e ∙ ap (λ xs. before ++ ((xs ++ flat_map (owned_at source s) bs) ++ after)) r.not_owned in
        rw r.some (ap (λ xs. number_at os source s b ∷ xs) (rest before next f n))

-- as many bits take a new number as there are nets of the instance's own
pub bits-counted : (os : List OwnNet) (source : Source) (s : Instance) → Rises s → (bs : List (Variable × ℕ)) → new_count (map (given_at os source s) bs) ≡ length (flat_map (owned_at source s) bs)
bits-counted os source s rises [] = refl
bits-counted os source s rises (b ∷ bs) =
    elim (one-bit os source s.step s.above b.0 b.1 rises) [
      | inl r ↦ rw (r.none, r.owned) (ap suc (bits-counted os source s rises bs))
      | inr r ↦ rw (r.some, r.not_owned) (bits-counted os source s rises bs)
    ]

pub handed-down : (source : Source) (top : Module) (pre post : List Instance) (s : Instance) → AreApart (nets source top) → instances source top ≡ pre ++ s ∷ post
    → IsHandedDown source top s (length (flat_map (nets_of source) pre))
handed-down source top pre post s apart e =
    let vs = variables s.step.definition in
    let rises : Rises s = all-in Rises s (instances source top) (instances-rise source top) (subst (In s) (sym e) (there pre)) in
    let rest = flat_map (member_nets source s) (enumerate_from 0 (members s.step.definition)) ++ flat_map (nets_of source) post in
    let v : variable_nets source s ≡ flat_map (owned_at source s) (all_bits vs) = variable_nets-bits source s vs in
    let f : nets source top ≡ flat_map (nets_of source) pre ++ (flat_map (owned_at source s) (all_bits vs) ++ rest) =
    ap (flat_map (nets_of source)) e ∙ flat_map-append (nets_of source) pre (s ∷ post)
    ∙ ap (λ xs. flat_map (nets_of source) pre ++ xs) (append_assoc (variable_nets source s) (flat_map (member_nets source s) (enumerate_from 0 (members s.step.definition))) (flat_map (nets_of source) post) ∙ ap (λ xs. xs ++ rest) v) in
    record {
      numbers = bits-numbered (nets source top) source s apart rises (all_bits vs) (flat_map (nets_of source) pre) rest (length (flat_map (nets_of source) pre)) f refl;
      count = bits-counted (nets source top) source s rises (all_bits vs) ∙ ap length (sym v);
    }
  where
    there : (xs : List Instance) → In s (xs ++ s ∷ post)
    there [] = inl refl
    there (x ∷ xs) = inr (there xs)
