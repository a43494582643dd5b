-- The delayed copies of a module's signals: each once, where it stands first.
use Rattle.std.specs.Prelude.{◌≡◌, ℕ, List, [], ◌∷◌, ◌++◌, true, false, Option, Some, None, flat_map, map, take, drop, refl, if◌then◌else◌}
use Rattle.std.specs.List.{enumerate_from, list_any}
use Rattle.std.proofs.Common.{sym, ◌∙◌, ap, subst, append-nil, take-append-drop}
use Rattle.sg_text.specs.declared.places.Place.{Place}
use Rattle.vl_tree.specs.Tree.{Module}
use Rattle.elab_model.specs.Lates.{DelayedCopy, is_same_name, is_same_copy, copies, first_copies, own_copies, module_copies}
use Rattle.elab_model.specs.Members.{Member, members}
use Rattle.elab_model.specs.Names.{variables}
use Rattle.elab_model.specs.Terms.{NetBit, is_same_bit}
use Rattle.elab_laws.proofs.Ends.{bits-decide, bit-same, enumerate-take}
use Rattle.elab_laws.proofs.Firsts.{and-both, firsts, AreTold, told-turned, HaveSameKeys, firsts-apart, in-firsts, key-in_firsts, firsts-same, firsts-append, firsts-between}
use Rattle.elab_laws.proofs.Lists.{In, flat-same, Pairwise}

-- copies are the same exactly where they are equal
names-decide : (a b : Option NetBit) → is_same_name a b ≡ true → a ≡ b
names-decide None None h = refl
names-decide None (Some c) h = cc
names-decide (Some b) None h = cc
names-decide (Some b) (Some c) h = ap (λ d. Some d) (bits-decide b c h)

name-same : (a : Option NetBit) → is_same_name a a ≡ true
name-same None = refl
name-same (Some b) = bit-same b

pub copies-decide : (c d : DelayedCopy) → is_same_copy c d ≡ true → c ≡ d
copies-decide c d h = by (and-both (is_same_bit c.signal d.signal) (is_same_name c.named d.named) h)
  where
    by : (is_same_bit c.signal d.signal ≡ true) × (is_same_name c.named d.named ≡ true) → c ≡ d
    by t =
        let s : c.signal ≡ d.signal = bits-decide c.signal d.signal t.0 in
        let n : c.named ≡ d.named = names-decide c.named d.named t.1 in
        λ i. record { signal = s i; named = n i }

pub copy-same : (c : DelayedCopy) → is_same_copy c c ≡ true
copy-same c = rw (bit-same c.signal, name-same c.named) refl

pub copies-told : AreTold is_same_copy
copies-told c d = (copies-decide c d, λ e. ap (is_same_copy c) (sym e) ∙ copy-same c)

pub copies-turned : (c d : DelayedCopy) → is_same_copy c d ≡ is_same_copy d c
copies-turned c d = told-turned is_same_copy copies-told c d

-- a copy without the place that says it
abbrev pub copy_of : Place × DelayedCopy → DelayedCopy
copy_of c = c.1

-- ---- each copy once

pub first_copies-are : (seen : List DelayedCopy) (cs : List (Place × DelayedCopy)) → first_copies seen cs ≡ firsts is_same_copy copy_of seen cs
first_copies-are seen [] = refl
first_copies-are seen (c ∷ cs) =
    ap (λ ds. if list_any (is_same_copy c.1) seen then ds else c ∷ first_copies (c.1 ∷ seen) cs) (first_copies-are seen cs)
    ∙ ap (λ ds. if list_any (is_same_copy c.1) seen then firsts is_same_copy copy_of seen cs else c ∷ ds) (first_copies-are (c.1 ∷ seen) cs)

-- none stands twice
abbrev pub AreOtherCopies : Place × DelayedCopy → Place × DelayedCopy → Type 0
AreOtherCopies c d = is_same_copy c.1 d.1 ≡ false

pub first_copies-apart : (seen : List DelayedCopy) (cs : List (Place × DelayedCopy)) → Pairwise AreOtherCopies (first_copies seen cs)
first_copies-apart seen cs = subst (Pairwise AreOtherCopies) (sym (first_copies-are seen cs)) (firsts-apart is_same_copy copies-told copy_of seen cs)

-- each is one of the list
pub in-copies : (c : Place × DelayedCopy) (seen : List DelayedCopy) (cs : List (Place × DelayedCopy)) → In c (first_copies seen cs) → In c cs
in-copies c seen cs h = in-firsts is_same_copy copy_of c seen cs (subst (In c) (first_copies-are seen cs) h)

-- and each copy of the list is one, but for those seen
pub in-first_copies : (c : DelayedCopy) (seen : List DelayedCopy) (cs : List (Place × DelayedCopy)) → In c (map copy_of cs) → list_any (is_same_copy c) seen ≡ false
    → In c (map copy_of (first_copies seen cs))
in-first_copies c seen cs h n =
    subst (λ ds. In c (map copy_of ds)) (sym (first_copies-are seen cs)) (key-in_firsts is_same_copy copies-told copy_of c seen cs h n)

-- what was seen matters by its copies alone
pub first_copies-same : (xs ys : List DelayedCopy) (cs : List (Place × DelayedCopy)) → HaveSameKeys is_same_copy xs ys → first_copies xs cs ≡ first_copies ys cs
first_copies-same xs ys cs h = first_copies-are xs cs ∙ firsts-same is_same_copy copy_of xs ys cs h ∙ sym (first_copies-are ys cs)

pub first_copies-append : (seen : List DelayedCopy) (xs ys : List (Place × DelayedCopy))
    → first_copies seen (xs ++ ys) ≡ first_copies seen xs ++ first_copies (seen ++ map (λ c. c.1) xs) ys
first_copies-append seen xs ys =
    first_copies-are seen (xs ++ ys)
    ∙ firsts-append is_same_copy copies-told copy_of seen xs ys
    ∙ ap (λ zs. zs ++ firsts is_same_copy copy_of (seen ++ map copy_of xs) ys) (sym (first_copies-are seen xs))
    ∙ ap (λ zs. first_copies seen xs ++ zs) (sym (first_copies-are (seen ++ map copy_of xs) ys))

-- ---- the members of a module

-- all copies that members ask for
abbrev pub copies_in : Module → Member → List (Place × DelayedCopy)
copies_in m x = copies (variables m) x

abbrev pub all_copies : Module → List (Place × DelayedCopy)
all_copies m = flat_map (copies_in m) (members m)

-- of the first members, and of all
pub copies-front : (m : Module) (some after : List Member) → members m ≡ some ++ after → flat_map (own_copies m) (enumerate_from 0 some) ≡ first_copies [] (flat_map (copies_in m) some)
copies-front m some after e =
    ap (λ ms. flat_map (λ x. first_copies (map copy_of (flat_map (copies_in m) (take x.0 ms))) (copies_in m x.1)) (enumerate_from 0 some)) e
    ∙ flat-same (λ x. first_copies (seen x.0) (copies_in m x.1)) (λ x. firsts is_same_copy copy_of (seen x.0) (copies_in m x.1)) (enumerate_from 0 some) (λ x. first_copies-are (seen x.0) (copies_in m x.1))
    ∙ firsts-between is_same_copy copies-told copy_of (copies_in m) [] some after
    ∙ sym (first_copies-are [] (flat_map (copies_in m) some))
  where
    seen : ℕ → List DelayedCopy
    seen k = map copy_of (flat_map (copies_in m) (take k (some ++ after)))

pub copies-taken : (m : Module) (k : ℕ) → flat_map (own_copies m) (take k (enumerate_from 0 (members m))) ≡ first_copies [] (flat_map (copies_in m) (take k (members m)))
copies-taken m k = ap (flat_map (own_copies m)) (enumerate-take 0 k (members m)) ∙ copies-front m (take k (members m)) (drop k (members m)) (sym (take-append-drop k (members m)))

pub module_copies-first : (m : Module) → module_copies m ≡ first_copies [] (all_copies m)
module_copies-first m = copies-front m (members m) [] (sym (append-nil (members m)))

-- no copy stands twice among them
pub module_copies-apart : (m : Module) → Pairwise AreOtherCopies (module_copies m)
module_copies-apart m = subst (Pairwise AreOtherCopies) (sym (module_copies-first m)) (first_copies-apart [] (all_copies m))

-- each copy that a member asks for is one of them, and they are such copies
pub in-module_copies : (m : Module) (c : DelayedCopy) → In c (map copy_of (all_copies m)) → In c (map copy_of (module_copies m))
in-module_copies m c h = subst (λ cs. In c (map copy_of cs)) (sym (module_copies-first m)) (in-first_copies c [] (all_copies m) h refl)

pub in-all_copies : (m : Module) (c : Place × DelayedCopy) → In c (module_copies m) → In c (all_copies m)
in-all_copies m c h = in-copies c [] (all_copies m) (subst (In c) (module_copies-first m) h)
