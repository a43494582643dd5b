-- The bits to which specify paths lead: each once, where it stands first.
use Rattle.std.specs.Prelude.{◌≡◌, ℕ, zero, suc, ◌+◌, ◌==◌, List, [], ◌∷◌, ◌++◌, Bool, true, false, find, flat_map, map, take, drop, refl, if◌then◌else◌, bytes_eq}
use Rattle.std.specs.List.{AllByRecursion, enumerate_from, list_any}
use Rattle.std.proofs.Common.{sym, ◌∙◌, ap, subst, append-nil, take-append-drop}
use Rattle.std.proofs.lemmas.Bool.{eq-eqb, eqb-true}
use Rattle.std.proofs.lemmas.List.{map-id}
use Rattle.std.proofs.lemmas.Slice.Eq.{bytes_eq-Decides}
use Rattle.vl_tree.specs.Tree.{Module}
use Rattle.elab_model.specs.Ends.{ends, all_ends, first_bits, first_ends, path_ends}
use Rattle.elab_model.specs.Members.{Member, members}
use Rattle.elab_model.specs.Terms.{NetBit, is_same_bit}
use Rattle.elab_laws.proofs.Firsts.{and-both, firsts, AreTold, told-turned, told-in, in-told, HaveSameKeys, firsts-unseen, firsts-apart, in-firsts, key-in_firsts, firsts-same, firsts-append, find-firsts, firsts-between}
use Rattle.elab_laws.proofs.Lists.{In, flat-same, Pairwise}

-- bits are the same exactly where they are equal
pub bits-decide : (b c : NetBit) → is_same_bit b c ≡ true → b ≡ c
bits-decide b c h = by (and-both (bytes_eq b.name c.name) (b.position == c.position) h)
  where
    by : (bytes_eq b.name c.name ≡ true) × ((b.position == c.position) ≡ true) → b ≡ c
    by t =
        let n : b.name ≡ c.name = (bytes_eq-Decides b.name c.name).0 t.0 in
        let p : b.position ≡ c.position = eqb-true b.position c.position t.1 in
        λ i. record { name = n i; position = p i }

pub bit-same : (b : NetBit) → is_same_bit b b ≡ true
bit-same b = rw ((bytes_eq-Decides b.name b.name).1 refl, eq-eqb b.position b.position refl) refl

pub same-bit : (b c : NetBit) → b ≡ c → is_same_bit b c ≡ true
same-bit b c e = ap (is_same_bit b) (sym e) ∙ bit-same b

pub bits-told : AreTold is_same_bit
bits-told b c = (bits-decide b c, same-bit b c)

pub bits-turned : (b c : NetBit) → is_same_bit b c ≡ is_same_bit c b
bits-turned b c = told-turned is_same_bit bits-told b c

-- a bit is the same as one of a list exactly where it is one of them
abbrev pub is_one_of : NetBit → List NetBit → Bool
is_one_of b bs = list_any (is_same_bit b) bs

pub one-of_in : (b : NetBit) (bs : List NetBit) → In b bs → is_one_of b bs ≡ true
one-of_in b bs h = told-in is_same_bit bits-told b bs h

pub in-one_of : (b : NetBit) (bs : List NetBit) → is_one_of b bs ≡ true → In b bs
in-one_of b bs h = in-told is_same_bit bits-told b bs h

-- ---- each bit once

abbrev itself : NetBit → NetBit
itself b = b

pub first_bits-are : (seen bs : List NetBit) → first_bits seen bs ≡ firsts is_same_bit itself seen bs
first_bits-are seen [] = refl
first_bits-are seen (b ∷ bs) =
    ap (λ cs. if is_one_of b seen then cs else b ∷ first_bits (b ∷ seen) bs) (first_bits-are seen bs)
    ∙ ap (λ cs. if is_one_of b seen then firsts is_same_bit itself seen bs else b ∷ cs) (first_bits-are (b ∷ seen) bs)

-- each is none of those seen
abbrev pub IsUnseen : List NetBit → NetBit → Type 0
IsUnseen seen b = is_one_of b seen ≡ false

pub first_bits-unseen : (seen bs : List NetBit) → AllByRecursion (IsUnseen seen) (first_bits seen bs)
first_bits-unseen seen bs = subst (AllByRecursion (IsUnseen seen)) (sym (first_bits-are seen bs)) (firsts-unseen is_same_bit itself seen bs)

-- and none stands twice
abbrev pub AreOtherBits : NetBit → NetBit → Type 0
AreOtherBits b c = is_same_bit b c ≡ false

pub first_bits-apart : (seen bs : List NetBit) → Pairwise AreOtherBits (first_bits seen bs)
first_bits-apart seen bs = subst (Pairwise AreOtherBits) (sym (first_bits-are seen bs)) (firsts-apart is_same_bit bits-told itself seen bs)

-- each is a bit of the list
pub in-bits : (b : NetBit) (seen bs : List NetBit) → In b (first_bits seen bs) → In b bs
in-bits b seen bs h = in-firsts is_same_bit itself b seen bs (subst (In b) (first_bits-are seen bs) h)

-- and each bit of the list is one, but for those seen
pub in-first_bits : (b : NetBit) (seen bs : List NetBit) → In b bs → is_one_of b seen ≡ false → In b (first_bits seen bs)
in-first_bits b seen bs h n =
    let k = key-in_firsts is_same_bit bits-told itself b seen bs (subst (In b) (sym (map-id bs)) h) n in
    subst (In b) (sym (first_bits-are seen bs)) (subst (In b) (map-id (firsts is_same_bit itself seen bs)) k)

-- what was seen matters by its bits alone
pub first_bits-same : (xs ys bs : List NetBit) → HaveSameKeys is_same_bit xs ys → first_bits xs bs ≡ first_bits ys bs
first_bits-same xs ys bs h = first_bits-are xs bs ∙ firsts-same is_same_bit itself xs ys bs h ∙ sym (first_bits-are ys bs)

pub first_bits-append : (seen xs ys : List NetBit) → first_bits seen (xs ++ ys) ≡ first_bits seen xs ++ first_bits (seen ++ xs) ys
first_bits-append seen xs ys =
    first_bits-are seen (xs ++ ys)
    ∙ firsts-append is_same_bit bits-told itself seen xs ys
    ∙ ap (λ zs. zs ++ firsts is_same_bit itself (seen ++ map itself xs) ys) (sym (first_bits-are seen xs))
    ∙ ap (λ zs. first_bits seen xs ++ zs) (sym (first_bits-are (seen ++ map itself xs) ys))
    ∙ ap (λ zs. first_bits seen xs ++ first_bits (seen ++ zs) ys) (map-id xs)

-- what is found among the bits is found among the first
pub find-first_bits : (p : NetBit → Bool) (seen bs : List NetBit) → list_any p seen ≡ false → find p (first_bits seen bs) ≡ find p bs
find-first_bits p seen bs n = ap (find p) (first_bits-are seen bs) ∙ find-firsts is_same_bit bits-told itself p seen bs n

-- ---- the members of a module

pub enumerate-take : {A : Type 0} (a k : ℕ) (xs : List A) → take k (enumerate_from a xs) ≡ enumerate_from a (take k xs)
enumerate-take a zero [] = refl
enumerate-take a zero (x ∷ xs) = refl
enumerate-take a (suc k) [] = refl
enumerate-take a (suc k) (x ∷ xs) = ap (λ ys. (a, x) ∷ ys) (enumerate-take (a + 1) k xs)

-- of the first members, and of all
pub ends-front : (m : Module) (some after : List Member) → members m ≡ some ++ after → flat_map (first_ends m) (enumerate_from 0 some) ≡ first_bits [] (flat_map (ends m) some)
ends-front m some after e =
    ap (λ ms. flat_map (λ x. first_bits (flat_map (ends m) (take x.0 ms)) (ends m x.1)) (enumerate_from 0 some)) e
    ∙ flat-same (λ x. first_bits (flat_map (ends m) (take x.0 (some ++ after))) (ends m x.1)) (λ x. firsts is_same_bit itself (map itself (flat_map (ends m) (take x.0 (some ++ after)))) (ends m x.1)) (enumerate_from 0 some)
    (λ x. first_bits-are (flat_map (ends m) (take x.0 (some ++ after))) (ends m x.1) ∙ ap (λ seen. firsts is_same_bit itself seen (ends m x.1)) (sym (map-id (flat_map (ends m) (take x.0 (some ++ after))))))
    ∙ firsts-between is_same_bit bits-told itself (ends m) [] some after
    ∙ sym (first_bits-are [] (flat_map (ends m) some))

pub ends-taken : (m : Module) (k : ℕ) → flat_map (first_ends m) (take k (enumerate_from 0 (members m))) ≡ first_bits [] (flat_map (ends m) (take k (members m)))
ends-taken m k = ap (flat_map (first_ends m)) (enumerate-take 0 k (members m)) ∙ ends-front m (take k (members m)) (drop k (members m)) (sym (take-append-drop k (members m)))

pub path_ends-first : (m : Module) → path_ends m ≡ first_bits [] (all_ends m)
path_ends-first m = ends-front m (members m) [] (sym (append-nil (members m)))

-- no bit stands twice among them
pub path_ends-apart : (m : Module) → Pairwise AreOtherBits (path_ends m)
path_ends-apart m = subst (Pairwise AreOtherBits) (sym (path_ends-first m)) (first_bits-apart [] (all_ends m))

-- each bit with paths is one of them, and they are bits with paths
pub in-path_ends : (m : Module) (b : NetBit) → In b (all_ends m) → In b (path_ends m)
in-path_ends m b h = subst (In b) (sym (path_ends-first m)) (in-first_bits b [] (all_ends m) h refl)

pub in-all_ends : (m : Module) (b : NetBit) → In b (path_ends m) → In b (all_ends m)
in-all_ends m b h = in-bits b [] (all_ends m) (subst (In b) (path_ends-first m) h)

-- and what is found among the ones is found among the others
pub find-path_ends : (m : Module) (p : NetBit → Bool) → find p (path_ends m) ≡ find p (all_ends m)
find-path_ends m p = ap (find p) (path_ends-first m) ∙ find-first_bits p [] (all_ends m) refl
