-- The nets of a member have the next numbers, in order.
use Rattle.std.specs.Prelude.{◌≡◌, ℕ, ◌+◌, List, [], ◌∷◌, ◌++◌, map, flat_map, length, refl}
use Rattle.std.specs.List.{enumerate_from, range_with_len}
use Rattle.std.proofs.Common.{sym, ◌∙◌, ap, append_assoc, length-append}
use Rattle.std.proofs.lemmas.Grind.{flat_map-append}
use Rattle.vl_tree.specs.Tree.{Module, Source}
use Rattle.elab_model.specs.Hierarchy.{Instance, instances}
use Rattle.elab_model.specs.Members.{Member, members}
use Rattle.elab_model.specs.Nets.{nets, nets_of, variable_nets, member_nets, number_of}
use Rattle.elab_laws.proofs.Drivers.{numbers-in_order}
use Rattle.elab_laws.proofs.NoFaults.{nets-apart_each}
use Rattle.elab_laws.specs.NumberLaws.{nets_before, MemberNetsHavePlaces}

-- the first part of a list that is numbered in order
front-numbered : {A : Type 0} (f : A → ℕ) (a : ℕ) (xs ys : List A) → map f (xs ++ ys) ≡ range_with_len a (length (xs ++ ys)) → map f xs ≡ range_with_len a (length xs)
front-numbered f a [] ys e = refl
front-numbered f a (x ∷ xs) ys e =
    let head : f x ≡ a = ap (first a) e in
    let tail : map f (xs ++ ys) ≡ range_with_len (a + 1) (length (xs ++ ys)) = ap rest e in
    rw head (ap (λ ns. a ∷ ns) (front-numbered f (a + 1) xs ys tail))
  where
    first : ℕ → List ℕ → ℕ
    first d [] = d
    first d (n ∷ ns) = n

    rest : List ℕ → List ℕ
    rest [] = []
    rest (n ∷ ns) = ns

-- the nets before a member's, and those behind
pub nets-split : (source : Source) (top : Module) (before after : List Instance) (s : Instance) (ms ns : List (ℕ × Member)) (x : ℕ × Member)
    → instances source top ≡ before ++ s ∷ after → enumerate_from 0 (members s.step.definition) ≡ ms ++ x ∷ ns
    → nets source top
    ≡ (flat_map (nets_of source) before ++ (variable_nets source s ++ flat_map (member_nets source s) ms)) ++ (member_nets source s x ++ (flat_map (member_nets source s) ns ++ flat_map (nets_of source) after))
nets-split source top before after s ms ns x e g =
    let f = nets_of source in
    let h = member_nets source s in
    let v = variable_nets source s in
    let b = flat_map f before in
    let r = flat_map f after in
    let own : nets_of source s ≡ v ++ (flat_map h ms ++ (h x ++ flat_map h ns)) = ap (λ xs. v ++ flat_map h xs) g ∙ ap (λ xs. v ++ xs) (flat_map-append h ms (x ∷ ns)) in
    ap (flat_map f) e ∙ flat_map-append f before (s ∷ after) ∙ ap (λ xs. b ++ (xs ++ r)) own
    ∙ ap (λ xs. b ++ xs) (append_assoc v (flat_map h ms ++ (h x ++ flat_map h ns)) r)
    ∙ ap (λ xs. b ++ (v ++ xs)) (append_assoc (flat_map h ms) (h x ++ flat_map h ns) r)
    ∙ ap (λ xs. b ++ (v ++ (flat_map h ms ++ xs))) (append_assoc (h x) (flat_map h ns) r)
    ∙ ap (λ xs. b ++ xs) (sym (append_assoc v (flat_map h ms) (h x ++ (flat_map h ns ++ r))))
    ∙ sym (append_assoc b (v ++ flat_map h ms) (h x ++ (flat_map h ns ++ r)))

pub member-nets_have_places : MemberNetsHavePlaces
member-nets_have_places source top corner before after s ms ns x sound e g =
    let h = member_nets source s in
    let own = variable_nets source s ++ flat_map h ms in
    let front = flat_map (nets_of source) before ++ own in
    let back = flat_map h ns ++ flat_map (nets_of source) after in
    let all = numbers-in_order (nets source top) front (h x ++ back) (nets-apart_each source top corner sound) (nets-split source top before after s ms ns x e g) in
    let count : length front ≡ nets_before source before s ms =
    length-append (flat_map (nets_of source) before) own ∙ ap (λ k. length (flat_map (nets_of source) before) + k) (length-append (variable_nets source s) (flat_map h ms)) in
    front-numbered (λ o. number_of (nets source top) o.spot) (length front) (h x) back all ∙ ap (λ k. range_with_len k (length (h x))) count
