-- Members and instances side by side: each member that is an instance of a module has the next.
use Rattle.std.specs.Prelude.{◌≡◌, ℕ, zero, suc, ◌+◌, ◌<◌, ◌≤◌, ◌==◌, List, [], ◌∷◌, ◌++◌, false, Option, Some, None, flat_map, filter_map, slice_get, drop, refl, if◌then◌else◌}
use Rattle.std.specs.List.{AllByRecursion, enumerate_from, cons_option}
use Rattle.std.proofs.Common.{sym, ◌∙◌, ap, arith, append_assoc, inl, subst}
use Rattle.std.proofs.lemmas.Bool.{eq-eqb}
use Rattle.std.proofs.lemmas.Bool.Decides.{nat_tests}
use Rattle.std.proofs.lemmas.Grind.{flat_map-append}
use Rattle.vl_tree.specs.Tree.{Module, Source}
use Rattle.elab_model.specs.Definitions.{module_of}
use Rattle.elab_model.specs.Elements.{child_at}
use Rattle.elab_model.specs.Hierarchy.{Step, Instance, Child, child_of, child_of_member, children_from, children_at, children, size, text_of}
use Rattle.elab_model.specs.Members.{Member, assignment, supply, gate, instance, path, check, members}
use Rattle.elab_laws.proofs.Lists.{In, in-right, all-append, all-weaker}
use Rattle.elab_elements.specs.Next.{children_of, IsNext}

-- ---- the first member

pub starts : (source : Source) (s : Instance) → IsNext source s 0 (suc s.step.number)
starts source s = record { before = []; earlier = tt; rest = by s.step.levels }
  where
    by : (n : ℕ) → children_at source n s ≡ children_of source n s (suc s.step.number) 0 (members s.step.definition)
    by zero = refl
    by (suc n) = refl

-- ---- the next

at-place : {A : Type 0} (xs : List A) (k : ℕ) (x : A) → slice_get xs k ≡ Some x → drop k xs ≡ x ∷ drop (suc k) xs
at-place [] k x e = cc
at-place (y ∷ xs) zero x e = let g : y ≡ x = cc in ap (λ z. z ∷ xs) g
at-place (y ∷ xs) (suc k) x e = at-place xs k x e

at-member : {A : Type 0} (xs : List A) (k : ℕ) (x : A) → slice_get xs k ≡ Some x → drop k xs ≡ x ∷ drop (k + 1) xs
at-member xs k x e = let n : suc k ≡ k + 1 = omega arith in at-place xs k x e ∙ ap (λ j. x ∷ drop j xs) n

-- a member that is no instance of a module
pub passes-by : (source : Source) (s : Instance) (k next : ℕ) (x : Member) → slice_get (members s.step.definition) k ≡ Some x → child_of_member source k x ≡ None → IsNext source s k next → IsNext source s (k + 1) next
passes-by source s k next x at none h =
    record {
      before = h.before;
      earlier = all-weaker (λ c. c.step.member < k) (λ c. c.step.member < k + 1) h.before (λ c lt. omega arith) h.earlier;
      rest = h.rest ∙ ap (λ xs. h.before ++ xs) (ap (children_of source s.step.levels s next k) (at-member (members s.step.definition) k x at) ∙ by s.step.levels);
    }
  where
    by : (n : ℕ) → children_of source n s next k (x ∷ drop (k + 1) (members s.step.definition)) ≡ children_of source n s next (k + 1) (drop (k + 1) (members s.step.definition))
    by zero = refl
    by (suc n) = ap (λ o. children_from source n (s.step ∷ s.above) next (cons_option o (filter_map (λ i. child_of_member source i.0 i.1) (enumerate_from (k + 1) (drop (k + 1) (members s.step.definition)))))) none

-- the instance that a child is
abbrev pub instance_of : Source → ℕ → Instance → ℕ → Child → Instance
instance_of source levels s next c =
    record {
      step = record { definition = c.definition; name = text_of c.name; place = c.place; member = c.member; connections = c.connections; number = next; levels = levels };
      above = s.step ∷ s.above;
    }

-- a member that is one
pub record IsChildAt (source : Source) (s : Instance) (k next levels : ℕ) (c : Child) : Type 0 where
  pub alone : child_at source s k ≡ instance_of source levels s next c ∷ []
  pub there : In (instance_of source levels s next c) (children source s)
  pub after : IsNext source s (k + 1) (next + size source levels c.definition)

member-is : (source : Source) (k : ℕ) (x : Member) (c : Child) → child_of_member source k x ≡ Some c → c.member ≡ k
member-is source k (assignment j) c e = cc
member-is source k (supply n v) c e = cc
member-is source k (gate g d i) c e = cc
member-is source k (path p) c e = cc
member-is source k (check t) c e = cc
member-is source k (instance n d i) c e = by (module_of source n.text) e
  where
    member_or : ℕ → Option Child → ℕ
    member_or k None = k
    member_or k (Some c) = c.member

    by : (o : Option Module) → child_of o k i ≡ Some c → c.member ≡ k
    by None e = cc
    by (Some m) e = sym (ap (member_or k) e)

-- those behind have later members
later : (source : Source) (levels : ℕ) (above : List Step) (next k : ℕ) (ms : List Member)
    → AllByRecursion (λ c. k ≤ c.step.member) (children_from source levels above next (filter_map (λ i. child_of_member source i.0 i.1) (enumerate_from k ms)))
later source levels above next k [] = tt
later source levels above next k (x ∷ ms) =
    by (child_of_member source k x) refl (λ next.
    all-weaker (λ c. k + 1 ≤ c.step.member) (λ c. k ≤ c.step.member) (children_from source levels above next (filter_map (λ i. child_of_member source i.0 i.1) (enumerate_from (k + 1) ms))) (λ c le. omega arith)
    (later source levels above next (k + 1) ms))
  where
    by : (o : Option Child) → child_of_member source k x ≡ o
        → ((next : ℕ) → AllByRecursion (λ c. k ≤ c.step.member) (children_from source levels above next (filter_map (λ i. child_of_member source i.0 i.1) (enumerate_from (k + 1) ms))))
        → AllByRecursion (λ c. k ≤ c.step.member) (children_from source levels above next (cons_option o (filter_map (λ i. child_of_member source i.0 i.1) (enumerate_from (k + 1) ms))))
    by None e rest = rest next
    by (Some c) e rest = let is = member-is source k x c e in (omega arith, rest (next + size source levels c.definition))

-- none of these is the member k
none-at : (k : ℕ) (cs : List Instance) → AllByRecursion (λ c. (c.step.member == k) ≡ false) cs → flat_map (λ c. if c.step.member == k then c ∷ [] else []) cs ≡ []
none-at k [] h = refl
none-at k (c ∷ cs) h = ap (λ b. (if b then c ∷ [] else []) ++ flat_map (λ c. if c.step.member == k then c ∷ [] else []) cs) h.0 ∙ none-at k cs h.1

below-apart : (k : ℕ) (cs : List Instance) → AllByRecursion (λ c. c.step.member < k) cs → AllByRecursion (λ c. (c.step.member == k) ≡ false) cs
below-apart k cs h = all-weaker (λ c. c.step.member < k) (λ c. (c.step.member == k) ≡ false) cs (λ c lt. grind (arith, nat_tests)) h

above-apart : (k : ℕ) (cs : List Instance) → AllByRecursion (λ c. k + 1 ≤ c.step.member) cs → AllByRecursion (λ c. (c.step.member == k) ≡ false) cs
above-apart k cs h = all-weaker (λ c. k + 1 ≤ c.step.member) (λ c. (c.step.member == k) ≡ false) cs (λ c le. grind (arith, nat_tests)) h

one-at : (k : ℕ) (c : Instance) (before after : List Instance) → AllByRecursion (λ c. c.step.member < k) before → c.step.member ≡ k → AllByRecursion (λ c. k + 1 ≤ c.step.member) after
    → flat_map (λ c. if c.step.member == k then c ∷ [] else []) (before ++ c ∷ after) ≡ c ∷ []
one-at k c before after lt e le =
    let f : Instance → List Instance = λ c. if c.step.member == k then c ∷ [] else [] in
    flat_map-append f before (c ∷ after) ∙ ap (λ xs. xs ++ flat_map f (c ∷ after)) (none-at k before (below-apart k before lt))
    ∙ ap (λ b. (if b then c ∷ [] else []) ++ flat_map f after) (eq-eqb c.step.member k e) ∙ ap (λ xs. c ∷ xs) (none-at k after (above-apart k after le))

pub takes-one : (source : Source) (s : Instance) (k next levels : ℕ) (x : Member) (c : Child) → s.step.levels ≡ suc levels → slice_get (members s.step.definition) k ≡ Some x → child_of_member source k x ≡ Some c
    → IsNext source s k next → IsChildAt source s k next levels c
takes-one source s k next levels x c level at some h =
    record {
      alone = ap (flat_map (λ c. if c.step.member == k then c ∷ [] else [])) split
          ∙ one-at k child h.before others h.earlier (member-is source k x c some) (later source levels (s.step ∷ s.above) (next + size source levels c.definition) (k + 1) (drop (k + 1) (members s.step.definition)));
      there = subst (In child) (sym split) (in-right child h.before (child ∷ others) (inl refl));
      after = record {
        before = h.before ++ child ∷ [];
        earlier = all-append (λ c. c.step.member < k + 1) h.before (child ∷ []) (all-weaker (λ c. c.step.member < k) (λ c. c.step.member < k + 1) h.before (λ c lt. omega arith) h.earlier)
            ((let is = member-is source k x c some in omega arith), tt);
        rest = split ∙ sym (append_assoc h.before (child ∷ []) others)
            ∙ ap (λ n. (h.before ++ child ∷ []) ++ children_of source n s (next + size source levels c.definition) (k + 1) (drop (k + 1) (members s.step.definition))) (sym level);
      };
    }
  where
    child : Instance
    child = instance_of source levels s next c

    others : List Instance
    others = children_from source levels (s.step ∷ s.above) (next + size source levels c.definition) (filter_map (λ i. child_of_member source i.0 i.1) (enumerate_from (k + 1) (drop (k + 1) (members s.step.definition))))

    split : children source s ≡ h.before ++ child ∷ others
    split =
        h.rest ∙ ap (λ n. h.before ++ children_of source n s next k (drop k (members s.step.definition))) level
        ∙ ap (λ ms. h.before ++ children_of source (suc levels) s next k ms) (at-member (members s.step.definition) k x at)
        ∙ ap (λ o. h.before ++ children_from source levels (s.step ∷ s.above) next (cons_option o (filter_map (λ i. child_of_member source i.0 i.1) (enumerate_from (k + 1) (drop (k + 1) (members s.step.definition)))))) some
