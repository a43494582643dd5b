-- One item more: the list of its key was taken out, and stands there again with the item behind it. And what is found by a name.
use Rattle.std.specs.Prelude.{◌≡◌, refl, ℕ, ◌&&◌, nat_eq, bytes_eq, Bool, true, false, cond, List, [], ◌∷◌, ◌++◌, Option, Some, None}
use Rattle.std.specs.List.{list_any, find}
use Rattle.std.specs.Borrow.{Bor}
use Rattle.std.specs.Global.{Vec}
use Rattle.std.specs.Cmp.Lexicographic.{bytes_decides}
use Rattle.std.proofs.Common.{ap, sym, ◌∙◌, arith}
use Rattle.std.proofs.lemmas.Bool.{and_parts}
use Rattle.std.proofs.lemmas.Bool.Decides.{nat_tests}
use Rattle.std.proofs.lemmas.List.{append-nil}
use Rattle.indexmap.specs.IndexMap.{get_by}
use Rattle.annotation_index.specs.declared.index.Index.{Index}
use Rattle.annotation_index.specs.Index.{AreNamed, items_in, list_at, one_if, same_key}

-- a name as a key that borrows it
abbrev pub key : List ℕ → Bor (List ℕ)
key name = record { ref_ptr = (0, 0); now = name }

same_number : (a b : ℕ) → nat_eq a b ≡ true → a ≡ b
same_number a b e = grind (arith, nat_tests)

pub added : (owner : ℕ) (name : List ℕ) (item : ℕ) (old mid new : ℕ × Bor (List ℕ) → Option (Vec ℕ)) (out : Option (Vec ℕ)) (list : Vec ℕ)
    → out ≡ old (owner, key name)
    → ((q : ℕ × Bor (List ℕ)) → mid q ≡ cond (same_key owner name q.0 q.1.now) None (old q))
    → list.items ≡ items_in out ++ item ∷ []
    → ((q : ℕ × Bor (List ℕ)) → new q ≡ cond (same_key owner name q.0 q.1.now) (Some list) (mid q))
    → (o : ℕ) (n : List ℕ) → items_in (new (o, key n)) ≡ items_in (old (o, key n)) ++ one_if (same_key owner name o n) item
added owner name item old mid new out list taken removed items inserted o n = by (same_key owner name o n) refl
  where
    there : (b : Bool) → same_key owner name o n ≡ b → items_in (new (o, key n)) ≡ items_in (cond b (Some list) (cond b None (old (o, key n))))
    there b e = ap items_in (inserted (o, key n) ∙ (ap (λ x. cond x (Some list) (mid (o, key n))) e ∙ ap (λ x. cond b (Some list) x) (removed (o, key n) ∙ ap (λ x. cond x None (old (o, key n))) e)))

    by : (b : Bool) → same_key owner name o n ≡ b → items_in (new (o, key n)) ≡ items_in (old (o, key n)) ++ one_if b item
    by true e =
        let number : owner ≡ o = same_number owner o (and_parts (nat_eq owner o) (bytes_eq name n) e).0 in
        let bytes : name ≡ n = (bytes_decides name n).0 (and_parts (nat_eq owner o) (bytes_eq name n) e).1 in
        there true e ∙ (items ∙ ap (λ xs. xs ++ item ∷ []) (ap items_in taken ∙ (ap (λ x. items_in (old (x, key name))) number ∙ ap (λ xs. items_in (old (o, key xs))) bytes)))
    by false e = there false e ∙ sym (append-nil (items_in (old (o, key n))))

-- ---- names

-- the name that is found is the one that was asked for
pub found_name : (name : List ℕ) (keys : List (Bor (List ℕ))) (known : Bor (List ℕ)) → Some known ≡ find (λ k. bytes_eq name k.now) keys → name ≡ known.now
found_name name [] known e = absurd cc
found_name name (k ∷ ks) known e = by (bytes_eq name k.now) refl e (λ f. found_name name ks known f)
  where
    inside : {a b : Bor (List ℕ)} → Some a ≡ Some b → b.now ≡ a.now
    inside f = cc

    by : (b : Bool) → bytes_eq name k.now ≡ b → Some known ≡ cond b (Some k) (find (λ x. bytes_eq name x.now) ks) → (Some known ≡ find (λ x. bytes_eq name x.now) ks → name ≡ known.now) → name ≡ known.now
    by true s f rec = (bytes_decides name k.now).0 s ∙ inside f
    by false s f rec = rec f

-- what stands at the name that was found is what stands at the one that was asked for
pub found_list : (index : Index) (owner : ℕ) (name : List ℕ) (known : Bor (List ℕ)) (list : Option (Vec ℕ)) → Some known ≡ find (λ k. bytes_eq name k.now) index.names.keys
    → list ≡ get_by (λ key. same_key owner known.now key.0 key.1.now) index.lists → items_in list ≡ list_at index owner name
found_list index owner name known list e f = ap items_in f ∙ ap (list_at index owner) (sym (found_name name index.names.keys known e))

-- a name more is known, and it is the only one that got an item
pub still_named : (old new : Index) (owner : ℕ) (name : List ℕ) (item : ℕ) → AreNamed old
    → ((o : ℕ) (n : List ℕ) → list_at new o n ≡ list_at old o n ++ one_if (same_key owner name o n) item)
    → ((q : Bor (List ℕ)) → list_any (λ k. bytes_eq q.now k.now) new.names.keys ≡ cond (bytes_eq name q.now) true (list_any (λ k. bytes_eq q.now k.now) old.names.keys))
    → AreNamed new
still_named old new owner name item named items known = record { unknown = λ o n e. at o n (bytes_eq name n) refl (sym (known (key n)) ∙ e) }
  where
    at : (o : ℕ) (n : List ℕ) (b : Bool) → bytes_eq name n ≡ b → cond b true (list_any (λ k. bytes_eq n k.now) old.names.keys) ≡ false → list_at new o n ≡ []
    at o n true s f = absurd cc
    at o n false s f =
        items o n ∙ (ap (λ xs. xs ++ one_if (nat_eq owner o && bytes_eq name n) item) (named.unknown o n f) ∙ none (nat_eq owner o) s)
      where
        none : (a : Bool) → bytes_eq name n ≡ false → [] ++ one_if (a && bytes_eq name n) item ≡ []
        none true e = ap (λ b. one_if b item) e
        none false e = refl
