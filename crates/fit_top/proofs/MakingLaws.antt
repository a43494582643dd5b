-- Files that are made, one after another.
use Rattle.std.proofs.Common.{◌≡◌, ◌≢◌, ◌∙◌, sym, ap, subst, refl, inl, inr, ℕ, ◌+◌, ◌<◌, ◌≤◌, List, [], ◌∷◌, ◌++◌, length, map, take, drop}
use Rattle.std.proofs.lemmas.List.{take-append-drop, take_all, take_more, drop_more, map-append}
use Rattle.std.specs.Prelude.{Option, Some, None, Ok, Err, slice_index_or, unwrap_or}
use Rattle.sg_io.specs.Faults.{NamesFault}
use Rattle.sg_io.specs.Files.{File, Appends, BothTell, Creates, HasAfter, bytes_of}
use Rattle.sg_io.specs.declared.outside.ShelfError.{ShelfError}
use Rattle.sg_io.specs.declared.outside.ShelfError.TheVariants as shelf
use Rattle.fit_top.specs.Names.{IsNoneOf, IsOneOf}
use Rattle.fit_top.specs.Promises.{FilesAfter, OthersStay}
use Rattle.fit_top.specs.Stops.{FailsAmong, stop_of}

-- every file but that of a name reads as before
abbrev pub OthersOf : List ℕ → List File → List File → Type 0
OthersOf name old new = (q : List ℕ) → q ≢ name → bytes_of q new ≡ bytes_of q old

-- ---- one file

pub made : (name text : List ℕ) (a b c : Option (List File)) → Creates name a b (Ok tt) → Appends name text b c (Ok tt) → BothTell a c (HasAfter name text)
made name text (Some x) (Some y) (Some z) h k = record {
  this = k.this ∙ ap (λ o. Some (unwrap_or o [] ++ text)) h.this;
  others = λ q other. k.others q other ∙ h.others q other;
}
made name text None None None h k = tt
made name text None None (Some z) h k = absurd k
made name text None (Some y) c h k = absurd h
made name text (Some x) None c h k = absurd h
made name text (Some x) (Some y) None h k = absurd k

pub begun : (name text : List ℕ) (e : ShelfError) (a b c : Option (List File)) → Creates name a b (Ok tt) → Appends name text b c (Err e) → BothTell a c (OthersOf name)
begun name text shelf.Failed (Some x) (Some y) (Some z) h k = λ q other. k.1.others q other ∙ h.others q other
begun name text shelf.NoMemory (Some x) (Some y) (Some z) h k = λ q other. ap (bytes_of q) k ∙ h.others q other
begun name text e None None None h k = tt
begun name text e None None (Some z) h k = absurd k
begun name text e None (Some y) c h k = absurd h
begun name text e (Some x) None c h k = absurd h
begun name text e (Some x) (Some y) None h k = absurd k

pub not_begun : (name : List ℕ) (e : ShelfError) (a b : Option (List File)) → Creates name a b (Err e) → BothTell a b (OthersOf name)
not_begun name e (Some x) (Some y) h = λ q other. ap (bytes_of q) h
not_begun name e None None h = tt
not_begun name e None (Some y) h = absurd h
not_begun name e (Some x) None h = absurd h

-- ---- several

pub one_more : (made : List File) (f : File) (old mid new : List File) → FilesAfter made old mid → HasAfter f.name f.bytes mid new → FilesAfter (made ++ f ∷ []) old new
one_more [] f old mid new same h = (new, subst (λ fs. HasAfter f.name f.bytes fs new) same h, refl)
one_more (g ∷ more) f old mid new (next, k, l) h = (next, k, one_more more f next mid new l h)

pub others_after : (made : List File) (old new : List File) → FilesAfter made old new → (q : List ℕ) → IsNoneOf (map (λ f. f.name) made) q → bytes_of q new ≡ bytes_of q old
others_after [] old new same q other = ap (bytes_of q) same
others_after (f ∷ more) old new (mid, h, k) q other = others_after more mid new k q other.1 ∙ h.others q other.0

none_before : (q : List ℕ) (before : List (List ℕ)) (n : List ℕ) (after : List (List ℕ)) → IsNoneOf (before ++ n ∷ after) q → IsNoneOf before q × (q ≢ n)
none_before q [] n after h = (tt, h.0)
none_before q (m ∷ more) n after h = let k = none_before q more n after h.1 in ((h.0, k.0), k.1)

one_before : (q : List ℕ) (before after : List (List ℕ)) → IsOneOf after q → IsOneOf (before ++ after) q
one_before q [] after h = h
one_before q (m ∷ more) after h = inr (one_before q more after h)

-- ---- the loop, over any list of what is seen as a file

module _ {X : Type 0} (seen : X → File) (xs : List X) (i : ℕ) (x : X) (is : x ≡ slice_index_or xs i x) (l : i < length xs) where
  at_one : map seen xs ≡ map seen (take i xs) ++ seen x ∷ map seen (drop (i + 1) xs)
  at_one =
      ap (map seen) (sym (take-append-drop i xs))
      ∙ (map-append seen (take i xs) (drop i xs) ∙ ap (λ ys. map seen (take i xs) ++ map seen ys) (drop_more xs i x l ∙ ap (λ y. y ∷ drop (i + 1) xs) (sym is)))

  names_at : map (λ f. f.name) (map seen xs) ≡ map (λ f. f.name) (map seen (take i xs)) ++ (seen x).name ∷ map (λ f. f.name) (map seen (drop (i + 1) xs))
  names_at = ap (map (λ (f : File). f.name)) at_one ∙ map-append (λ (f : File). f.name) (map seen (take i xs)) (seen x ∷ map seen (drop (i + 1) xs))

  pub one_taken : map seen (take (i + 1) xs) ≡ map seen (take i xs) ++ seen x ∷ []
  one_taken = ap (map seen) (take_more xs i x l ∙ ap (λ y. take i xs ++ y ∷ []) (sym is)) ∙ map-append seen (take i xs) (x ∷ [])

  pub made_more : (a b c : Option (List File)) → BothTell a b (FilesAfter (map seen (take i xs))) → BothTell b c (HasAfter (seen x).name (seen x).bytes)
      → BothTell a c (FilesAfter (map seen (take (i + 1) xs)))
  made_more (Some u) (Some v) (Some w) h k =
      subst (λ fs. FilesAfter fs u w) (sym one_taken) (one_more (map seen (take i xs)) (seen x) u v w h k)
  made_more None None None h k = tt
  made_more None None (Some w) h k = absurd k
  made_more None (Some v) c h k = absurd h
  made_more (Some u) None c h k = absurd h
  made_more (Some u) (Some v) None h k = absurd k

  pub stopped : (a b c : Option (List File)) → BothTell a b (FilesAfter (map seen (take i xs))) → BothTell b c (OthersOf (seen x).name)
      → BothTell a c (OthersStay (map (λ f. f.name) (map seen xs)))
  stopped (Some u) (Some v) (Some w) h k = λ q other.
      (let both = none_before q (map (λ f. f.name) (map seen (take i xs))) (seen x).name (map (λ f. f.name) (map seen (drop (i + 1) xs))) (subst (λ ns. IsNoneOf ns q) names_at other) in
      k q both.1 ∙ others_after (map seen (take i xs)) u v h q both.0)
  stopped None None None h k = tt
  stopped None None (Some w) h k = absurd k
  stopped None (Some v) c h k = absurd h
  stopped (Some u) None c h k = absurd h
  stopped (Some u) (Some v) None h k = absurd k

  pub is_one : IsOneOf (map (λ f. f.name) (map seen xs)) (seen x).name
  is_one = subst (λ ns. IsOneOf ns (seen x).name) (sym names_at)
      (one_before (seen x).name (map (λ f. f.name) (map seen (take i xs))) ((seen x).name ∷ map (λ f. f.name) (map seen (drop (i + 1) xs))) (inl refl))

pub none_made : (a b : Option (List File)) → b ≡ a → BothTell a b (FilesAfter [])
none_made (Some x) (Some y) e = cc
none_made None None e = tt
none_made None (Some y) e = cc
none_made (Some x) None e = cc

pub all_made : {X : Type 0} (seen : X → File) (xs : List X) (i : ℕ) (a b : Option (List File)) → length xs ≤ i → BothTell a b (FilesAfter (map seen (take i xs))) → BothTell a b (FilesAfter (map seen xs))
all_made seen xs i a b l h = subst (λ ys. BothTell a b (FilesAfter (map seen ys))) (take_all i xs l) h

pub failed_file : (Y : Type 0) (e : ShelfError) (name : List ℕ) (names : List (List ℕ)) (before now : Option (List ℕ)) → IsOneOf names name → NamesFault {X = Unit {0}} name before now (Err e) → FailsAmong {X = Y} now names (Err (stop_of e))
failed_file Y shelf.Failed name names before now one h = record { name = name; told = h; among = one }
failed_file Y shelf.NoMemory name names before now one h = tt
