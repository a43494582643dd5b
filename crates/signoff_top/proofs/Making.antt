-- Files that are made, one after another.
use Rattle.std.proofs.Common.{◌≡◌, ◌≢◌, ◌∙◌, sym, ap, subst, refl, inl, inr, ℕ, All, List, [], ◌∷◌, ◌++◌, length, arith}
use Rattle.std.proofs.lemmas.List.{take_all}
use Rattle.std.proofs.lemmas.List.Elements.{All-tail}
use Rattle.std.specs.Prelude.{Option, Some, Ok, Err}
use Rattle.sg_io.specs.Files.{File, Appended, BothTell, Created, HasAfter, bytes_of}
use Rattle.sg_io.specs.declared.outside.ShelfError.{ShelfError}
use Rattle.sg_io.specs.declared.outside.ShelfError.TheVariants as shelf
use Rattle.wave_out.specs.Files.{IsBegun, LeavesPrefix, LeavesWanting}
use Rattle.signoff_top.specs.Answer.{FilesAfter}
use Rattle.signoff_top.specs.Promises.{KeepsBut, KeepsByWords}
use Rattle.signoff_phases.proofs.Putting.{both_map, both_then}

-- what is made, is begun
whole_begun : (name bytes : List ℕ) (old new : List File) → HasAfter name bytes old new → LeavesPrefix name bytes old new
whole_begun name bytes old new h = record { this = inr (length bytes, h.this ∙ ap Some (sym (take_all (length bytes) bytes (omega arith)))); others = h.others }

-- what a right answer leaves
pub made_begun : (made : List File) (old new : List File) → FilesAfter made old new → KeepsBut made old new
made_begun [] old new h = h
made_begun (f ∷ []) old new h = whole_begun f.name f.bytes old new h
made_begun (f ∷ g ∷ more) old new (mid, h, k) = inr (mid, h, made_begun (g ∷ more) mid new k)

-- the first one was begun
pub first_begun : (made : File) (after : List File) (old new : List File) → LeavesPrefix made.name made.bytes old new → KeepsBut (made ∷ after) old new
first_begun made [] old new h = h
first_begun made (g ∷ more) old new h = inl h

-- or it was made, and no other was begun
pub first_made : (made : File) (after : List File) (old new : List File) → HasAfter made.name made.bytes old new → KeepsBut (made ∷ after) old new
first_made made after old new h = first_begun made after old new (whole_begun made.name made.bytes old new h)

-- those before this one were made, and this one was begun
pub begun_after : (before : List File) (made : File) (after old mid new : List File) → FilesAfter before old mid → LeavesPrefix made.name made.bytes mid new → KeepsBut (before ++ made ∷ after) old new
begun_after [] made after old mid new same h = first_begun made after old new (subst (λ fs. LeavesPrefix made.name made.bytes fs new) same h)
begun_after (f ∷ []) made after old mid new k h = inr (mid, k, first_begun made after mid new h)
begun_after (f ∷ g ∷ more) made after old mid new (next, k, l) h = inr (next, k, begun_after (g ∷ more) made after next mid new l h)

-- where nothing changed, every file but those stays
pub keeps_same : (made : List File) (files : List File) → KeepsBut made files files
keeps_same [] files = refl
keeps_same (f ∷ more) files = first_begun f more files files (record { this = inl refl; others = λ q _. refl })

-- what is made has the names that are given, from the first on
abbrev pub AreMadeAs : List (List ℕ) → List File → Type 0
AreMadeAs names [] = Unit {0}
AreMadeAs [] (f ∷ more) = ⊥
AreMadeAs (n ∷ names) (f ∷ more) = (f.name ≡ n) × AreMadeAs names more

pub none_made : (names : List (List ℕ)) (made : List File) → made ≡ [] → AreMadeAs names made
none_made names made e = subst (AreMadeAs names) (sym e) tt

-- every file of another name stays
others_stay : (names : List (List ℕ)) (made old new : List File) → AreMadeAs names made → KeepsBut made old new → (q : List ℕ) → All (λ m. q ≢ m) names → bytes_of q new ≡ bytes_of q old
others_stay names [] old new n same q other = ap (bytes_of q) same
others_stay [] (f ∷ more) old new n left q other = absurd n
others_stay (m ∷ names) (f ∷ []) old new n left q other = left.others q (λ e. other 0 m (omega arith) (e ∙ n.0))
others_stay (m ∷ names) (f ∷ g ∷ more) old new n (inl left) q other = left.others q (λ e. other 0 m (omega arith) (e ∙ n.0))
others_stay (m ∷ names) (f ∷ g ∷ more) old new n (inr (mid, h, k)) q other =
    others_stay names (g ∷ more) mid new n.1 k q (All-tail (λ x. q ≢ x) m names other) ∙ h.others q (λ e. other 0 m (omega arith) (e ∙ n.0))

pub same_by_words : (names : List (List ℕ)) (old new : List File) → new ≡ old → KeepsByWords names old new
same_by_words [] old new e = e
same_by_words (n ∷ names) old new e = λ q _. ap (bytes_of q) e

pub begun_by_words : (names : List (List ℕ)) (made old new : List File) → AreMadeAs names made → KeepsBut made old new → KeepsByWords names old new
begun_by_words [] [] old new n same = same
begun_by_words [] (f ∷ more) old new n left = absurd n
begun_by_words (m ∷ names) made old new n left = λ q other. others_stay (m ∷ names) made old new n left q other

-- what want of memory leaves of one file, where it wasn't created
pub not_created : (name : List ℕ) (e : ShelfError) (old new : Option (List File)) → BothTell old new (Created name (Err e)) → BothTell old new (LeavesWanting {X = Unit {0}} name (Err e))
not_created name shelf.Failed old new h = both_map (Created name (Err shelf.Failed)) (λ x y. Unit {0}) old new h (λ x y same. tt)
not_created name shelf.NoMemory old new h = both_map (Created name (Err shelf.NoMemory)) (IsBegun name) old new h (λ x y same. inl same)

-- where it was, and the text wasn't added, or was
pub not_added : (name text : List ℕ) (e : ShelfError) (old mid new : Option (List File)) → BothTell old mid (Created name (Ok tt)) → BothTell mid new (Appended name text (Err e)) → BothTell old new (LeavesWanting {X = Unit {0}} name (Err e))
not_added name text shelf.Failed old mid new h k = both_then (HasAfter name []) (Appended name text (Err shelf.Failed)) (λ x z. Unit {0}) old mid new h k (λ x y z p q. tt)
not_added name text shelf.NoMemory old mid new h k = both_then (HasAfter name []) (Appended name text (Err shelf.NoMemory)) (IsBegun name) old mid new h k (λ x y z p same. inr (subst (HasAfter name [] x) (sym same) p))

pub added : (name text : List ℕ) (old mid new : Option (List File)) → BothTell old mid (Created name (Ok tt)) → BothTell mid new (Appended name text (Ok tt)) → BothTell old new (LeavesWanting {X = Unit {0}} name (Ok tt))
added name text old mid new h k = both_then (HasAfter name []) (Appended name text (Ok tt)) (λ x z. Unit {0}) old mid new h k (λ x y z p q. tt)
