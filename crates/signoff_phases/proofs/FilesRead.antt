-- Files that are read one after another.
use Rattle.std.proofs.Common.{◌≡◌, ◌∙◌, sym, ap, subst, refl, ℕ, List, [], ◌∷◌, ◌++◌, ◌+◌, ◌<◌, ◌≤◌, map, take, drop, length, append_assoc}
use Rattle.std.proofs.lemmas.List.{append-nil, take-append-drop, take_all, take_more, drop_more, map-append}
use Rattle.std.specs.Global.{Vec}
use Rattle.std.specs.Prelude.{slice_index_or, Option, Some, Result, Ok, Err}
use Rattle.sg_io.specs.Files.{File, bytes_of}
use Rattle.signoff_phases.specs.Phases.{Refusal, FileOutcome, FilesOutcome, stops, goes_on}
use Rattle.signoff_phases.specs.Stops.{FailsAtOne, Gives, IfFailed, IfOutcome, refusal_seen}
use Rattle.signoff_phases.specs.declared.stop.Stop as code_stop
use Rattle.signoff_phases.specs.declared.stop.Stop.TheVariants as stop
use Rattle.signoff_phases.proofs.Composed.{failed_again}

-- texts, before what comes of the files after them
abbrev after : List (List ℕ) → Result (List (List ℕ)) Refusal → Result (List (List ℕ)) Refusal
after texts (Ok more) = Ok (texts ++ more)
after texts (Err r) = Err r

-- these files were read, and what comes of the files after them comes of all
pub record AreRead (before : List (List ℕ)) (files : List File) (texts : List (List ℕ)) : Type 0 where
  pub go_on : (rest : List (List ℕ)) (o : Result (List (List ℕ)) Refusal) → FilesOutcome rest files o → FilesOutcome (before ++ rest) files (after texts o)

after_none : (o : Result (List (List ℕ)) Refusal) → after [] o ≡ o
after_none (Ok more) = refl
after_none (Err r) = refl

after_after : (a b : List (List ℕ)) (o : Result (List (List ℕ)) Refusal) → after a (after b o) ≡ after (a ++ b) o
after_after a b (Ok more) = ap Ok (sym (append_assoc a b more))
after_after a b (Err r) = refl

pub none_read : (files : List File) → AreRead [] files []
none_read files = record { go_on = λ rest o h. subst (FilesOutcome rest files) (sym (after_none o)) h }

one_before : (n text : List ℕ) (rest : List (List ℕ)) (files : List File) (o : Result (List (List ℕ)) Refusal) → FileOutcome n (bytes_of n files) (Ok text) → FilesOutcome rest files o
    → FilesOutcome (n ∷ rest) files (after (text ∷ []) o)
one_before n text rest files (Ok more) h k = goes_on text (Ok (text ∷ more)) h (goes_on more (Ok (text ∷ more)) k refl)
one_before n text rest files (Err r) h k = goes_on text (Err r) h (stops r k)

one_more : (before : List (List ℕ)) (files : List File) (texts : List (List ℕ)) (n text : List ℕ) → AreRead before files texts → FileOutcome n (bytes_of n files) (Ok text)
    → AreRead (before ++ n ∷ []) files (texts ++ text ∷ [])
one_more before files texts n text r h = record {
  go_on = λ rest o k.
      subst (λ names. FilesOutcome names files (after (texts ++ text ∷ []) o)) (sym (append_assoc before (n ∷ []) rest))
      (subst (FilesOutcome (before ++ n ∷ rest) files) (after_after texts (text ∷ []) o) (r.go_on (n ∷ rest) (after (text ∷ []) o) (one_before n text rest files o h k)));
}

all_read : (names : List (List ℕ)) (files : List File) (texts : List (List ℕ)) → AreRead names files texts → FilesOutcome names files (Ok texts)
all_read names files texts r =
    subst (λ o. FilesOutcome names files o) (ap Ok (append-nil texts)) (subst (λ ns. FilesOutcome ns files (Ok (texts ++ []))) (append-nil names) (r.go_on [] (Ok []) refl))

-- ---- the loop, over any list of what has names

module _ {X : Type 0} (name_of : X → List ℕ) (xs : List X) (i : ℕ) (d : X) (l : i < length xs) where
  at_one : map name_of xs ≡ map name_of (take i xs) ++ name_of (slice_index_or xs i d) ∷ map name_of (drop (i + 1) xs)
  at_one =
      ap (map name_of) (sym (take-append-drop i xs))
      ∙ (map-append name_of (take i xs) (drop i xs) ∙ ap (λ ys. map name_of (take i xs) ++ map name_of ys) (drop_more xs i d l))

  one_taken : map name_of (take (i + 1) xs) ≡ map name_of (take i xs) ++ name_of (slice_index_or xs i d) ∷ []
  one_taken = ap (map name_of) (take_more xs i d l) ∙ map-append name_of (take i xs) (slice_index_or xs i d ∷ [])

  -- one file more
  pub read_more : (files : List File) (texts more : List (Vec ℕ)) (text : Vec ℕ) → more ≡ texts ++ text ∷ [] → AreRead (map name_of (take i xs)) files (map (λ f. f.items) texts)
      → Gives {X = Vec ℕ} (λ v. v.items) (FileOutcome (name_of (slice_index_or xs i d)) (bytes_of (name_of (slice_index_or xs i d)) files)) (Ok text)
      → AreRead (map name_of (take (i + 1) xs)) files (map (λ f. f.items) more)
  read_more files texts more text e r g =
      subst (λ ns. AreRead ns files (map (λ f. f.items) more)) (sym one_taken)
      (subst (AreRead (map name_of (take i xs) ++ name_of (slice_index_or xs i d) ∷ []) files)
      (sym (ap (λ (vs : List (Vec ℕ)). map (λ f. f.items) vs) e ∙ map-append (λ (f : Vec ℕ). f.items) texts (text ∷ [])))
      (one_more (map name_of (take i xs)) files (map (λ f. f.items) texts) (name_of (slice_index_or xs i d)) text.items r g.outcome))

  stopped : (files : List File) (texts : List (List ℕ)) (s : code_stop.Stop) → AreRead (map name_of (take i xs)) files texts
      → IfOutcome {X = Vec ℕ} (λ v. v.items) (FileOutcome (name_of (slice_index_or xs i d)) (bytes_of (name_of (slice_index_or xs i d)) files)) (Err s)
      → IfOutcome {X = Vec (Vec ℕ)} (λ v. map (λ f. f.items) v.items) (FilesOutcome (map name_of xs) files) (Err s)
  stopped files texts (stop.Refused r) a h =
      subst (λ ns. FilesOutcome ns files (Err (refusal_seen r))) (sym at_one)
      (a.go_on (name_of (slice_index_or xs i d) ∷ map name_of (drop (i + 1) xs)) (Err (refusal_seen r)) (stops (refusal_seen r) h))
  stopped files texts stop.Failed a h = tt
  stopped files texts stop.NoMemory a h = tt

  -- a file that isn't held is what comes of all
  pub read_stops : (files : List File) (texts : List (List ℕ)) (s : code_stop.Stop) → AreRead (map name_of (take i xs)) files texts
      → Gives {X = Vec ℕ} (λ v. v.items) (FileOutcome (name_of (slice_index_or xs i d)) (bytes_of (name_of (slice_index_or xs i d)) files)) (Err s)
      → Gives {X = Vec (Vec ℕ)} (λ v. map (λ f. f.items) v.items) (FilesOutcome (map name_of xs) files) (Err s)
  read_stops files texts s a g = record { outcome = stopped files texts s a g.outcome }

  -- a failure is on one of the files
  pub read_fails : (held : Option (List File)) (last : Option (List ℕ)) (texts : List (List ℕ)) (s : code_stop.Stop)
      → ((files : List File) → held ≡ Some files → AreRead (map name_of (take i xs)) files texts)
      → IfFailed {X = Vec ℕ} (last ≡ Some (name_of (slice_index_or xs i d))) (Err s) → IfFailed {X = Vec (Vec ℕ)} (FailsAtOne (map name_of xs) held last) (Err s)
  read_fails held last texts s a h = failed_again (Vec ℕ) (Vec (Vec ℕ)) (last ≡ Some (name_of (slice_index_or xs i d))) (FailsAtOne (map name_of xs) held last) s (λ told. record {
    before = map name_of (take i xs);
    name = name_of (slice_index_or xs i d);
    after = map name_of (drop (i + 1) xs);
    split = at_one;
    told = told;
    read = λ files e. (texts, all_read (map name_of (take i xs)) files texts (a files e));
  }) h

-- all files are read
pub read_whole : {X : Type 0} (name_of : X → List ℕ) (xs : List X) (i : ℕ) (files : List File) (texts : Vec (Vec ℕ)) → length xs ≤ i
    → AreRead (map name_of (take i xs)) files (map (λ f. f.items) texts.items) → Gives {X = Vec (Vec ℕ)} (λ v. map (λ f. f.items) v.items) (FilesOutcome (map name_of xs) files) (Ok texts)
read_whole name_of xs i files texts l r = record {
  outcome = all_read (map name_of xs) files (map (λ f. f.items) texts.items) (subst (λ ys. AreRead (map name_of ys) files (map (λ f. f.items) texts.items)) (take_all i xs l) r);
}
