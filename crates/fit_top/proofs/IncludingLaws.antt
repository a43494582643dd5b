-- Included files that are looked for.
use Rattle.std.proofs.Common.{◌≡◌, ◌∙◌, sym, ap, subst, inl, inr, ℕ, ◌⊎◌, ◌<◌, length, List, [], ◌∷◌, ◌++◌, map, true, false}
use Rattle.std.proofs.lemmas.Bool.{or_cases}
use Rattle.std.proofs.lemmas.List.Folds.{list_any-append}
use Rattle.std.specs.Borrow.{Bor}
use Rattle.std.specs.Cmp.Lexicographic.{bytes_decides}
use Rattle.std.specs.List.{list_any}
use Rattle.std.specs.Path.{path_join, path_parent}
use Rattle.std.specs.Prelude.{Option, Some, None, Result, Ok, Err, IfOk, IfSome, bytes_eq, slice_index_or, unwrap_or}
use Rattle.fit_text.specs.declared.given.Found as code_found
use Rattle.fit_text.specs.declared.given.Included as code_included
use Rattle.fit_words.specs.Words.{Asked, inputs_of, made_of}
use Rattle.fit_top.specs.Including.{AreSought, FailsReading, GivesSought, IsSource, any_has_path, has_path}
use Rattle.fit_top.specs.Names.{IsOneOf, IsSought, beside, beside_netlist, beside_sought, in_folder}
use Rattle.fit_top.specs.Promises.{IsReached}
use Rattle.fit_top.specs.Stops.{FailsAmong, FailsAt}
use Rattle.fit_top.specs.declared.stop.Stop.{Stop}
use Rattle.fit_top.specs.declared.stop.Stop.TheVariants as stop
use Rattle.fit_top.proofs.Reading.{one_front, one_named}

-- ---- files that include others

pub one_of_names : (file : List ℕ) (names : List (Bor (List ℕ))) → list_any (λ n. bytes_eq n.now file) names ≡ true → IsOneOf (map (λ n. n.now) names) file
one_of_names file [] e = cc
one_of_names file (n ∷ ns) e = elim (or_cases (bytes_eq n.now file) (list_any (λ m. bytes_eq m.now file) ns) e) [
  | inl h ↦ inl (sym ((bytes_decides n.now file).0 h))
  | inr h ↦ inr (one_of_names file ns h)
]

pub source_netlist : (asked : Asked) (file : List ℕ) (names given : List (Bor (List ℕ))) → given ≡ names → list_any (λ n. bytes_eq n.now file) given ≡ true → map (λ n. n.now) names ≡ asked.netlists → IsSource asked file
source_netlist asked file names given g e n = inl (subst (λ ns. IsOneOf ns file) (ap (map (λ (m : Bor (List ℕ)). m.now)) g ∙ n) (one_of_names file given e))

pub source_found : (asked : Asked) (file : List ℕ) (included : List code_included.Included) → AreSought asked included → any_has_path file included ≡ true → IsSource asked file
source_found asked file included s e = inr (s file e)

pub none_sought : (asked : Asked) → AreSought asked []
none_sought asked file e = cc

found_sought : (asked : Asked) (file : List ℕ) (found : Option code_found.Found) → GivesSought asked found → has_path file found ≡ true → IsSought asked file
found_sought asked file None g e = cc
found_sought asked file (Some f) g e = subst (IsSought asked) ((bytes_decides f.path.items file).0 e) g

no_more : false ≡ true → ⊥
no_more e = cc

-- one more
pub more_sought : (asked : Asked) (old new : List code_included.Included) (i : code_included.Included) → new ≡ old ++ i ∷ [] → AreSought asked old → GivesSought asked i.found → AreSought asked new
more_sought asked old new i n s g = λ file e. by file (or_cases (any_has_path file old) (any_has_path file (i ∷ [])) (sym (list_any-append (λ j. has_path file j.found) old (i ∷ [])) ∙ ap (any_has_path file) (sym n) ∙ e))
  where
    by : (file : List ℕ) → (any_has_path file old ≡ true) ⊎ (any_has_path file (i ∷ []) ≡ true) → IsSought asked file
    by file (inl h) = s file h
    by file (inr h) = elim (or_cases (has_path file i.found) false h) [ inl k ↦ found_sought asked file i.found g k | inr k ↦ absurd (no_more k) ]

-- ---- where they are looked for

pub beside_source : (asked : Asked) (file name : List ℕ) → IsSource asked file → IsSought asked (beside file name)
beside_source asked file name (inl n) = beside_netlist file name n
beside_source asked file name (inr s) = beside_sought file name s

pub in_one : (asked : Asked) (folders given : List (Bor (List ℕ))) (i : ℕ) (d : Bor (List ℕ)) (name : List ℕ) → given ≡ folders → map (λ n. n.now) folders ≡ asked.includes → i < length given → IsSought asked (path_join (slice_index_or given i d).now name)
in_one asked folders given i d name g e l =
    in_folder (slice_index_or given i d).now name (subst (λ ns. IsOneOf ns (slice_index_or given i d).now) (ap (map (λ (m : Bor (List ℕ)). m.now)) g ∙ e) (one_named (λ (m : Bor (List ℕ)). m.now) given i d l))

pub gives_sought : {E : Type 0} (asked : Asked) (path : List ℕ) (r : Result (Option code_found.Found) E) → IsSought asked path → IfOk r (λ found. IfSome found (λ f. f.path.items ≡ path)) → IfOk r (GivesSought asked)
gives_sought asked path (Ok None) s h = h
gives_sought asked path (Ok (Some f)) s h = subst (IsSought asked) (sym h) s
gives_sought asked path (Err e) s h = h

-- ---- calls to read that fail

pub fails_sought : (X Y : Type 0) (asked : Asked) (last : Option (List ℕ)) (path : List ℕ) (s : Stop) → IsSought asked path → FailsAt {X = X} last path (Err s) → FailsReading {X = Y} asked last (Err s)
fails_sought X Y asked last path stop.Failed s h = record { name = path; told = h; reached = inr s }
fails_sought X Y asked last path (stop.Folder n) s h = tt
fails_sought X Y asked last path stop.NoMemory s h = tt

pub fails_finding : {X : Type 0} (asked : Asked) (last : Option (List ℕ)) (path : List ℕ) (r : Result X Stop) → IsSought asked path → FailsAt last path r → FailsReading asked last r
fails_finding asked last path (Ok x) s h = tt
fails_finding {X} asked last path (Err e) s h = fails_sought X X asked last path e s h

pub fails_input : (X Y : Type 0) (asked : Asked) (last : Option (List ℕ)) (names : List (List ℕ)) (s : Stop) → ((n : List ℕ) → IsOneOf names n → IsOneOf (inputs_of asked) n) → FailsAmong {X = X} last names (Err s) → FailsReading {X = Y} asked last (Err s)
fails_input X Y asked last names stop.Failed f h = record { name = h.name; told = h.told; reached = inl (f h.name h.among) }
fails_input X Y asked last names (stop.Folder n) f h = tt
fails_input X Y asked last names stop.NoMemory f h = tt

pub reached_by : (asked : Asked) (name : List ℕ) → IsOneOf (inputs_of asked) name ⊎ IsSought asked name → IsReached (Some asked) name
reached_by asked name (inl one) = inl (one_front name (inputs_of asked) (made_of asked) one)
reached_by asked name (inr s) = inr s

-- beside a file whose folder this is
pub beside_path : (asked : Asked) (file text folder name : List ℕ) → IsSource asked file → text ≡ file → folder ≡ unwrap_or (path_parent text) [] → IsSought asked (path_join folder name)
beside_path asked file text folder name s t f =
    subst (λ p. IsSought asked (path_join p name)) (sym (f ∙ ap (λ (x : List ℕ). unwrap_or (path_parent x) []) t)) (beside_source asked file name s)
