-- The files that an answer makes are those that the words name, or none.
use Rattle.std.proofs.Common.{◌≡◌, ◌∙◌, sym, ap, subst, refl, inl, inr, ℕ, suc, ◌⊎◌, List, [], ◌∷◌, ◌++◌, length, map, Bool, true, false, cond}
use Rattle.std.proofs.lemmas.List.{length-map, map-append}
use Rattle.std.proofs.lemmas.Slice.Zip.{firsts-zip}
use Rattle.std.specs.Prelude.{Option, Some, None, Result, Ok, Err, zip, ◌&&◌}
use Rattle.sg_io.specs.Files.{File, bytes_of}
use Rattle.fit_words.specs.Words.{Asked, inputs_of, made_name, made_of}
use Rattle.fit_changes.specs.Changes.{ChangedText, changed}
use Rattle.fit_changes.specs.Lines.{Line}
use Rattle.fit_changes.specs.Report.{are_told, first_told}
use Rattle.fit_changes.specs.Rounds.{AreRounds, written, written_by}
use Rattle.fit_sdf.specs.Counts.{SdfCount}
use Rattle.fit_top.specs.Answer.{Answer, IsAnswerFor, IsFittedFor, IsTextAnswer, AreFittedSdf, Meeting, all_lines, changed_answer, files_of, fitted_answer, has_faults, has_files, is_right, is_unfit, made_file, made_files, meets_one, misses_netlist, misses_sdf, refusal, texts_of, with_file}
use Rattle.fit_top.specs.Names.{IsNoneOf, IsOneOf}
use Rattle.fit_top.specs.declared.status.Status.TheVariants as status

abbrev names_of : List File → List (List ℕ)
names_of files = map (λ f. f.name) files

pub map_twice : {A B C : Type 0} (g : B → C) (f : A → B) (xs : List A) → map g (map f xs) ≡ map (λ x. g (f x)) xs
map_twice g f [] = refl
map_twice g f (x ∷ xs) = ap (λ l. g (f x) ∷ l) (map_twice g f xs)

one_read : (name : List ℕ) (names : List (List ℕ)) (held : Option (List ℕ)) (more : Result (List File) (List ℕ)) (files : List File)
    → ((fs : List File) → more ≡ Ok fs → names_of fs ≡ names) → with_file name held more ≡ Ok files → names_of files ≡ name ∷ names
one_read name names None more files f e = cc
one_read name names (Some bytes) (Err m) files f e = cc
one_read name names (Some bytes) (Ok fs) files f e =
    let P : Result (List File) (List ℕ) → Type 0 = λ r. elim r as (λ _. Type 0) [ Ok x ↦ names_of x ≡ name ∷ names | Err m ↦ Unit {0} ] in
    subst P e (ap (λ l. name ∷ l) (f fs refl))

-- the names of files that were read
pub read_names : (names : List (List ℕ)) (held files : List File) → files_of names held ≡ Ok files → names_of files ≡ names
read_names [] held files e =
    let P : Result (List File) (List ℕ) → Type 0 = λ r. elim r as (λ _. Type 0) [ Ok x ↦ names_of x ≡ [] | Err m ↦ Unit {0} ] in
    subst P e refl
read_names (n ∷ ns) held files e = one_read n ns (bytes_of n held) (files_of ns held) files (λ fs h. read_names ns held fs h) e

of_files : (out : List ℕ) (names texts : List (List ℕ)) → length texts ≡ length names → names_of (map (made_file out) (zip names texts)) ≡ map (made_name out) names
of_files out names texts l =
    map_twice (λ (f : File). f.name) (made_file out) (zip names texts)
    ∙ sym (map_twice (made_name out) (λ (p : List ℕ × List ℕ). p.0) (zip names texts))
    ∙ ap (map (made_name out)) (firsts-zip names texts l)

module _ (asked : Asked) (made sdf : List (List ℕ)) (lines : List Line) (counts : List SdfCount) where
  pub made_names : length made ≡ length asked.netlists → length sdf ≡ length asked.sdf → names_of (made_files asked made sdf) ≡ made_of asked
  made_names l k =
      map-append (λ (f : File). f.name) (map (made_file asked.out) (zip asked.netlists made)) (map (made_file asked.out) (zip asked.sdf sdf))
      ∙ ap (λ ns. ns ++ names_of (map (made_file asked.out) (zip asked.sdf sdf))) (of_files asked.out asked.netlists made l)
      ∙ ap (λ ns. map (made_name asked.out) asked.netlists ++ ns) (of_files asked.out asked.sdf sdf k)
      ∙ sym (map-append (made_name asked.out) asked.netlists asked.sdf)

  -- none, or these
  abbrev pub AreMade : Answer → Type 0
  AreMade answer = (answer.made ≡ []) ⊎ (names_of answer.made ≡ made_of asked)

  pub changed_made : length made ≡ length asked.netlists → length sdf ≡ length asked.sdf → AreMade (changed_answer asked made sdf lines counts)
  changed_made l k = by (asked.is_strict && are_told lines)
    where
      by : (b : Bool) → AreMade (cond b (refusal status.Told (first_told (inputs_of asked) lines)) (fitted_answer asked made sdf lines counts))
      by true = inl refl
      by false = inr (made_names l k)

-- rounds of changes leave as many texts as there are
as_many : (ts : List (List ℕ)) (rounds : List (List ChangedText)) → AreRounds ts rounds → length (written_by ts rounds) ≡ length ts
as_many ts [] r = refl
as_many ts (files ∷ rounds) r =
    as_many (written files) rounds r.1 ∙ length-map files (λ (t : ChangedText). changed t.text t.changes) ∙ sym (length-map files (λ (t : ChangedText). t.text)) ∙ ap length r.0

same_length : (asked : Asked) (made : List (List ℕ)) (lines : List Line) (netlists held : List File) → IsFittedFor asked (texts_of netlists) made lines → files_of asked.netlists held ≡ Ok netlists → length made ≡ length asked.netlists
same_length asked made lines netlists held e f =
    ap length e.fitted.are_written ∙ as_many (texts_of netlists) e.fitted.rounds e.fitted.are_rounds ∙ length-map netlists (λ (n : File). n.bytes)
    ∙ sym (length-map netlists (λ (n : File). n.name)) ∙ ap length (read_names asked.netlists held netlists f)

-- so do changes of SDF files
as_many_sdf : (sdf : List File) (files : List ChangedText) → AreFittedSdf sdf files → length (written files) ≡ length sdf
as_many_sdf [] files e = ap (λ fs. length (written fs)) e
as_many_sdf (f ∷ fs) files h = ap (λ l. length (written l)) h.4 ∙ ap suc (as_many_sdf fs h.1 h.3)

same_length_sdf : (asked : Asked) (sdf held : List File) (files : List ChangedText) → AreFittedSdf sdf files → files_of asked.sdf held ≡ Ok sdf → length (written files) ≡ length asked.sdf
same_length_sdf asked sdf held files h e = as_many_sdf sdf files h ∙ sym (length-map sdf (λ (f : File). f.name)) ∙ ap length (read_names asked.sdf held sdf e)

text_made : (asked : Asked) (netlists sdf held : List File) (answer : Answer) → files_of asked.netlists held ≡ Ok netlists → files_of asked.sdf held ≡ Ok sdf → IsTextAnswer asked (texts_of netlists) sdf answer
    → (answer.made ≡ []) ⊎ (names_of answer.made ≡ made_of asked)
text_made asked netlists sdf held _ n s (is_unfit places u) = inl refl
text_made asked netlists sdf held _ n s (has_faults made lines b told f t) = inl refl
text_made asked netlists sdf held _ n s (is_right made lines files counts f t k) =
    changed_made asked made (written files) (all_lines asked lines files) counts (same_length asked made lines netlists held f n) (same_length_sdf asked sdf held files t s)

pub answer_made : (asked : Asked) (meeting : Meeting) (held : List File) (answer : Answer) → IsAnswerFor asked meeting held answer → (answer.made ≡ []) ⊎ (names_of answer.made ≡ made_of asked)
answer_made asked meeting held _ (meets_one m) = inl refl
answer_made asked meeting held _ (misses_netlist name m n) = inl refl
answer_made asked meeting held _ (misses_sdf name netlists m n s) = inl refl
answer_made asked meeting held _ (has_files netlists sdf answer m n s t) = text_made asked netlists sdf held answer n s t

-- a name that is none of those that the words name is none of these, and one of these is one of those
pub none_made_by : (asked : Asked) (made : List File) → (made ≡ []) ⊎ (names_of made ≡ made_of asked) → (q : List ℕ) → IsNoneOf (made_of asked) q → IsNoneOf (names_of made) q
none_made_by asked made (inl e) q h = subst (λ fs. IsNoneOf (names_of fs) q) (sym e) tt
none_made_by asked made (inr e) q h = subst (λ ns. IsNoneOf ns q) (sym e) h

pub one_made_by : (asked : Asked) (made : List File) → (made ≡ []) ⊎ (names_of made ≡ made_of asked) → (q : List ℕ) → IsOneOf (names_of made) q → IsOneOf (made_of asked) q
one_made_by asked made (inl e) q h = absurd (subst (λ fs. IsOneOf (names_of fs) q) e h)
one_made_by asked made (inr e) q h = subst (λ ns. IsOneOf ns q) e h
