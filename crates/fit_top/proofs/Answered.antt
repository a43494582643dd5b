-- The answer for the texts of a netlist and of SDF files, and for the files that are held.
use Rattle.std.proofs.Common.{◌≡◌, ◌∙◌, ap, sym, subst, refl, ℕ, List, [], ◌∷◌, ◌++◌, flat_map, length, map, arith}
use Rattle.std.specs.Prelude.{true, false, Result, Ok, Err, IfOk, zip}
use Rattle.sg_io.specs.Files.{File}
use Rattle.fit_words.specs.Words.{Asked, inputs_of}
use Rattle.fit_changes.specs.Changes.{ChangedText}
use Rattle.fit_changes.specs.Lines.{Line, lines_from}
use Rattle.fit_changes.specs.Rounds.{written}
use Rattle.fit_changes.specs.declared.unfit.Unfit as code_unfit
use Rattle.fit_sdf.specs.Counts.{SdfCount}
use Rattle.fit_top.specs.Answer.{Answer, IsAnswerFor, IsFittedFor, IsTextAnswer, IsUnfit, Meeting, Meets, all_lines, changed_answer, files_of, fitted_answer, made_file, made_files, report_text, status_of, has_faults, has_files, is_right, is_unfit, meets_one, misses_netlist, misses_sdf, missing_line, refusal, texts_of, unfit_line, usage_line}
use Rattle.fit_top.specs.Texts.{AreFitted}
use Rattle.fit_top.specs.declared.status.Status.{Status}
use Rattle.fit_top.specs.declared.status.Status.TheVariants as status

-- ---- by the texts

module _ {X : Type 0} (seen : X → Answer) (asked : Asked) (sdf : List File) where
  -- all that is promised of a netlist that is fitted
  pub fitted_by : {E : Type 0} (r : Result X E) (read made : List (List ℕ)) (lines : List Line) → IsFittedFor asked read made lines
      → IfOk r (λ a. (ts : List (List ℕ)) → IsFittedFor asked ts made lines → IsTextAnswer asked ts sdf (seen a)) → IfOk r (λ a. IsTextAnswer asked read sdf (seen a))
  fitted_by (Ok a) read made lines f h = h read f
  fitted_by (Err e) read made lines f h = h

  -- no SDF file has a fault
  pub changed_by : {E : Type 0} (r : Result X E) (made : List (List ℕ)) (lines : List Line) (files : List ChangedText) (counts : List SdfCount) (told : List ℕ) → AreFitted sdf files told → told ≡ [] → (sdf ≡ [] → counts ≡ [])
      → IfOk r (λ a. seen a ≡ changed_answer asked made (written files) (all_lines asked lines files) counts)
      → IfOk r (λ a. (ts : List (List ℕ)) → IsFittedFor asked ts made lines → IsTextAnswer asked ts sdf (seen a))
  changed_by (Ok a) made lines files counts told t e n h = λ ts f. subst (IsTextAnswer asked ts sdf) (sym h) (is_right made lines files counts f (t.are_fitted e) n)
  changed_by (Err r) made lines files counts told t e n h = h

  -- or one has
  pub faulty_by : (a : X) (made : List (List ℕ)) (lines : List Line) (files : List ChangedText) (told : List ℕ) → AreFitted sdf files told → (told ≡ [] → ⊥) → seen a ≡ refusal status.Sdf told
      → (ts : List (List ℕ)) → IsFittedFor asked ts made lines → IsTextAnswer asked ts sdf (seen a)
  faulty_by a made lines files [] t some e ts f = absurd (some refl)
  faulty_by a made lines files (b ∷ told) t some e ts f = subst (IsTextAnswer asked ts sdf) (sym e) (has_faults made lines b told f t.tell_all)

  pub unfit_by : (a : X) (read : List (List ℕ)) (places : List code_unfit.Unfit) → IsUnfit asked read places → seen a ≡ refusal status.Netlist (flat_map (unfit_line asked.netlists) places)
      → IsTextAnswer asked read sdf (seen a)
  unfit_by a read places u e = subst (IsTextAnswer asked read sdf) (sym e) (is_unfit places u)

pub no_bytes : (told : List ℕ) → length told ≡ 0 → told ≡ []
no_bytes [] e = refl
no_bytes (b ∷ told) e = absurd (omega arith)

-- ---- by the files

module _ {X : Type 0} (seen : X → Answer) (asked : Asked) (meeting : Meeting) (held : List File) where
  pub texts_by : {E : Type 0} (r : Result X E) (netlists sdf : List File) (texts : List (List ℕ)) → Meets meeting asked false → files_of asked.netlists held ≡ Ok netlists → files_of asked.sdf held ≡ Ok sdf
      → texts ≡ texts_of netlists → IfOk r (λ a. IsTextAnswer asked texts sdf (seen a)) → IfOk r (λ a. IsAnswerFor asked meeting held (seen a))
  texts_by (Ok a) netlists sdf texts m n s t h = has_files netlists sdf (seen a) m n s (subst (λ ts. IsTextAnswer asked ts sdf (seen a)) t h)
  texts_by (Err e) netlists sdf texts m n s t h = h

  pub sdf_missed : (a : X) (name : List ℕ) (netlists : List File) → Meets meeting asked false → files_of asked.netlists held ≡ Ok netlists → files_of asked.sdf held ≡ Err name
      → seen a ≡ refusal status.Missing (missing_line name) → IsAnswerFor asked meeting held (seen a)
  sdf_missed a name netlists m n s e = subst (IsAnswerFor asked meeting held) (sym e) (misses_sdf name netlists m n s)

  pub netlist_missed : (a : X) (name : List ℕ) → Meets meeting asked false → files_of asked.netlists held ≡ Err name → seen a ≡ refusal status.Missing (missing_line name) → IsAnswerFor asked meeting held (seen a)
  netlist_missed a name m n e = subst (IsAnswerFor asked meeting held) (sym e) (misses_netlist name m n)

  pub one_met : (a : X) → Meets meeting asked true → seen a ≡ refusal status.Usage usage_line → IsAnswerFor asked meeting held (seen a)
  one_met a m e = subst (IsAnswerFor asked meeting held) (sym e) (meets_one m)

-- ---- the answer for a netlist that is fitted, by its parts

pub fitted_with : (asked : Asked) (made sdf : List (List ℕ)) (lines : List Line) (counts : List SdfCount) (how : Status) (files : List File) (report : List ℕ) → how ≡ status_of lines → files ≡ made_files asked made sdf
    → report ≡ report_text (inputs_of asked) lines counts → record { status = how; made = files; report = report } ≡ fitted_answer asked made sdf lines counts
fitted_with asked made sdf lines counts how files report h f r = λ i. record { status = h i; made = f i; report = r i }

-- the same answer, of other names for its parts
pub answer_as : {X E : Type 0} (seen : X → Answer) (asked : Asked) (r : Result X E) (made made' sdf : List (List ℕ)) (lines lines' : List Line) (counts : List SdfCount) → made ≡ made' → lines ≡ lines'
    → IfOk r (λ a. seen a ≡ changed_answer asked made sdf lines counts) → IfOk r (λ a. seen a ≡ changed_answer asked made' sdf lines' counts)
answer_as seen asked (Ok a) made made' sdf lines lines' counts m l h = h ∙ ap (λ ms. changed_answer asked ms sdf lines counts) m ∙ ap (λ ls. changed_answer asked made' sdf ls counts) l
answer_as seen asked (Err e) made made' sdf lines lines' counts m l h = h

pub lines_with : (asked : Asked) (lines all given : List Line) (n : ℕ) (files files' : List ChangedText) → given ≡ all → all ≡ lines ++ lines_from n files → n ≡ length asked.netlists → files ≡ files' → given ≡ all_lines asked lines files'
lines_with asked lines all given n files files' g a e f = g ∙ a ∙ ap (λ k. lines ++ lines_from k files) e ∙ ap (λ fs. lines ++ lines_from (length asked.netlists) fs) f

-- the files that one call adds
pub added_with : (out : List ℕ) (old new : List File) (names names' texts texts' : List (List ℕ)) → new ≡ old ++ map (made_file out) (zip names texts) → names ≡ names' → texts ≡ texts' → new ≡ old ++ map (made_file out) (zip names' texts')
added_with out old new names names' texts texts' h e f = h ∙ ap (λ ns. old ++ map (made_file out) (zip ns texts)) e ∙ ap (λ ts. old ++ map (made_file out) (zip names' ts)) f

pub made_with : (none more all first behind : List File) → none ≡ [] → more ≡ none ++ first → all ≡ more ++ behind → all ≡ first ++ behind
made_with none more all first behind n m a = a ∙ ap (λ fs. fs ++ behind) (m ∙ ap (λ fs. fs ++ first) n)

pub told_with : (names names' : List (List ℕ)) (lines : List Line) (counts counts' : List SdfCount) (text : List ℕ) → text ≡ report_text names lines counts → names ≡ names' → counts ≡ counts' → text ≡ report_text names' lines counts'
told_with names names' lines counts counts' text t n c = t ∙ ap (λ ns. report_text ns lines counts) n ∙ ap (report_text names' lines) c
