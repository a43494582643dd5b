-- SDF files with their changes, one after another.
use Rattle.std.proofs.Common.{◌≡◌, ◌∙◌, sym, ap, subst, refl, ℕ, ◌+◌, ◌<◌, ◌≤◌, List, [], ◌∷◌, ◌++◌, flat_map, length, map, take, append_assoc}
use Rattle.std.proofs.lemmas.List.{append-nil, take_all}
use Rattle.std.specs.Prelude.{Result, Ok, Err, IfOk, OnOk, slice_index_or}
use Rattle.sdf_read.specs.declared.faults.SdfKind.{SdfKind}
use Rattle.sg_io.specs.Files.{File}
use Rattle.fit_changes.specs.Changes.{AreInOrder, Change, ChangedText, changed}
use Rattle.fit_sdf.specs.Fitted.{IsReadable, RefusesWith}
use Rattle.fit_sdf.specs.declared.unfit.SdfUnfit.TheVariants as unfit
use Rattle.fit_top.specs.Answer.{AreFittedSdf, IsFittedSdf, TellAllSdf, TellsSdf, is_faulty, is_fitted, line, place_text, sdf_fault_line, sdf_kind}
use Rattle.fit_top.specs.Texts.{AddsSdf, AreFitted, adds_changes, adds_fault}
use Rattle.fit_top.proofs.MakingLaws.{one_taken}

-- ---- one file more

tell_more : (fs : List File) (f : File) (told own : List ℕ) → TellAllSdf fs told → TellsSdf f.name f.bytes own → TellAllSdf (fs ++ f ∷ []) (told ++ own)
tell_more [] f told own h t = (own, [], t, refl, ap (λ x. x ++ own) h ∙ sym (append-nil own))
tell_more (g ∷ fs) f told own h t = (h.0, h.1 ++ own, h.2, tell_more fs f h.1 own h.3 t, ap (λ x. x ++ own) h.4 ∙ append_assoc h.0 h.1 own)

abbrev with : List ℕ → List Change → ChangedText
with text changes = record { text = text; changes = changes }

fit_more : (fs : List File) (f : File) (files : List ChangedText) (changes : List Change) → AreFittedSdf fs files → IsFittedSdf f.bytes changes → AreFittedSdf (fs ++ f ∷ []) (files ++ with f.bytes changes ∷ [])
fit_more [] f files changes h k = (changes, [], k, refl, ap (λ l. l ++ with f.bytes changes ∷ []) h)
fit_more (g ∷ fs) f files changes h k = (h.0, h.1 ++ with f.bytes changes ∷ [], h.2, fit_more fs f h.1 changes h.3 k, ap (λ l. l ++ with f.bytes changes ∷ []) h.4)

some_last : (xs : List ℕ) (b : ℕ) → xs ++ b ∷ [] ≡ [] → ⊥
some_last [] b e = cc
some_last (x ∷ xs) b e = cc

some_line : (told text : List ℕ) → told ++ line text ≡ [] → ⊥
some_line told text e = some_last (told ++ text) 10 (append_assoc told text (10 ∷ []) ∙ e)

one_more : (fs : List File) (f : File) (files new : List ChangedText) (told more : List ℕ) → AreFitted fs files told → AddsSdf f files new told more → AreFitted (fs ++ f ∷ []) new more
one_more fs f files new told more h (adds_changes changes k n m) = record {
  tell_all = subst (TellAllSdf (fs ++ f ∷ [])) (append-nil told ∙ sym m) (tell_more fs f told [] h.tell_all (is_fitted changes k));
  are_fitted = λ e. subst (AreFittedSdf (fs ++ f ∷ [])) (sym n) (fit_more fs f files changes (h.are_fitted (sym m ∙ e)) k);
}
one_more fs f files new told more h (adds_fault kind number k m) = record {
  tell_all = subst (TellAllSdf (fs ++ f ∷ [])) (sym m) (tell_more fs f told (sdf_fault_line f.name number kind) h.tell_all (is_faulty kind number k));
  are_fitted = λ e. absurd (some_line told (place_text f.name number (sdf_kind kind)) (sym m ∙ e));
}

-- ---- the loop

pub none_fitted : (files : List ChangedText) (told : List ℕ) → files ≡ [] → told ≡ [] → AreFitted [] files told
none_fitted files told f t = record { tell_all = t; are_fitted = λ e. f }

pub each_more : {X : Type 0} (seen : X → File) (xs : List X) (i : ℕ) (x : X) → x ≡ slice_index_or xs i x → i < length xs → (files new : List ChangedText) (told more : List ℕ)
    → AreFitted (map seen (take i xs)) files told → AddsSdf (seen x) files new told more → AreFitted (map seen (take (i + 1) xs)) new more
each_more seen xs i x is l files new told more h a = subst (λ fs. AreFitted fs new more) (sym (one_taken seen xs i x is l)) (one_more (map seen (take i xs)) (seen x) files new told more h a)

pub each_fitted : {X : Type 0} (seen : X → File) (xs : List X) (i : ℕ) (files : List ChangedText) (told : List ℕ) → length xs ≤ i → AreFitted (map seen (take i xs)) files told → AreFitted (map seen xs) files told
each_fitted seen xs i files told l h = subst (λ ys. AreFitted (map seen ys) files told) (take_all i xs l) h

-- ---- what one call adds

pub changes_added : (f : File) (files new : List ChangedText) (told more : List ℕ) (t : ChangedText) → t.text ≡ f.bytes → AreInOrder 0 t.text t.changes → IsReadable (changed t.text t.changes) → new ≡ files ++ t ∷ [] → more ≡ told
    → AddsSdf f files new told more
changes_added f files new told more t e o r n m =
    adds_changes t.changes (record { are_in_order = subst (λ x. AreInOrder 0 x t.changes) e o; is_readable = subst (λ x. IsReadable (changed x t.changes)) e r })
    (n ∙ ap (λ x. files ++ with x t.changes ∷ []) e) m

pub fault_added : {E : Type 0} (r : Result (Unit {0}) E) (f : File) (files new : List ChangedText) (told more : List ℕ) (kind : SdfKind) (number : ℕ) → RefusesWith f.bytes (unfit.Fault kind number)
    → OnOk r (more ≡ told ++ line (place_text f.name number (sdf_kind kind))) → OnOk r (AddsSdf f files new told more)
fault_added (Ok u) f files new told more kind number k h = adds_fault kind number k h
fault_added (Err e) f files new told more kind number k h = h

-- ---- the counts

pub report_by : (none one two all lines rules counts : List ℕ) → none ≡ [] → one ≡ none ++ lines → two ≡ one ++ rules → all ≡ two ++ counts → all ≡ lines ++ rules ++ counts
report_by none one two all lines rules counts n o t a = a ∙ ap (λ x. x ++ counts) (t ∙ ap (λ x. x ++ rules) (o ∙ ap (λ x. x ++ lines) n))

-- there is a file
pub some_counted : {R E : Type 0} (r : Result R E) (P : R → Type 0) (Q : Type 0) → (Q → ⊥) → IfOk r (λ x. Q → P x)
some_counted (Ok x) P Q n = λ q. absurd (n q)
some_counted (Err e) P Q n = tt
