-- Laws of rounds: one more behind others.
use Rattle.std.specs.Prelude.{ℕ, ◌≡◌, ◌++◌, ◌∷◌, List, [], refl}
use Rattle.std.proofs.Common.{◌∙◌, ap, append_assoc, sym}
use Rattle.std.proofs.lemmas.List.{append-nil}
use Rattle.fit_changes.specs.Changes.{ChangedText}
use Rattle.fit_changes.specs.Lines.{lines_from}
use Rattle.fit_changes.specs.Rounds.{AreRounds, lines_by, read, written, written_by}

pub rounds-more : (texts : List (List ℕ)) (rounds : List (List ChangedText)) (files : List ChangedText) → AreRounds texts rounds → read files ≡ written_by texts rounds → AreRounds texts (rounds ++ files ∷ [])
rounds-more texts [] files r e = (e, tt)
rounds-more texts (f ∷ fs) files r e = (r.0, rounds-more (written f) fs files r.1 e)

pub written-more : (texts : List (List ℕ)) (rounds : List (List ChangedText)) (files : List ChangedText) → written_by texts (rounds ++ files ∷ []) ≡ written files
written-more texts [] files = refl
written-more texts (f ∷ fs) files = written-more (written f) fs files

pub lines-more : (rounds : List (List ChangedText)) (files : List ChangedText) → lines_by (rounds ++ files ∷ []) ≡ lines_by rounds ++ lines_from 0 files
lines-more [] files = append-nil (lines_from 0 files)
lines-more (f ∷ fs) files = ap (λ ls. lines_from 0 f ++ ls) (lines-more fs files) ∙ sym (append_assoc (lines_from 0 f) (lines_by fs) (lines_from 0 files))
