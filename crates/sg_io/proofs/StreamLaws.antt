-- Bytes that were written in turns, where what a writer holds is known.
use Rattle.std.specs.Prelude.{ℕ, ◌≡◌, ◌-◌, List, ◌++◌, length, take, drop, Option}
use Rattle.std.specs.Io.KnownBytes.{Appends, Keeps}
use Rattle.std.proofs.Common.{sym, ◌∙◌, ap, subst, append_assoc, take-append-drop}
use Rattle.std.proofs.Math.Seq.{take-append_seam}
use Rattle.std.proofs.KnownBytes.{Appends-kept}
use Rattle.std.proofs.lemmas.List.{take_rest}

-- what was added so far is a first part of all
pub part_of : (before now : Option (List ℕ)) (all done rest : List ℕ) → all ≡ done ++ rest → Appends before now done → (taken : ℕ) × Appends before now (take taken all)
part_of before now all done rest split added = (length done, subst (Appends before now) (sym (ap (take (length done)) split ∙ take-append_seam done rest)) added)

pub part_kept : (before now then : Option (List ℕ)) (all done rest : List ℕ) → all ≡ done ++ rest → Appends before now done → Keeps now then → (taken : ℕ) × Appends before then (take taken all)
part_kept before now then all done rest split added kept = part_of before then all done rest split (Appends-kept before now then done added kept)

-- one write more
pub split_further : (all done rest : List ℕ) (n : ℕ) → all ≡ done ++ rest → all ≡ (done ++ take n rest) ++ take (length rest - n) (drop n rest)
split_further all done rest n split =
    split ∙ ap (λ l. done ++ l) (sym (take-append-drop n rest)) ∙ sym (append_assoc done (take n rest) (drop n rest)) ∙ ap (λ l. (done ++ take n rest) ++ l) (sym (take_rest rest n))
