-- Where changes lie.
use Rattle.std.specs.Prelude.{◌≡◌, ◌≤◌, ◌+◌, ◌<◌, ℕ, zero, suc, List, [], ◌∷◌, ◌-◌, drop, length, map, slice_index_or, take}
use Rattle.std.proofs.Common.{◌∙◌, ap, arith, subst, sym}
use Rattle.std.proofs.lemmas.List.{length-drop, length-take-le, take_all}
use Rattle.fit_changes.specs.Changes.{AreInOrder, change_seen}
use Rattle.fit_changes.specs.declared.changes.Change as code

-- each lies in the text
pub within-at : (from : ℕ) (text : List ℕ) (changes : List code.Change) (k : ℕ) (x : code.Change) → AreInOrder from text (map change_seen changes) → k < length changes → x ≡ slice_index_or changes k x → x.byte + x.size ≤ length text
within-at from text [] k x o lt e = absurd (omega (arith, lt))
within-at from text (c ∷ cs) zero x o lt e = subst (λ (y : code.Change). y.byte + y.size ≤ length text) (sym e) o.1
within-at from text (c ∷ cs) (suc k) x o lt e = within-at (c.byte + c.size) text cs k x o.3 (omega (arith, lt)) e

-- what it replaces is as long as it says
pub piece-whole : (text : List ℕ) (byte : ℕ) → length (take (length text - byte) (drop byte text)) ≡ length text - byte
piece-whole text byte = ap length (take_all (length text - byte) (drop byte text) (omega (arith, length-drop byte text))) ∙ length-drop byte text

pub piece-taken : (text : List ℕ) (byte size : ℕ) → byte + size ≤ length text → length (take size (take (length text - byte) (drop byte text))) ≡ size
piece-taken text byte size le = length-take-le size (take (length text - byte) (drop byte text)) (omega (arith, le, piece-whole text byte))
