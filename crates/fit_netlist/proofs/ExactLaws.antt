-- Exact changes, one more.
use Rattle.std.specs.Prelude.{◌≡◌, ◌+◌, ◌-◌, ◌<◌, ℕ, All, List, drop, length, map, slice_index_or, take}
use Rattle.std.proofs.Common.{arith, subst, sym}
use Rattle.std.proofs.lemmas.List.{length-drop, map_more, take_all}
use Rattle.std.proofs.lemmas.List.Elements.{All-more, All-push}
use Rattle.fit_changes.specs.Changes.{Change, ChangedText, change_seen}
use Rattle.fit_changes.specs.declared.changes.Change as code
use Rattle.fit_netlist.specs.Exact.{AreExact, IsExact, IsExactBy}

pub exact-more : (text : List ℕ) (cs : List code.Change) (i : ℕ) (x : code.Change) → i < length cs → x ≡ slice_index_or cs i x → All (IsExact text) (map change_seen (take i cs)) → IsExact text (change_seen x) → All (IsExact text) (map change_seen (take (i + 1) cs))
exact-more text cs i x lt e h p =
    subst (All (IsExact text)) (sym (map_more change_seen cs i x lt))
    (All-push (IsExact text) (map change_seen (take i cs)) (change_seen (slice_index_or cs i x)) h (subst (λ (y : code.Change). IsExact text (change_seen y)) e p))

-- what a change replaces, as it is cut out of the text
pub exact-at : (text : List ℕ) (x : code.Change) → IsExactBy x.rule (take x.size (take (length text - x.byte) (drop x.byte text))) x.text.items → IsExact text (change_seen x)
exact-at text x p = subst (λ (bs : List ℕ). IsExactBy x.rule (take x.size bs) x.text.items) (take_all (length text - x.byte) (drop x.byte text) (omega (arith, length-drop x.byte text))) p

-- the same of files
abbrev pub IsExactFile : ChangedText → Type 0
IsExactFile f = All (IsExact f.text) f.changes

pub file-exact : (f : ChangedText) (text : List ℕ) (cs : List Change) → text ≡ f.text → cs ≡ f.changes → All (IsExact text) cs → IsExactFile f
file-exact f text cs e h p = subst (λ (t : List ℕ). All (IsExact t) f.changes) e (subst (All (IsExact text)) h p)

pub files-more : (fs : List ChangedText) (i : ℕ) (x : ChangedText) → i < length fs → x ≡ slice_index_or fs i x → AreExact (take i fs) → IsExactFile x → AreExact (take (i + 1) fs)
files-more fs i x lt e h p = All-more IsExactFile fs i x lt h (subst IsExactFile e p)
