-- Files without changes, and files that were lent.
use Rattle.std.specs.Prelude.{◌≡◌, ℕ, List, [], ◌∷◌, ◌++◌, drop, length, take, refl}
use Rattle.std.proofs.Common.{◌∙◌, ap, sym, arith}
use Rattle.std.proofs.lemmas.List.{length-map, take_all, drop_all, append-nil}
use Rattle.fit_changes.specs.Changes.{ChangedText}
use Rattle.fit_changes.specs.Rounds.{read, written}
use Rattle.fit_netlist.specs.Phases.{as_read}

pub read-as-read : (ts : List (List ℕ)) → read (as_read ts) ≡ ts
read-as-read [] = refl
read-as-read (t ∷ ts) = ap (λ us. t ∷ us) (read-as-read ts)

pub written-as-read : (ts : List (List ℕ)) → written (as_read ts) ≡ ts
written-as-read [] = refl
written-as-read (t ∷ ts) = ap (λ us. t ∷ us) (written-as-read ts)

-- what was lent as a slice stands for the whole
pub lent : (len : ℕ) (new old : List ChangedText) → len ≡ length old → read new ≡ read old → read (take len (new ++ drop (length new) old)) ≡ read old
lent len new old e h =
    let same : length new ≡ length old = sym (length-map new (λ (f : ChangedText). f.text)) ∙ ap length h ∙ length-map old (λ (f : ChangedText). f.text) in
    let none : drop (length new) old ≡ [] = drop_all (length new) old (omega arith) in
    let all : take len new ≡ new = take_all len new (omega arith) in
    ap (λ fs. read (take len (new ++ fs))) none ∙ ap (λ fs. read (take len fs)) (append-nil new) ∙ ap read all ∙ h
