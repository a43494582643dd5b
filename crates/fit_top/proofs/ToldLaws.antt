-- The files that are made.
use Rattle.std.proofs.Common.{◌≡◌, ◌∙◌, sym, ap, ℕ, List, [], ◌∷◌, ◌++◌, map, append_assoc}
use Rattle.std.proofs.lemmas.List.{append-nil}
use Rattle.std.specs.Borrow.{Bor}
use Rattle.std.specs.Global.{Vec}
use Rattle.sg_io.specs.Files.{File}

-- ---- the loop over files that are made, with their names and texts as the code has them

abbrev pub Named : Type 0
Named = Bor (List ℕ) × Vec ℕ

abbrev pub named : Named → List ℕ × List ℕ
named p = (p.0.now, p.1.items)

made_more : {A : Type 0} (done rest whole new : List A) (a : A) → new ≡ done ++ a ∷ [] → whole ≡ done ++ a ∷ rest → whole ≡ new ++ rest
made_more done rest whole new a n h = h ∙ sym (append_assoc done (a ∷ []) rest) ∙ ap (λ l. l ++ rest) (sym n)

pub made_step : (f : List ℕ × List ℕ → File) (all left rest : List Named) (p : Named) (start done new : List File) → left ≡ p ∷ rest → new ≡ done ++ f (named p) ∷ []
    → start ++ map f (map named all) ≡ done ++ map f (map named left) → start ++ map f (map named all) ≡ new ++ map f (map named rest)
made_step f all left rest p start done new e n h =
    made_more done (map f (map named rest)) (start ++ map f (map named all)) new (f (named p)) n (h ∙ ap (λ ps. done ++ map f (map named ps)) e)

pub made_last : (f : List ℕ × List ℕ → File) (all left : List Named) (start done : List File) → left ≡ [] → start ++ map f (map named all) ≡ done ++ map f (map named left) → done ≡ start ++ map f (map named all)
made_last f all left start done e h = sym (h ∙ ap (λ ps. done ++ map f (map named ps)) e ∙ append-nil done)

abbrev file : List ℕ → List ℕ → File
file name bytes = record { name = name; bytes = bytes }

pub same_file : (a b c d : List ℕ) → a ≡ b → c ≡ d → file a c ≡ file b d
same_file a b c d e f = ap (λ n. file n c) e ∙ ap (file b) f
