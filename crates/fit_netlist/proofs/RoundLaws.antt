-- Rounds, one after another.
use Rattle.std.specs.Prelude.{◌≡◌, ℕ, true, false, List, Option, [], ◌∷◌, ◌++◌, map, refl}
use Rattle.std.proofs.Common.{◌∙◌, ap, append_assoc, arith, inl, inr, subst, sym}
use Rattle.std.proofs.lemmas.List.{append-nil}
use Rattle.std.proofs.lemmas.List.Sorted.{IsPermutation-refl}
use Rattle.std.proofs.lemmas.List.Elements.{All-cons, All-append}
use Rattle.vl_lex.specs.Seen.{texts}
use Rattle.fit_changes.specs.Changes.{ChangedText}
use Rattle.fit_changes.specs.Lines.{AreSorted, Line, line_seen, lines_from}
use Rattle.fit_changes.specs.Rounds.{AreRounds, lines_by, read, written, written_by}
use Rattle.fit_changes.proofs.RoundLaws.{lines-more, rounds-more, written-more}
use Rattle.fit_inside.specs.Inside.{IsInside, IsTreeOf}
use Rattle.fit_netlist.specs.Exact.{AreExact}
use Rattle.fit_netlist.specs.Fitted.{IsFitted, IsKept}
use Rattle.fit_netlist.specs.Phases.{AreMade, IsMadeOf, IsRound}
use Rattle.fit_netlist.specs.declared.fitting.Fitted as code

pub round-of : (files : List ChangedText) (made : List (List ℕ)) (before after : List Line) → made ≡ written files → after ≡ before ++ lines_from 0 files → AreExact files → IsRound (read files) made before after
round-of files made before after w t e = record { files = files; are_read = refl; are_written = w; are_told = t; are_exact = e }

-- of these texts
pub round-at : (ts us made : List (List ℕ)) (before after : List Line) → ts ≡ us → IsRound ts made before after → IsRound us made before after
round-at ts us made before after e r = subst (λ t. IsRound t made before after) e r

pub round-first : (ts made made' : List (List ℕ)) (before after : List Line) → IsRound ts made before after → made ≡ made' → before ≡ [] → IsRound ts made' [] after
round-first ts made made' before after r m b = subst (λ us. IsRound ts us [] after) m (subst (λ ls. IsRound ts made ls after) b r)

-- ---- several

pub none-made : (ts : List (List ℕ)) (lines : List Line) → AreMade ts ts lines lines
none-made ts lines = record { rounds = []; are_rounds = tt; are_written = refl; are_told = sym (append-nil lines); are_exact = λ k d lt. absurd (omega arith) }

pub made-more : (ts mid made : List (List ℕ)) (before between after : List Line) → AreMade ts mid before between → IsRound mid made between after → AreMade ts made before after
made-more ts mid made before between after m r = record {
  rounds = m.rounds ++ r.files ∷ [];
  are_rounds = rounds-more ts m.rounds r.files m.are_rounds (r.are_read ∙ m.are_written);
  are_written = r.are_written ∙ sym (written-more ts m.rounds r.files);
  are_told = r.are_told ∙ ap (λ ls. ls ++ lines_from 0 r.files) m.are_told ∙ append_assoc before (lines_by m.rounds) (lines_from 0 r.files) ∙ ap (λ ls. before ++ ls) (sym (lines-more m.rounds r.files));
  are_exact = All-append AreExact m.rounds (r.files ∷ []) m.are_exact (All-cons AreExact r.files [] r.are_exact (λ k d lt. absurd (omega arith)));
}

-- one ahead of others
pub made-ahead : (ts mid made : List (List ℕ)) (before between after : List Line) → IsRound ts mid before between → AreMade mid made between after → AreMade ts made before after
made-ahead ts mid made before between after r m = record {
  rounds = r.files ∷ m.rounds;
  are_rounds = (r.are_read, subst (λ us. AreRounds us m.rounds) r.are_written m.are_rounds);
  are_written = m.are_written ∙ ap (λ us. written_by us m.rounds) r.are_written;
  are_told = m.are_told ∙ ap (λ ls. ls ++ lines_by m.rounds) r.are_told ∙ append_assoc before (lines_from 0 r.files) (lines_by m.rounds);
  are_exact = All-cons AreExact r.files m.rounds r.are_exact m.are_exact;
}

-- ---- the whole

pub fitted-of : (top : Option (List ℕ)) (ts expanded : List (List ℕ)) (before : List Line) (f : code.Fitted) → IsRound ts expanded [] before → IsMadeOf top expanded before f → IsFitted top ts (texts f.texts.items) (map line_seen f.lines.items)
unfolding made-ahead
fitted-of top ts expanded before f r m =
    let all = made-ahead ts expanded (texts f.texts.items) [] before m.all r m.made in record {
      rounds = r.files ∷ m.made.rounds;
      are_rounds = all.are_rounds;
      are_written = all.are_written;
      are_told = subst (λ ls. AreSorted ls (map line_seen f.lines.items)) all.are_told m.sorted;
      are_exact = all.are_exact;
      is_accepted = m.accepted;
      is_kept = inr (subst (λ ws. IsKept top ws (texts f.texts.items) (map line_seen f.lines.items)) r.are_written m.kept);
    }

nothing-sorted : AreSorted [] []
nothing-sorted = record { same = IsPermutation-refl []; in_order = λ k d low lt. absurd (omega (arith, lt)); stable = λ x. refl }

pub untouched : (top : Option (List ℕ)) (ts made : List (List ℕ)) (lines : List Line) → IsInside ts → made ≡ ts → lines ≡ [] → IsFitted top ts made lines
untouched top ts made lines inside m l = record {
  rounds = [];
  are_rounds = tt;
  are_written = m;
  are_told = subst (AreSorted []) (sym l) nothing-sorted;
  are_exact = λ k d lt. absurd (omega arith);
  is_accepted = (inside.tree, subst (λ us. IsTreeOf us inside.tree) (sym m) inside.is_tree);
  is_kept = inl refl;
}

pub never : (P : Type 0) → false ≡ true → P
never P e = absurd (let x : false ≡ true = e in cc)

-- the same texts and lines by other names
pub made-as : (ts made made' : List (List ℕ)) (before after after' : List Line) → made' ≡ made → after' ≡ after → AreMade ts made before after → AreMade ts made' before after'
made-as ts made made' before after after' m l k = subst (λ us. AreMade ts us before after') (sym m) (subst (AreMade ts made before) (sym l) k)
