-- Small worked examples of changes, of rounds of them, and of their report.
use Rattle.std.specs.Prelude.{◌≡◌, ◌∷◌, List, [], false, codes, refl}
use Rattle.std.specs.Fmt.{digits}
use Rattle.fit_changes.specs.Changes.{Change, ChangedText, changed, fits}
use Rattle.fit_changes.specs.Report.{counts_text, first_told, lines_text}
use Rattle.fit_changes.specs.Rounds.{lines_by, written_by}
use Rattle.fit_changes.specs.declared.rules.Rule.TheVariants.{Constant, Cut, NegativeLimit}

abbrev pub limit : Change
limit = record { byte = 6; size = 2; text = codes "0"; rule = NegativeLimit; part = codes "dff"; what = codes "a = -1 counts as 0" }

abbrev pub constant : Change
constant = record { byte = 11; size = 1; text = codes "1'b1"; rule = Constant; part = []; what = codes "1 is 1'b1" }

abbrev pub both : ChangedText
both = record { text = codes "a\n a =-1;\n(1)"; changes = limit ∷ constant ∷ [] }

pub text_with_both : changed both.text both.changes ≡ codes "a\n a =0;\n(1'b1)"
text_with_both = refl

-- one that has a line feed more than what it replaces, and one that begins within the one before it
pub keeps_lines : fits both (record constant { byte = 12; text = 10 ∷ [] }) ≡ false
keeps_lines = refl

pub stands_behind : fits both constant ≡ false
stands_behind = refl

-- what comes of it changes once more: the third line loses what stands in parentheses
abbrev pub later : ChangedText
later = record { text = codes "a\n a =0;\n(1'b1)"; changes = record { byte = 9; size = 6; text = []; rule = Cut; part = codes "top"; what = codes "u1" } ∷ [] }

abbrev pub rounds : List (List ChangedText)
rounds = (both ∷ []) ∷ (later ∷ []) ∷ []

pub text_after_rounds : written_by (both.text ∷ []) rounds ≡ codes "a\n a =0;\n" ∷ []
text_after_rounds = refl

pub lines_of_rounds : lines_text (codes "x.v" ∷ []) (lines_by rounds) ≡ codes "x.v:2: dff: same negative-limit: a = -1 counts as 0\nx.v:3: -: same constant: 1 is 1'b1\nx.v:3: top: told cut: u1\n"
unfolding digits
lines_of_rounds = refl

pub first_that_tells : first_told (codes "x.v" ∷ []) (lines_by rounds) ≡ codes "x.v:3: top: told cut: u1\n"
unfolding digits
first_that_tells = refl

pub counts_of_rounds : counts_text (lines_by rounds) ≡ codes "negative-limit 1\nconstant 1\ncut 1\nchanges 3\n"
unfolding digits
counts_of_rounds = refl
