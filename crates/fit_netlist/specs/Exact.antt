-- Changes of which is said what the new text is to be.
use Rattle.std.specs.Prelude.{ℕ, List, All}
use Rattle.fit_changes.specs.Changes.{Change, ChangedText, replaced}
use Rattle.fit_checks.specs.Forms as forms
use Rattle.fit_changes.specs.declared.rules.Rule.{Rule}
use Rattle.fit_changes.specs.declared.rules.Rule.TheVariants as rule

-- A check with conditions of its time stamp and its time check gives way to checks that have the same violations.
abbrev pub IsExactBy : Rule → (old new : List ℕ) → Type 0
IsExactBy rule.StampCondition old new = forms.IsExact old new
IsExactBy rule.SplitCheck old new = forms.IsExact old new
IsExactBy _ old new = Unit {0}

abbrev pub IsExact : List ℕ → Change → Type 0
IsExact text c = IsExactBy c.rule (replaced text c) c.text

abbrev pub AreExact : List ChangedText → Type 0
AreExact files = All (λ f. All (IsExact f.text) f.changes) files
