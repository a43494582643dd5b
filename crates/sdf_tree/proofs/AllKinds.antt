-- The kinds of token in one list, whatever their texts, so that what is checked of each holds of all.
use Rattle.std.proofs.Common.{◌≡◌, ℕ, zero, suc, Bool, true, false, List, [], ◌∷◌, Some, None, refl}
use Rattle.std.specs.Prelude.{◌&&◌, ◌||◌, not, slice_get}
use Rattle.cond_expr.specs.declared.tokens.Op.TheVariants as op
use Rattle.grammar.specs.Exact.{Apart, IsWithin}
use Rattle.grammar.proofs.Finite.{every}
use Rattle.std.proofs.lemmas.Bool.{and_parts}
use Rattle.sdf_tree.specs.declared.keywords.Keyword.TheVariants as word
use Rattle.sdf_tree.specs.Kinds.{Kind, word_kind, selected_kind, operator_kind, select_kind, text_kind, unended_kind, left_kind, right_kind, colon_kind, star_kind, other_kind}

abbrev pub all_kinds : List ℕ → List ℕ → List Kind
all_kinds text name =
    word_kind None text ∷ selected_kind text name ∷ select_kind ∷ text_kind ∷ unended_kind ∷ left_kind ∷
    right_kind ∷ colon_kind ∷ star_kind ∷ other_kind ∷ operator_kind op.Tilde ∷ operator_kind op.Bang ∷
    operator_kind op.And ∷ operator_kind op.Or ∷ operator_kind op.Xor ∷ operator_kind op.Equal ∷
    operator_kind op.Unequal ∷ operator_kind op.CaseEqual ∷ operator_kind op.CaseUnequal ∷
    operator_kind op.TildeXor ∷ operator_kind op.XorTilde ∷ operator_kind op.AndAnd ∷ operator_kind op.OrOr ∷
    word_kind (Some word.DelayFile) text ∷ word_kind (Some word.SdfVersion) text ∷
    word_kind (Some word.Design) text ∷ word_kind (Some word.Date) text ∷ word_kind (Some word.Vendor) text ∷
    word_kind (Some word.Program) text ∷ word_kind (Some word.Version) text ∷
    word_kind (Some word.Process) text ∷ word_kind (Some word.Divider) text ∷
    word_kind (Some word.TimeScale) text ∷ word_kind (Some word.Voltage) text ∷
    word_kind (Some word.Temperature) text ∷ word_kind (Some word.Cell) text ∷
    word_kind (Some word.CellType) text ∷ word_kind (Some word.Instance) text ∷
    word_kind (Some word.Delay) text ∷ word_kind (Some word.TimingCheck) text ∷
    word_kind (Some word.TimingEnv) text ∷ word_kind (Some word.Label) text ∷
    word_kind (Some word.Absolute) text ∷ word_kind (Some word.Increment) text ∷
    word_kind (Some word.PathPulse) text ∷ word_kind (Some word.PathPulsePercent) text ∷
    word_kind (Some word.IoPath) text ∷ word_kind (Some word.Cond) text ∷
    word_kind (Some word.CondElse) text ∷ word_kind (Some word.Port) text ∷
    word_kind (Some word.Interconnect) text ∷ word_kind (Some word.Device) text ∷
    word_kind (Some word.NetDelay) text ∷ word_kind (Some word.Retain) text ∷
    word_kind (Some word.Setup) text ∷ word_kind (Some word.Hold) text ∷ word_kind (Some word.Recovery) text ∷
    word_kind (Some word.Removal) text ∷ word_kind (Some word.Skew) text ∷
    word_kind (Some word.SetupHold) text ∷ word_kind (Some word.RecRem) text ∷
    word_kind (Some word.Width) text ∷ word_kind (Some word.Period) text ∷
    word_kind (Some word.BidirectSkew) text ∷ word_kind (Some word.NoChange) text ∷
    word_kind (Some word.Posedge) text ∷ word_kind (Some word.Negedge) text ∷
    word_kind (Some word.Edge01) text ∷ word_kind (Some word.Edge10) text ∷
    word_kind (Some word.Edge0z) text ∷ word_kind (Some word.EdgeZ1) text ∷
    word_kind (Some word.Edge1z) text ∷ word_kind (Some word.EdgeZ0) text ∷ []

abbrev spot : Kind → ℕ
spot (word_kind None text) = 0
spot (selected_kind text name) = 1
spot select_kind = 2
spot text_kind = 3
spot unended_kind = 4
spot left_kind = 5
spot right_kind = 6
spot colon_kind = 7
spot star_kind = 8
spot other_kind = 9
spot (operator_kind op.Tilde) = 10
spot (operator_kind op.Bang) = 11
spot (operator_kind op.And) = 12
spot (operator_kind op.Or) = 13
spot (operator_kind op.Xor) = 14
spot (operator_kind op.Equal) = 15
spot (operator_kind op.Unequal) = 16
spot (operator_kind op.CaseEqual) = 17
spot (operator_kind op.CaseUnequal) = 18
spot (operator_kind op.TildeXor) = 19
spot (operator_kind op.XorTilde) = 20
spot (operator_kind op.AndAnd) = 21
spot (operator_kind op.OrOr) = 22
spot (word_kind (Some word.DelayFile) text) = 23
spot (word_kind (Some word.SdfVersion) text) = 24
spot (word_kind (Some word.Design) text) = 25
spot (word_kind (Some word.Date) text) = 26
spot (word_kind (Some word.Vendor) text) = 27
spot (word_kind (Some word.Program) text) = 28
spot (word_kind (Some word.Version) text) = 29
spot (word_kind (Some word.Process) text) = 30
spot (word_kind (Some word.Divider) text) = 31
spot (word_kind (Some word.TimeScale) text) = 32
spot (word_kind (Some word.Voltage) text) = 33
spot (word_kind (Some word.Temperature) text) = 34
spot (word_kind (Some word.Cell) text) = 35
spot (word_kind (Some word.CellType) text) = 36
spot (word_kind (Some word.Instance) text) = 37
spot (word_kind (Some word.Delay) text) = 38
spot (word_kind (Some word.TimingCheck) text) = 39
spot (word_kind (Some word.TimingEnv) text) = 40
spot (word_kind (Some word.Label) text) = 41
spot (word_kind (Some word.Absolute) text) = 42
spot (word_kind (Some word.Increment) text) = 43
spot (word_kind (Some word.PathPulse) text) = 44
spot (word_kind (Some word.PathPulsePercent) text) = 45
spot (word_kind (Some word.IoPath) text) = 46
spot (word_kind (Some word.Cond) text) = 47
spot (word_kind (Some word.CondElse) text) = 48
spot (word_kind (Some word.Port) text) = 49
spot (word_kind (Some word.Interconnect) text) = 50
spot (word_kind (Some word.Device) text) = 51
spot (word_kind (Some word.NetDelay) text) = 52
spot (word_kind (Some word.Retain) text) = 53
spot (word_kind (Some word.Setup) text) = 54
spot (word_kind (Some word.Hold) text) = 55
spot (word_kind (Some word.Recovery) text) = 56
spot (word_kind (Some word.Removal) text) = 57
spot (word_kind (Some word.Skew) text) = 58
spot (word_kind (Some word.SetupHold) text) = 59
spot (word_kind (Some word.RecRem) text) = 60
spot (word_kind (Some word.Width) text) = 61
spot (word_kind (Some word.Period) text) = 62
spot (word_kind (Some word.BidirectSkew) text) = 63
spot (word_kind (Some word.NoChange) text) = 64
spot (word_kind (Some word.Posedge) text) = 65
spot (word_kind (Some word.Negedge) text) = 66
spot (word_kind (Some word.Edge01) text) = 67
spot (word_kind (Some word.Edge10) text) = 68
spot (word_kind (Some word.Edge0z) text) = 69
spot (word_kind (Some word.EdgeZ1) text) = 70
spot (word_kind (Some word.Edge1z) text) = 71
spot (word_kind (Some word.EdgeZ0) text) = 72

-- the texts of a kind
abbrev first_text : Kind → List ℕ
first_text (word_kind o text) = text
first_text (selected_kind whole name) = whole
first_text _ = []

abbrev second_text : Kind → List ℕ
second_text (selected_kind whole name) = name
second_text _ = []

is_listed : (k : Kind) → slice_get (all_kinds (first_text k) (second_text k)) (spot k) ≡ Some k
is_listed (word_kind None text) = refl
is_listed (selected_kind text name) = refl
is_listed select_kind = refl
is_listed text_kind = refl
is_listed unended_kind = refl
is_listed left_kind = refl
is_listed right_kind = refl
is_listed colon_kind = refl
is_listed star_kind = refl
is_listed other_kind = refl
is_listed (operator_kind op.Tilde) = refl
is_listed (operator_kind op.Bang) = refl
is_listed (operator_kind op.And) = refl
is_listed (operator_kind op.Or) = refl
is_listed (operator_kind op.Xor) = refl
is_listed (operator_kind op.Equal) = refl
is_listed (operator_kind op.Unequal) = refl
is_listed (operator_kind op.CaseEqual) = refl
is_listed (operator_kind op.CaseUnequal) = refl
is_listed (operator_kind op.TildeXor) = refl
is_listed (operator_kind op.XorTilde) = refl
is_listed (operator_kind op.AndAnd) = refl
is_listed (operator_kind op.OrOr) = refl
is_listed (word_kind (Some word.DelayFile) text) = refl
is_listed (word_kind (Some word.SdfVersion) text) = refl
is_listed (word_kind (Some word.Design) text) = refl
is_listed (word_kind (Some word.Date) text) = refl
is_listed (word_kind (Some word.Vendor) text) = refl
is_listed (word_kind (Some word.Program) text) = refl
is_listed (word_kind (Some word.Version) text) = refl
is_listed (word_kind (Some word.Process) text) = refl
is_listed (word_kind (Some word.Divider) text) = refl
is_listed (word_kind (Some word.TimeScale) text) = refl
is_listed (word_kind (Some word.Voltage) text) = refl
is_listed (word_kind (Some word.Temperature) text) = refl
is_listed (word_kind (Some word.Cell) text) = refl
is_listed (word_kind (Some word.CellType) text) = refl
is_listed (word_kind (Some word.Instance) text) = refl
is_listed (word_kind (Some word.Delay) text) = refl
is_listed (word_kind (Some word.TimingCheck) text) = refl
is_listed (word_kind (Some word.TimingEnv) text) = refl
is_listed (word_kind (Some word.Label) text) = refl
is_listed (word_kind (Some word.Absolute) text) = refl
is_listed (word_kind (Some word.Increment) text) = refl
is_listed (word_kind (Some word.PathPulse) text) = refl
is_listed (word_kind (Some word.PathPulsePercent) text) = refl
is_listed (word_kind (Some word.IoPath) text) = refl
is_listed (word_kind (Some word.Cond) text) = refl
is_listed (word_kind (Some word.CondElse) text) = refl
is_listed (word_kind (Some word.Port) text) = refl
is_listed (word_kind (Some word.Interconnect) text) = refl
is_listed (word_kind (Some word.Device) text) = refl
is_listed (word_kind (Some word.NetDelay) text) = refl
is_listed (word_kind (Some word.Retain) text) = refl
is_listed (word_kind (Some word.Setup) text) = refl
is_listed (word_kind (Some word.Hold) text) = refl
is_listed (word_kind (Some word.Recovery) text) = refl
is_listed (word_kind (Some word.Removal) text) = refl
is_listed (word_kind (Some word.Skew) text) = refl
is_listed (word_kind (Some word.SetupHold) text) = refl
is_listed (word_kind (Some word.RecRem) text) = refl
is_listed (word_kind (Some word.Width) text) = refl
is_listed (word_kind (Some word.Period) text) = refl
is_listed (word_kind (Some word.BidirectSkew) text) = refl
is_listed (word_kind (Some word.NoChange) text) = refl
is_listed (word_kind (Some word.Posedge) text) = refl
is_listed (word_kind (Some word.Negedge) text) = refl
is_listed (word_kind (Some word.Edge01) text) = refl
is_listed (word_kind (Some word.Edge10) text) = refl
is_listed (word_kind (Some word.Edge0z) text) = refl
is_listed (word_kind (Some word.EdgeZ1) text) = refl
is_listed (word_kind (Some word.Edge1z) text) = refl
is_listed (word_kind (Some word.EdgeZ0) text) = refl

holds_at : (p : Kind → Bool) (ks : List Kind) (n : ℕ) (k : Kind) → slice_get ks n ≡ Some k → every p ks ≡ true → p k ≡ true
holds_at p [] n k e h = absurd cc
holds_at p (j ∷ ks) zero k e h = let same : j ≡ k = cc in rw (← same) (and_parts (p j) (every p ks) h).0
holds_at p (j ∷ ks) (suc n) k e h = holds_at p ks n k e (and_parts (p j) (every p ks) h).1

-- a test that each kind passes, whatever its texts
abbrev pub OfAll : (Kind → Bool) → Type 0
OfAll p = (text name : List ℕ) → every p (all_kinds text name) ≡ true

holds_of : (p : Kind → Bool) → OfAll p → (k : Kind) → p k ≡ true
holds_of p h k = holds_at p (all_kinds (first_text k) (second_text k)) (spot k) k (is_listed k) (h (first_text k) (second_text k))

not_both : (b c : Bool) → not (b && c) ≡ true → b ≡ true → c ≡ true → ⊥
not_both true true h p q = cc
not_both true false h p q = cc
not_both false c h p q = cc

implied : (b c : Bool) → (not (b && not c)) ≡ true → b ≡ true → c ≡ true
implied true true h p = refl
implied true false h p = absurd cc
implied false c h p = absurd cc

covered : (b c : Bool) → (c || not b) ≡ true → b ≡ true → c ≡ true
covered b true h p = refl
covered true false h p = absurd cc
covered false false h p = absurd cc

-- no kind is of both: one of the two tests, and then the other where that says yes
pub apart : (c d : Kind → Bool) → OfAll (λ k. not (c k && d k)) → Apart c d
apart c d h k p q = not_both (c k) (d k) (holds_of (λ j. not (c j && d j)) h k) p q

pub apart_next : (c d : Kind → Bool) → OfAll (λ k. not (d k && c k)) → Apart c d
apart_next c d h k p q = not_both (d k) (c k) (holds_of (λ j. not (d j && c j)) h k) q p

-- each kind of the one is of the other
pub is_within : (c d : Kind → Bool) → OfAll (λ k. not (c k && not (d k))) → IsWithin c d
is_within c d h k p = implied (c k) (d k) (holds_of (λ j. not (c j && not (d j))) h k) p

pub is_covered : (c d : Kind → Bool) → OfAll (λ k. d k || not (c k)) → IsWithin c d
is_covered c d h k p = covered (c k) (d k) (holds_of (λ j. d j || not (c j)) h k) p
