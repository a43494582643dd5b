-- Texts in three pieces: the line of a group, and the figures.
use Rattle.std.proofs.Common.{◌≡◌, ◌∙◌, sym, ap, ℕ, suc, ◌+◌, ◌-◌, ℤ, List, [], ◌∷◌, ◌++◌, length, flat_map, append_assoc, arith}
use Rattle.tally_violations.specs.Figures.{counts_text, figures_text, group_line, key_text, unused_line, values_text, worst}
use Rattle.tally_violations.specs.Groups.{groups}
use Rattle.tally_violations.specs.Left.{unused}
use Rattle.tally_violations.specs.declared.violations.Violation.{Violation}
use Rattle.tally_violations.specs.declared.waivers.Waiver.{Waiver}

three : (old one two new a b c : List ℕ) → one ≡ old ++ a → two ≡ one ++ b → new ≡ two ++ c → new ≡ old ++ ((a ++ b) ++ c)
three old one two new a b c e f g =
    g ∙ (ap (λ t. t ++ c) (f ∙ (ap (λ t. t ++ b) e ∙ append_assoc old a b)) ∙ append_assoc old (a ++ b) c)

pub line_told : (old one two new : List ℕ) (v : Violation) (vs : List Violation) (count : ℕ) (short : ℤ) → count ≡ length vs + 1 → short ≡ worst v.short vs → one ≡ old ++ key_text v
    → two ≡ one ++ values_text count v.time short → new ≡ two ++ 10 ∷ [] → new ≡ old ++ group_line (v ∷ vs)
line_told old one two new v vs count short n most e f g =
    let as_many : count ≡ suc (length vs) = omega (arith, n) in
    three old one two new (key_text v) (values_text (suc (length vs)) v.time (worst v.short vs)) (10 ∷ []) e
    (f ∙ (ap (λ k. one ++ values_text k v.time short) as_many ∙ ap (λ m. one ++ values_text (suc (length vs)) v.time m) most)) g

pub figures_told : (old one two new name : List ℕ) (all ordered : List Violation) (ws : List Waiver) (waived : ℕ) → waived ≡ length all - length ordered → one ≡ old ++ flat_map group_line (groups ordered)
    → two ≡ one ++ flat_map (unused_line name) (unused all ws) → new ≡ two ++ counts_text (length ordered) waived → new ≡ old ++ figures_text name all ws ordered
figures_told old one two new name all ordered ws waived n e f g =
    three old one two new (flat_map group_line (groups ordered)) (flat_map (unused_line name) (unused all ws)) (counts_text (length ordered) (length all - length ordered)) e f
    (g ∙ ap (λ k. two ++ counts_text (length ordered) k) n)
