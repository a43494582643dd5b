-- The line of a notifier's event, by the place of the violation that toggled it.
use Rattle.std.specs.Prelude.{◌≡◌, ℕ, ◌+◌, List, [], ◌∷◌, ◌++◌, Option, Some, None, codes, find, map, position}
use Rattle.std.proofs.Common.{sym, ◌∙◌, ap, subst, arith, get_or}
use Rattle.std.proofs.lemmas.List.{append_assoc}
use Rattle.std.proofs.lemmas.Iterator.Adapters.{position_from-zero}
use Rattle.sg_circuit.specs.Circuit.{Circuit}
use Rattle.time_checks.specs.declared.violations.Violation.{Violation}
use Rattle.time_checks.specs.Seen.{violation_seen}
use Rattle.run_report.specs.Report.{violation_line}
use Rattle.why_causes.specs.declared.events.Event.{Event}
use Rattle.why_text.specs.Lines.{event_front, toggled_line, toggles}
use Rattle.why_text.proofs.FirstLaws.{found_at, none_found}

found : (c : Circuit) (e : Event) (vs : List Violation) (place : ℕ) (d : Violation) → Some place ≡ position (λ v. toggles c e (violation_seen v)) vs
    → find (toggles c e) (map (λ v. violation_seen v) vs) ≡ Some (violation_seen (get_or vs place d))
found c e vs place d is =
    let r = found_at (toggles c e) (λ v. violation_seen v) 0 vs d place (sym (is ∙ position_from-zero (λ v. toggles c e (violation_seen v)) vs)) in
    let i : r.0 ≡ place = (let k = r.1 in omega (arith, k)) in
    subst (λ j. find (toggles c e) (map (λ v. violation_seen v) vs) ≡ Some (violation_seen (get_or vs j d))) i r.2

pub toggled_by : (c : Circuit) (e : Event) (vs : List Violation) (place : ℕ) (d : Violation) (old front text new : List ℕ) → Some place ≡ position (λ v. toggles c e (violation_seen v)) vs
    → front ≡ old ++ event_front c e → text ≡ front ++ codes " toggled by " → new ≡ text ++ violation_line c (violation_seen (get_or vs place d))
    → new ≡ old ++ toggled_line c e (find (toggles c e) (map (λ v. violation_seen v) vs))
toggled_by c e vs place d old front text new is f t n =
    let v = violation_line c (violation_seen (get_or vs place d)) in
    n ∙ (ap (λ x. x ++ v) (t ∙ ap (λ x. x ++ codes " toggled by ") f)
    ∙ (ap (λ x. x ++ v) (append_assoc old (event_front c e) (codes " toggled by "))
    ∙ (append_assoc old (event_front c e ++ codes " toggled by ") v
    ∙ ap (λ o. old ++ toggled_line c e o) (sym (found c e vs place d is)))))

pub toggled_by_none : (c : Circuit) (e : Event) (vs : List Violation) (old front new : List ℕ) → None ≡ position (λ v. toggles c e (violation_seen v)) vs
    → front ≡ old ++ event_front c e → new ≡ front ++ codes " toggled\n" → new ≡ old ++ toggled_line c e (find (toggles c e) (map (λ v. violation_seen v) vs))
toggled_by_none c e vs old front new is f n =
    let none = none_found (toggles c e) (λ v. violation_seen v) 0 vs (sym (is ∙ position_from-zero (λ v. toggles c e (violation_seen v)) vs)) in
    n ∙ (ap (λ t. t ++ codes " toggled\n") f ∙ (append_assoc old (event_front c e) (codes " toggled\n")
    ∙ (ap (λ t. old ++ t) (sym (append_assoc (event_front c e) (codes " toggled") (10 ∷ [])))
    ∙ ap (λ o. old ++ toggled_line c e o) (sym none))))
