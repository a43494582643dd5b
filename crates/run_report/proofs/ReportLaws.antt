-- The text of a report from its lines.
use Rattle.std.proofs.Common.{◌≡◌, ◌∙◌, ap, ℕ, List, ◌++◌, flat_map, length}
use Rattle.std.specs.Prelude.{Option}
use Rattle.sg_model.specs.Machine.{Violation}
use Rattle.sg_circuit.specs.Circuit.{Circuit}
use Rattle.sg_circuit.specs.declared.checks.Zero.{Zero}
use Rattle.wave_out.proofs.TextLaws.{add_three}
use Rattle.run_report.specs.Report.{Unmatched, found_lines, last_lines, report_lines, stopped_lines, stopped_summary, unmatched_line, violation_line, zeroed_line}

pub found_made : (start : List ℕ) (c : Circuit) (us : List Unmatched) (zs : List Zero) (vs : List Violation) {t u v : List ℕ} → zs ≡ c.zeroed
    → t ≡ start ++ flat_map unmatched_line us → u ≡ t ++ flat_map (zeroed_line c) zs → v ≡ u ++ flat_map (violation_line c) vs → v ≡ start ++ found_lines c us vs
found_made start c us zs vs zeroed p q r =
    add_three start (flat_map unmatched_line us) (flat_map (zeroed_line c) zs) (flat_map (violation_line c) vs) p q r
    ∙ ap (λ z. start ++ (flat_map unmatched_line us ++ flat_map (zeroed_line c) z ++ flat_map (violation_line c) vs)) zeroed

pub report_made : (c : Circuit) (us : List Unmatched) (vs : List Violation) (n m end : ℕ) (spent : Option (ℕ × Option ℕ)) {t u : List ℕ} → n ≡ length vs → m ≡ length us
    → t ≡ found_lines c us vs → u ≡ t ++ last_lines c n m end spent → u ≡ report_lines c us vs end spent
unfolding report_lines
report_made c us vs n m end spent many more found last =
    last
    ∙ (ap (λ x. x ++ last_lines c n m end spent) found
    ∙ (ap (λ k. found_lines c us vs ++ last_lines c k m end spent) many ∙ ap (λ k. found_lines c us vs ++ last_lines c (length vs) k end spent) more))

pub stopped_made : (c : Circuit) (us : List Unmatched) (vs : List Violation) (n m time : ℕ) {t u : List ℕ} → n ≡ length vs → m ≡ length us
    → t ≡ found_lines c us vs → u ≡ t ++ stopped_summary n m time → u ≡ stopped_lines c us vs time
unfolding stopped_lines
stopped_made c us vs n m time many more found last =
    last
    ∙ (ap (λ x. x ++ stopped_summary n m time) found
    ∙ (ap (λ k. found_lines c us vs ++ stopped_summary k m time) many ∙ ap (λ k. found_lines c us vs ++ stopped_summary (length vs) k time) more))
