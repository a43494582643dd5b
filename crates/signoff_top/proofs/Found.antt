-- Bounds and cycles that are found are right answers, and lines of entries that were for nothing.
use Rattle.std.proofs.Common.{◌≡◌, ◌∙◌, refl, sym, ap, subst, ℕ, true, false, List, [], ◌++◌, map, length}
use Rattle.std.proofs.lemmas.List.{length-map}
use Rattle.std.specs.Global.{Vec}
use Rattle.std.specs.Prelude.{codes, decimal, flat_map}
use Rattle.sdf_annotate.specs.declared.unmatched.Unmatched as code_unmatched
use Rattle.sg_circuit.specs.Circuit.{Circuit}
use Rattle.settle_bound.specs.declared.hops.Hop.{Hop}
use Rattle.settle_bound.specs.declared.settling.Settled.{Settled}
use Rattle.settle_bound.specs.declared.settling.Settled.TheVariants.{Bounds, Cycle}
use Rattle.settle_bound.specs.Settling.{Settles}
use Rattle.settle_report.specs.Texts.{bounds_text, cycle_text}
use Rattle.run_report.specs.Report.{Unmatched, unmatched_line}
use Rattle.run_report.specs.Reporting.{unmatched_seen}
use Rattle.wave_out.specs.Texts.{line}
use Rattle.signoff_top.specs.Answer.{bounded, in_a_cycle, bounds_answer, cycle_answer, written_lines}
use Rattle.signoff_top.specs.Work.{IsSettleDone, settle_status}
use Rattle.signoff_top.specs.declared.bounds.BoundsDone as code_bounds

pub bounds_found : (c : Circuit) (d : code_bounds.BoundsDone) (found : Settled) (bounds : Vec ℕ) (lent : List ℕ) → Settles c found → found ≡ Bounds bounds → lent ≡ bounds.items → d.text.items ≡ bounds_text c lent → d.cyclic ≡ false
    → IsSettleDone c d
bounds_found c d found bounds lent h is e t cyclic = record {
  answer = bounds_answer c bounds.items;
  right = bounded bounds.items (subst (Settles c) is h);
  status = ap settle_status cyclic;
  report = t ∙ ap (bounds_text c) e;
  made = refl;
}

pub cycle_found : (c : Circuit) (d : code_bounds.BoundsDone) (found : Settled) (hops : Vec Hop) (lent : List Hop) → Settles c found → found ≡ Cycle hops → lent ≡ hops.items → d.text.items ≡ cycle_text c lent → d.cyclic ≡ true
    → IsSettleDone c d
cycle_found c d found hops lent h is e t cyclic = record {
  answer = cycle_answer c hops.items;
  right = in_a_cycle hops.items (subst (Settles c) is h);
  status = ap settle_status cyclic;
  report = t ∙ ap (cycle_text c) e;
  made = refl;
}

pub lines_written : (sdf lent_sdf : List ℕ) (us lent : List code_unmatched.Unmatched) (none first whole : List ℕ) (n : ℕ) → none ≡ [] → lent_sdf ≡ sdf → lent ≡ us → n ≡ length us
    → first ≡ none ++ flat_map unmatched_line (map (unmatched_seen lent_sdf) lent) → whole ≡ first ++ line (codes "unannotated " ++ decimal n) → whole ≡ written_lines (map (unmatched_seen sdf) us)
lines_written sdf lent_sdf us lent none first whole n e p q count a b =
    let seen : List code_unmatched.Unmatched → List Unmatched = map (unmatched_seen sdf) in
    let lines : first ≡ flat_map unmatched_line (seen us) =
    a ∙ ap (λ t. t ++ flat_map unmatched_line (map (unmatched_seen lent_sdf) lent)) e ∙ ap (λ (t : List ℕ). flat_map unmatched_line (map (unmatched_seen t) lent)) p ∙ ap (λ (xs : List code_unmatched.Unmatched). flat_map unmatched_line (seen xs)) q in
    b ∙ ap (λ t. t ++ line (codes "unannotated " ++ decimal n)) lines ∙ ap (λ m. flat_map unmatched_line (seen us) ++ line (codes "unannotated " ++ decimal m)) (count ∙ sym (length-map us (unmatched_seen sdf)))
