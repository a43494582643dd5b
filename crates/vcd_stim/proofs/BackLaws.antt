-- A run's own dump is read as the stimulus that makes the run again.
use Rattle.std.proofs.Common.{◌≤◌, ℕ, List, Result, Ok, Err, IfOk, IfErr, sym, subst, length}
use Rattle.sg_circuit.specs.Circuit.{Circuit}
use Rattle.sg_stimulus.specs.Seen.{stimulus_seen}
use Rattle.sg_stimulus.specs.Stimulus.{Stimulus}
use Rattle.sg_stimulus.specs.declared.steps.Stimulus as code
use Rattle.sg_text.specs.declared.refusals.Refused.{Refused}
use Rattle.sg_text.specs.declared.refusals.Refused.TheVariants as refused
use Rattle.vcd_laws.proofs.Law.{read_again}
use Rattle.vcd_laws.specs.Again.{MakesAgain, dump_of}
use Rattle.vcd_model.specs.Reading.{IsRead, RefusalStands, most_bytes}
use Rattle.vcd_model.specs.declared.kinds.VcdKind.{VcdKind}
use Rattle.vcd_stim.specs.Back.{IsAgain, ReadsBack}
use Rattle.vcd_stim.proofs.OnceLaws.{read-once}

-- where a text is read as a stimulus that makes a run again, that is what comes
again : (text : List ℕ) (circuit : Circuit) (scope : List ℕ) (rounds : ℕ) (stimulus wave : Stimulus) (result : Result code.Stimulus (Refused VcdKind))
    → IfOk result (λ s. IsRead text circuit scope (stimulus_seen s)) → IfErr result (λ r. RefusalStands text circuit scope r)
    → IsRead text circuit scope wave → MakesAgain circuit rounds stimulus wave → IsAgain circuit rounds stimulus result
again text circuit scope rounds stimulus wave (Ok s) h k r m = subst (MakesAgain circuit rounds stimulus) (read-once text circuit scope wave (stimulus_seen s) r h) m
again text circuit scope rounds stimulus wave (Err refused.NoMemory) h k r m = tt
again text circuit scope rounds stimulus wave (Err (refused.Fault kind place)) h k r m = r.no_fault (record { kind = kind; place = place }) k

pub reads_back : (text : List ℕ) (circuit : Circuit) (scope : List ℕ) (result : Result code.Stimulus (Refused VcdKind))
    → IfOk result (λ s. IsRead text circuit scope (stimulus_seen s)) → IfErr result (λ r. RefusalStands text circuit scope r) → ReadsBack text circuit scope result
reads_back text circuit scope result h k texts name corner made rounds stimulus read alike applied whole is small path =
    let law = read_again texts name corner made circuit rounds stimulus read alike applied whole (subst (λ t. length t ≤ most_bytes) is small) in
    let found : IsRead text circuit scope law.0 =
    subst (λ t. IsRead t circuit scope law.0) (sym is) (subst (λ p. IsRead (dump_of circuit rounds stimulus) circuit p law.0) (sym path) law.1) in
    again text circuit scope rounds stimulus law.0 result h k found law.2
