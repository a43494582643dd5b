-- The first fault of a text.
use Rattle.std.proofs.Common.{subst, arith}
use Rattle.std.proofs.lemmas.Result.{err_from_is_err_and}
use Rattle.sg_circuit.specs.Circuit.{Circuit}
use Rattle.sim_rounds.specs.Moments.{Fits}
use Rattle.sim_rounds.specs.MomentsSeen.{moment_seen}
use Rattle.sim_save.specs.Faults.{IsOfCircuit, bad, damaged, most_bytes, other, past, too_large}
use Rattle.sim_save.specs.Reading.{RefusalStands}
use Rattle.sim_save.specs.Refusing.{Wants}
use Rattle.sim_save.specs.declared.kinds.SaveKind.TheVariants as save
use Rattle.sg_text.specs.declared.refusals.Refused.TheVariants as refused
use Rattle.sim_save.proofs.Exits.{exit_by}
use Rattle.sim_save.proofs.ReadLaws.{half_stands, on_false, on_true, stands}
use Rattle.sim_save.proofs.RoomLaws.{body_wants, half_wants, no_want}
use Rattle.sim_save.proofs.reading.read_text.Goals as goal

pub returns-then-bytes-gt-MOST_BYTES-clause-refused : goal.returns-then-bytes-gt-MOST_BYTES-clause-refused
returns-then-bytes-gt-MOST_BYTES-clause-refused c =
    stands c.args.bytes.now c.args.circuit.now c.args.end c.fault.result save.TooLarge most_bytes c.fault.ensures (too_large (omega (arith, c.if-bytes-gt-MOST_BYTES.true)))

pub returns-in_default-clause-refused : goal.returns-in_default-clause-refused
returns-in_default-clause-refused c =
    stands c.args.bytes.now c.args.circuit.now c.args.end c.fault-in_default.result save.Damaged 0 c.fault-in_default.ensures (damaged (omega (arith, c.if-bytes-gt-MOST_BYTES.false)) c.in_default.ensures)

pub returns-in_err-saved-clause-refused : goal.returns-in_err-saved-clause-refused
returns-in_err-saved-clause-refused c =
    exit_by (RefusalStands c.args.bytes.now c.args.circuit.now c.args.end) c.from_residual.result c.in_err-saved.field-0.0 (err_from_is_err_and c.from_residual.result c.from_residual.ensures.1)
    (half_stands c.args.bytes.now c.in-Some.half.now c.args.circuit.now c.args.end c.in_err-saved.field-0.0 (omega (arith, c.if-bytes-gt-MOST_BYTES.false)) c.in-Some.ensures c.in_err-saved.ensures.refused)

pub returns-then-not-is_of_circuit-clause-refused : goal.returns-then-not-is_of_circuit-clause-refused
returns-then-not-is_of_circuit-clause-refused c =
    let s = c.in_ok-saved.saved in
    let differ = subst (λ (d : Circuit). IsOfCircuit d s.tick s.elements (moment_seen s.moment) → ⊥) c.requires c.if-not-is_of_circuit.ensures.other in
    stands c.args.bytes.now c.args.circuit.now c.args.end c.fault-then-not-is_of_circuit.result save.OtherCircuit 0 c.fault-then-not-is_of_circuit.ensures
    (other (omega (arith, c.if-bytes-gt-MOST_BYTES.false)) c.in-Some.half.now c.in-Some.ensures s.tick s.elements (moment_seen s.moment) c.in_ok-saved.ensures.read differ)

pub returns-then-not-branch-clause-refused : goal.returns-then-not-branch-clause-refused
returns-then-not-branch-clause-refused c =
    let s = c.in_ok-saved.saved in
    let same = subst (λ (d : Circuit). IsOfCircuit d s.tick s.elements (moment_seen s.moment)) c.requires c.if-not-is_of_circuit.ensures.same in
    stands c.args.bytes.now c.args.circuit.now c.args.end c.fault-then-not-branch.result save.BadMoment 0 c.fault-then-not-branch.ensures
    (bad (omega (arith, c.if-bytes-gt-MOST_BYTES.false)) c.in-Some.half.now c.in-Some.ensures s.tick s.elements (moment_seen s.moment) c.in_ok-saved.ensures.read same
    (on_false c.in_ok-fits.field-0 (Fits c.args.circuit.now (moment_seen s.moment) → ⊥) c.if-not-branch.true c.in_ok-fits.ensures.unfit))

pub returns-then-saved-end-clause-refused : goal.returns-then-saved-end-clause-refused
returns-then-saved-end-clause-refused c =
    let s = c.in_ok-saved.saved in
    let same = subst (λ (d : Circuit). IsOfCircuit d s.tick s.elements (moment_seen s.moment)) c.requires c.if-not-is_of_circuit.ensures.same in
    stands c.args.bytes.now c.args.circuit.now c.args.end c.fault-then-saved-end.result save.PastEnd 0 c.fault-then-saved-end.ensures
    (past (omega (arith, c.if-bytes-gt-MOST_BYTES.false)) c.in-Some.half.now c.in-Some.ensures s.tick s.elements (moment_seen s.moment) c.in_ok-saved.ensures.read same
    (on_true c.in_ok-fits.field-0 (Fits c.args.circuit.now (moment_seen s.moment)) c.if-not-branch.false c.in_ok-fits.ensures.fits) c.if-saved-end.true)

pub returns-then-bytes-gt-MOST_BYTES-clause-wanting : goal.returns-then-bytes-gt-MOST_BYTES-clause-wanting
returns-then-bytes-gt-MOST_BYTES-clause-wanting c = no_want c.args.bytes.now c.fault.result _ _ c.fault.ensures

pub returns-in_default-clause-wanting : goal.returns-in_default-clause-wanting
returns-in_default-clause-wanting c = no_want c.args.bytes.now c.fault-in_default.result _ _ c.fault-in_default.ensures

pub returns-then-not-is_of_circuit-clause-wanting : goal.returns-then-not-is_of_circuit-clause-wanting
returns-then-not-is_of_circuit-clause-wanting c = no_want c.args.bytes.now c.fault-then-not-is_of_circuit.result _ _ c.fault-then-not-is_of_circuit.ensures

pub returns-then-not-branch-clause-wanting : goal.returns-then-not-branch-clause-wanting
returns-then-not-branch-clause-wanting c = no_want c.args.bytes.now c.fault-then-not-branch.result _ _ c.fault-then-not-branch.ensures

pub returns-then-saved-end-clause-wanting : goal.returns-then-saved-end-clause-wanting
returns-then-saved-end-clause-wanting c = no_want c.args.bytes.now c.fault-then-saved-end.result _ _ c.fault-then-saved-end.ensures

pub returns-in_err-saved-clause-wanting : goal.returns-in_err-saved-clause-wanting
returns-in_err-saved-clause-wanting c =
    exit_by (Wants c.args.bytes.now) c.from_residual.result c.in_err-saved.field-0.0 (err_from_is_err_and c.from_residual.result c.from_residual.ensures.1)
    (half_wants c.args.bytes.now c.in-Some.half.now c.in_err-saved.field-0.0 (omega (arith, c.if-bytes-gt-MOST_BYTES.false)) c.in-Some.ensures c.in_err-saved.ensures.refused)

pub returns-in_err-fits-clause-wanting : goal.returns-in_err-fits-clause-wanting
returns-in_err-fits-clause-wanting c =
    let s = c.in_ok-saved.saved in
    exit_by (Wants c.args.bytes.now) c.from_residual-in_err-fits.result refused.NoMemory (err_from_is_err_and c.from_residual-in_err-fits.result c.from_residual-in_err-fits.ensures.1)
    (body_wants c.args.bytes.now c.in-Some.half.now s.tick s.elements (moment_seen s.moment) (omega (arith, c.if-bytes-gt-MOST_BYTES.false)) c.in-Some.ensures c.in_ok-saved.ensures.read)
