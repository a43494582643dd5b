-- What holds of a text that was written.
use Rattle.std.proofs.Common.{◌≡◌, ℕ, sym, subst}
use Rattle.std.specs.Prelude.{Result, Ok, Err, IfOk, OnOk}
use Rattle.std.specs.Global.{Vec}
use Rattle.sg_circuit.specs.Circuit.{Circuit}
use Rattle.sg_circuit.specs.Closed.{IsClosed}
use Rattle.written_model.specs.declared.errors.WriteError.{WriteError}
use Rattle.written_model.specs.Faults.{IsFaultless}
use Rattle.written_model.specs.Text.{text}
use Rattle.written_model.specs.Tree.{tree}
use Rattle.written_reading.proofs.WholeText.{text_read_back}
use Rattle.written_names.proofs.Whole.{named_of}
use Rattle.written_names.specs.Netlists.{IsOfNetlist}
use Rattle.written_reading.specs.Named.{IsTick}
use Rattle.written_reading.specs.ReadBack.{IsReadAs}
use Rattle.written_giving.proofs.TreeBack.{tree_back}
use Rattle.written_giving.specs.AnnotatedBack.{IsGivenBack, IsSettled}

pub read_as : (c : Circuit) (r : Result (Vec ℕ) WriteError) → IsClosed c → IsTick c.tick → OnOk r (IsFaultless c) → IfOk r (λ v. v.items ≡ text c) → IsOfNetlist c → IfOk r (λ v. IsReadAs (tree c) v.items)
read_as c (Ok v) closed tick faultless same of = subst (IsReadAs (tree c)) (sym same) (text_read_back c closed tick (named_of c of) faultless)
read_as c (Err e) closed tick faultless same of = tt

pub gives_back : (c : Circuit) (r : Result (Vec ℕ) WriteError) → IsClosed c → OnOk r (IsFaultless c) → IsOfNetlist c → IsSettled c → OnOk r (IsGivenBack c)
gives_back c (Ok v) closed faultless of settled = tree_back c closed (named_of c of) settled faultless
gives_back c (Err e) closed faultless of settled = tt
