-- A text says one stimulus at most, and none where a fault stands.
use Rattle.std.proofs.Common.{ℕ, ◌≡◌, List, [], sym, ap, ◌∙◌, length, arith}
use Rattle.std.proofs.Math.Path.{fun_ext}
use Rattle.std.specs.List.{IsAmong}
use Rattle.sg_circuit.specs.Circuit.{Circuit}
use Rattle.sg_text.specs.declared.places.Place.{Place}
use Rattle.sg_time.proofs.SaysLaws.{says_only}
use Rattle.sg_stimulus.specs.Stimulus.{Stimulus}
use Rattle.stim_read.specs.declared.kinds.StimKind.{StimKind}
use Rattle.stim_read.specs.Forms.{Decimals, AreDecimals, all_stated}
use Rattle.stim_read.specs.Faults.{Fault, faults}
use Rattle.stim_read.specs.Reading.{FaultStands, IsRead, stimulus_stated}

-- what texts say as decimals is one thing
pub decimals-once : (said other : Decimals) → AreDecimals said → AreDecimals other → said ≡ other
decimals-once said other h k = fun_ext (λ text. says_only text (said text) (h text) ∙ sym (says_only text (other text) (k text)))

pub read-once : (text : List ℕ) (circuit : Circuit) (one other : Stimulus) → IsRead text circuit one → IsRead text circuit other → one ≡ other
read-once text circuit one other h k =
    h.is_stimulus ∙ ap (λ said. stimulus_stated circuit (all_stated said text)) (decimals-once h.said k.said h.decimals k.decimals) ∙ sym k.is_stimulus

none-among : (fs : List Fault) (f : Fault) → fs ≡ [] → IsAmong fs f → ⊥
none-among fs f e (i, (lt, is)) = let l = ap length e in omega (arith, l, lt)

pub read-is-faultless : (text : List ℕ) (circuit : Circuit) (stimulus : Stimulus) (kind : StimKind) (place : Place) → IsRead text circuit stimulus → FaultStands text circuit kind place → ⊥
read-is-faultless text circuit stimulus kind place h f =
    none-among (faults f.said text circuit) _ (ap (λ said. faults said text circuit) (decimals-once f.said h.said f.decimals h.decimals) ∙ h.no_fault) f.among
