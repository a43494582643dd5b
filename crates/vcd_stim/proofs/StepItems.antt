-- An item that gives no values: a time, and a real value.
use Rattle.std.specs.Prelude.{ℕ, ◌≡◌, ◌<◌, List, [], ◌++◌, Result, Ok, Err, MatchResult}
use Rattle.std.proofs.Common.{sym, subst}
use Rattle.std.proofs.lemmas.List.{append-nil}
use Rattle.sg_text.specs.declared.refusals.Refused.{Refused}
use Rattle.sg_time.specs.Spelling.{number_from}
use Rattle.vcd_form.specs.Written.{instant, real}
use Rattle.vcd_model.specs.declared.kinds.VcdKind.{VcdKind}
use Rattle.vcd_model.specs.Faults.{item_faults, time_faults, Header}
use Rattle.vcd_model.specs.Values.{given_by, Given, Scale}
use Rattle.vcd_stim.specs.Meant.{RefusesOneOf}
use Rattle.vcd_stim.specs.Steps.{time_behind, Each, HasSteps}
use Rattle.vcd_stim.specs.declared.steps.Steps.{Steps}

-- what a time does to some steps
abbrev pub TimeComes : Scale → (n now byte : ℕ) → List ℕ → List Given → Steps → Result (Unit {0}) (Refused VcdKind) → Type 0
TimeComes scale n now byte digits gs new result =
    MatchResult result (λ u. HasSteps scale n gs (number_from 0 digits) new × (time_faults scale byte now digits ≡ [])) (RefusesOneOf (time_faults scale byte now digits))

pub instant-is : (h : Header) (scale : Scale) (n now byte : ℕ) (digits : List ℕ) (gs : List Given) (old new : Steps) (result : Result (Unit {0}) (Refused VcdKind))
    → h.scale ≡ scale → HasSteps h.scale n gs now old → Each (λ g. g.net < n) gs
    → ((m before : ℕ) (hs : List Given) → HasSteps scale m hs before old → Each (λ g. g.net < m) hs → TimeComes scale m before byte digits hs new result)
    → MatchResult result (λ u. HasSteps h.scale n (gs ++ given_by h.circuit h.own (now, instant byte digits)) (time_behind now (instant byte digits)) new × (item_faults h (now, instant byte digits) ≡ []))
    (RefusesOneOf (item_faults h (now, instant byte digits)))
instant-is h scale n now byte digits gs old new result e s few k =
    subst (λ x. TimeComes x n now byte digits (gs ++ []) new result) (sym e)
    (subst (λ l. TimeComes scale n now byte digits l new result) (sym (append-nil gs)) (k n now gs (subst (λ x. HasSteps x n gs now old) e s) few))

pub real-passes : (h : Header) (n now byte code_byte : ℕ) (code : List ℕ) (gs : List Given) (s : Steps) (result : Result (Unit {0}) (Refused VcdKind))
    → HasSteps h.scale n gs now s → MatchResult result (λ u. item_faults h (now, real byte code_byte code) ≡ []) (RefusesOneOf (item_faults h (now, real byte code_byte code)))
    → MatchResult result (λ u. HasSteps h.scale n (gs ++ given_by h.circuit h.own (now, real byte code_byte code)) (time_behind now (real byte code_byte code)) s × (item_faults h (now, real byte code_byte code) ≡ []))
    (RefusesOneOf (item_faults h (now, real byte code_byte code)))
real-passes h n now byte code_byte code gs s (Ok u) t r = (subst (λ l. HasSteps h.scale n l now s) (sym (append-nil gs)) t, r)
real-passes h n now byte code_byte code gs s (Err e) t r = r
