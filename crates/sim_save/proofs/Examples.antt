-- Worked examples: a text, and one with a line that no moment has.
use Rattle.std.proofs.Common.{◌≡◌, ℕ, negsuc, List, [], ◌∷◌, ◌++◌, refl, subst, arith}
use Rattle.std.specs.Prelude.{codes}
use Rattle.std.specs.Fmt.{digits}
use Rattle.std.specs.declared.option.Option.{Option}
use Rattle.std.specs.declared.option.Option.TheVariants.{Some, None}
use Rattle.sg_logic.specs.declared.values.Value.{Value}
use Rattle.sg_logic.specs.declared.values.Value.TheVariants.{Zero, One, X}
use Rattle.sg_model.specs.Machine.{Stamp}
use Rattle.sg_circuit.specs.Circuit.{Circuit}
use Rattle.sim_rounds.specs.Moments.{Moment}
use Rattle.sim_save.specs.Faults.{FaultStands, IsNoBody, at_line, syntax}
use Rattle.sim_save.specs.Lines.{body, net_line}
use Rattle.sim_save.specs.Steps.{AreCounts, Counts, Head, IsHead, IsNet, Leads, Nets, Takes, more, none}
use Rattle.sim_save.specs.declared.kinds.SaveKind.TheVariants as save
use Rattle.sim_save.proofs.ConsLaws.{first_byte, other_bytes}
use Rattle.sim_save.proofs.MomentLaws.{begins, leads_begun}
use Rattle.sim_save.proofs.StepLaws.{leads_one, leads_split, uncons}

-- 5000 ticks of 1 ps; two nets that changed at time 0, of which the second is an element's, and nothing pending
abbrev worked : Moment
worked = record {
  time = 5000;
  nets = Zero ∷ One ∷ [];
  stamps = Some (record { time = 0; before = X; after = Zero }) ∷ Some (record { time = 0; before = X; after = One }) ∷ [];
  pending = [];
  udps = [];
  latest = [];
  last = 0;
  evaluations = 1;
}

pub worked_text : body (negsuc 11) 1 worked ++ body (negsuc 11) 1 worked ≡ codes "save 5000 -12 2 1 0 0\nn 0 0 x\nn 1 0 x\nl 0 1\nend\nsave 5000 -12 2 1 0 0\nn 0 0 x\nn 1 0 x\nl 0 1\nend\n"
unfolding digits
worked_text = refl

-- a value has one letter: of `n 01 0 x` there is no moment
abbrev first_lines : List (List ℕ)
first_lines = codes "save 5000 -12 2 1 0 0\n" ∷ codes "n 0 0 x\n" ∷ []

abbrev bad_line : List ℕ
bad_line = codes "n 01 0 x\n"

abbrev bad_half : List ℕ
bad_half = codes "save 5000 -12 2 1 0 0\nn 0 0 x\nn 01 0 x\nl 0 1\nend\n"

leads_first : Leads Head first_lines (Nets 1 0 0)
unfolding digits
leads_first =
    let counts : Counts = record { time = 5000; tick = negsuc 11; nets = 2; elements = 1; udps = 0; checks = 0 } in
    let fit : AreCounts counts = record { time = omega arith; tick = omega arith; nets = omega arith; elements = omega arith; udps = omega arith; checks = omega arith } in
    let head : IsHead (codes "save 5000 -12 2 1 0 0\n") = record { counts = counts; is = refl; fit = fit } in
    let net : IsNet (codes "n 0 0 x\n") = record { value = Zero; change = Some (record { time = 0; before = X; after = Zero }); is = refl; fit = (omega arith, refl) } in
    more {a = Head} {b = Nets 2 0 0} (head, refl) (more {a = Nets 2 0 0} {b = Nets 1 0 0} (net, refl) none)

no_second_letter : (v : Value) (s : Option Stamp) → bad_line ≡ net_line v s → ⊥
no_second_letter v None e = let n : 49 ≡ 10 = first_byte 49 10 _ _ (other_bytes 48 _ _ _ (other_bytes 32 32 _ _ (other_bytes 110 110 _ _ e))) in omega (arith, n)
no_second_letter v (Some s) e = let n : 49 ≡ 32 = first_byte 49 32 _ _ (other_bytes 48 _ _ _ (other_bytes 32 32 _ _ (other_bytes 110 110 _ _ e))) in omega (arith, n)

no_such_half : IsNoBody bad_half 30
no_such_half =
    at_line first_lines bad_line (codes "l 0 1\n" ∷ codes "end\n" ∷ []) refl (begins first_lines (Nets 1 0 0) leads_first)
    (λ b.
    let r = leads_begun (first_lines ++ bad_line ∷ []) b in
    let s = leads_split first_lines (bad_line ∷ []) r.1 in
    let u = uncons s.2 in
    let t = subst (λ n. Takes n bad_line u.0) (leads_one first_lines s.1 leads_first) u.1 in
    no_second_letter t.0.value t.0.change t.0.is)

pub bad_line_stands : (circuit : Circuit) (end : ℕ) → FaultStands (bad_half ++ bad_half) circuit end save.Syntax 30
bad_line_stands circuit end = syntax (omega arith) bad_half refl 30 no_such_half
