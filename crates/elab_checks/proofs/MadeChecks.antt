-- The three rows of a check of an instance.
use Rattle.std.specs.Prelude.{◌≡◌, ℕ, zero, suc, ℤ, ◌<◌, All, List, [], ◌∷◌, Option, Some, None, IfSome, length, map, slice_get, slice_index_or, refl}
use Rattle.std.specs.Option.{option_and_then, option_map}
use Rattle.std.proofs.Common.{sym, ◌∙◌, ap, subst}
use Rattle.std.proofs.lemmas.Option.{get_or_from_slice_get, slice_get-get_or, slice_get-map}
use Rattle.cond_expr.specs.Condition.{Condition}
use Rattle.cond_expr.specs.Token.{Tok}
use Rattle.cond_expr.specs.Tree.{Cond, constant}
use Rattle.sg_circuit.specs.ChecksSeen.{text_at, written_seen, AreWritten}
use Rattle.sg_circuit.specs.PathsSeen.{written_at}
use Rattle.sg_circuit.specs.declared.checks.Check.{Check}
use Rattle.sg_circuit.specs.declared.checks.CheckConditions.{CheckConditions}
use Rattle.sg_circuit.specs.declared.checks.CheckTiming.{CheckTiming}
use Rattle.sg_circuit.specs.declared.checks.Event.{Event}
use Rattle.sg_circuit.specs.declared.checks.Terminal.{Terminal}
use Rattle.sg_logic.specs.declared.values.Value.TheVariants.{X}
use Rattle.elab_model.specs.Lates.{DelayedCopy}
use Rattle.elab_model.specs.Names.{Variable}
use Rattle.specify_model.specs.Conditions.{over}
use Rattle.elab_model.specs.Terms.{NetBit}
use Rattle.circuit_model.specs.CheckUses.{EventUse, check_of_use, check_use, event_of_use, event_use, timing_of_use, two_limits, written_of, written_of_use}
use Rattle.elab_laws.specs.Handing.{all_bits}
use Rattle.elab_ends.specs.Seen.{bit_seen}
use Rattle.specify_checks.specs.Copies.{both_at, copy_at}
use Rattle.specify_checks.specs.Seen.{enabling_seen, limits_seen}
use Rattle.elab_paths.specs.Uses.{IsRow}
use Rattle.elab_paths.proofs.AddedPaths.{net-in-row}
use Rattle.elab_checks.specs.Ready.{check_ready, enabling_at, event_ready, IsReadyCheck, IsReadyEvent}
use Rattle.elab_checks.specs.Uses.{terminal_ready, AreLates}
use Rattle.elab_checks.specs.declared.shelving.ReadyCheck.{ReadyCheck}
use Rattle.elab_checks.specs.declared.shelving.ReadyEvent.{ReadyEvent}
use Rattle.elab_checks.proofs.BoundEvents.{bit-within}

module _ (vs : List Variable) (row : List ℕ) (net : NetBit → ℕ) (late : DelayedCopy → ℕ) (cs : List DelayedCopy) (conditions : List Condition) where
  -- ---- how a report names it

  datum-named : (o : Option ReadyEvent) → option_map (terminal_ready vs) o ≡ option_map (λ (e : EventUse). e.terminal) (option_map (event_use net) (option_map (event_ready conditions vs) o))
  datum-named None = refl
  datum-named (Some e) = refl

  notifier-net : (o : Option ℕ) → IsRow vs row net → IfSome o (λ i. i < length (all_bits vs)) → option_and_then (slice_get row) o ≡ option_map net (option_map (bit_seen vs) o)
  notifier-net None r lt = refl
  notifier-net (Some i) r lt = slice_get-get_or row i 0 (bit-within vs row net i r lt) ∙ ap (λ n. Some n) (net-in-row vs row net i 0 r lt)

  pub check-named : (scope : ℕ) (c : ReadyCheck) (refer : Terminal) (datum : Option Terminal) (notifier : Option ℕ) → IsRow vs row net → IfSome c.notifier (λ i. i < length (all_bits vs))
      → refer ≡ terminal_ready vs c.refer → datum ≡ option_map (terminal_ready vs) c.datum → notifier ≡ option_and_then (slice_get row) c.notifier
      → ◌≡◌ {A = Check} (record { scope = scope; kind = c.kind; refer = refer; datum = datum; notifier = notifier; place = c.place }) (check_of_use (check_use scope net late (check_ready conditions vs cs c)))
  check-named scope c refer datum notifier r lt e f g =
      λ i. record { scope = scope; kind = c.kind; refer = e i; datum = (f ∙ datum-named c.datum) i; notifier = (g ∙ notifier-net c.notifier r lt) i; place = c.place }

  -- ---- what it looks for

  datum-over : (o : Option ReadyEvent) → option_map (λ e. event_of_use (event_use net (event_ready conditions vs e))) o ≡ option_map event_of_use (option_map (event_use net) (option_map (event_ready conditions vs) o))
  datum-over None = refl
  datum-over (Some e) = refl

  pub check-timed : (scope : ℕ) (c : ReadyCheck) (refer : Event) (datum : Option Event) (limits : List ℤ) (lates : Option (List ℕ)) → refer ≡ event_of_use (event_use net (event_ready conditions vs c.refer))
      → datum ≡ option_map (λ e. event_of_use (event_use net (event_ready conditions vs e))) c.datum → limits ≡ two_limits (limits_seen c.limits)
      → lates ≡ option_map (λ two. late two.0 ∷ late two.1 ∷ []) (option_map (both_at cs) c.copies)
      → ◌≡◌ {A = CheckTiming} (record { kind = c.kind; refer = refer; datum = datum; limits = limits; threshold = c.threshold; late = lates }) (timing_of_use (check_use scope net late (check_ready conditions vs cs c)))
  check-timed scope c refer datum limits lates e f g k = λ i. record {
    kind = c.kind;
    refer = e i;
    datum = (f ∙ datum-over c.datum) i;
    limits = g i;
    threshold = c.threshold;
    late = k i;
  }

  -- ---- how its conditions are spelled

  abbrev spelled-over : Option ℕ → Option (List Tok)
  spelled-over o = option_map (λ (x : List Tok × Cond ℕ). x.0) (option_map (λ (x : List Tok × Cond NetBit). (x.0, over net x.1)) (option_and_then (enabling_at conditions vs) o))

  text-spelled : (o : Option ℕ) → IfSome o (λ i. i < length conditions) → text_at conditions o ≡ spelled-over o
  text-spelled None lt = refl
  text-spelled (Some w) lt =
      let first : Condition = record { tokens = []; tree = constant X } in
      let c = slice_index_or conditions w first in
      let at : slice_get conditions w ≡ Some c = slice_get-get_or conditions w first lt in
      let text : written_at conditions w ≡ c.tokens =
      get_or_from_slice_get (map (λ x. x.tokens) conditions) w c.tokens [] (slice_get-map (λ x. x.tokens) conditions w ∙ ap (option_map (λ x. x.tokens)) at) in
      ap (λ ts. Some ts) text ∙ ap (λ x. option_map (λ (y : List Tok × Cond ℕ). y.0) (option_map (λ (y : List Tok × Cond NetBit). (y.0, over net y.1)) (option_map (enabling_seen vs) x))) (sym at)

  datum-spelled : (o : Option ReadyEvent) → IfSome o (IsReadyEvent vs (length conditions))
      → text_at conditions (option_and_then (λ e. e.condition) o) ≡ option_and_then written_of (option_map (event_use net) (option_map (event_ready conditions vs) o))
  datum-spelled None h = refl
  datum-spelled (Some e) h = text-spelled e.condition h.written

  pub check-spelled : (scope : ℕ) (c : ReadyCheck) (w : CheckConditions) (copies : ℕ) → IsReadyCheck vs (length conditions) copies c → w.refer ≡ c.refer.condition → w.datum ≡ option_and_then (λ e. e.condition) c.datum
      → written_seen conditions w ≡ written_of_use (check_use scope net late (check_ready conditions vs cs c))
  check-spelled scope c w copies h e f =
      λ i. record { refer = (ap (text_at conditions) e ∙ text-spelled c.refer.condition h.refer_stands.written) i; datum = (ap (text_at conditions) f ∙ datum-spelled c.datum h.datum_stands) i }

-- the elements that delay its signals, by their row and as a function
pub lates-are : (lates : List ℕ) (late : DelayedCopy → ℕ) (cs : List DelayedCopy) (places : List ℕ) (p q m n : ℕ) → AreLates cs lates late → places ≡ p ∷ q ∷ [] → All (λ p. p < length lates) places
    → slice_get lates p ≡ Some m → slice_get lates q ≡ Some n → m ∷ n ∷ [] ≡ late (both_at cs places).0 ∷ late (both_at cs places).1 ∷ []
lates-are lates late cs places p q m n row is within e f =
    ap (λ x. x ∷ n ∷ []) (one p m e) ∙ ap (λ x. late (copy_at cs p) ∷ x ∷ []) (one q n f) ∙ ap (λ ps. late (both_at cs ps).0 ∷ late (both_at cs ps).1 ∷ []) (sym is)
  where
    at : (ds : List DelayedCopy) (i k : ℕ) → slice_get (map late ds) i ≡ Some k → k ≡ late (copy_at ds i)
    at [] i k h = cc
    at (d ∷ ds) zero k h = cc
    at (d ∷ ds) (suc i) k h = at ds i k h

    one : (i k : ℕ) → slice_get lates i ≡ Some k → k ≡ late (copy_at cs i)
    one i k h = at cs i k (subst (λ xs. slice_get xs i ≡ Some k) row h)

-- what is named stands in the table
datum-below : (vs : List Variable) (n : ℕ) (o : Option ReadyEvent) → IfSome o (IsReadyEvent vs n) → IfSome (option_and_then (λ e. e.condition) o) (λ i. i < n)
datum-below vs n None h = tt
datum-below vs n (Some e) h = h.written

pub check-written : (vs : List Variable) (n copies : ℕ) (c : ReadyCheck) → IsReadyCheck vs n copies c → AreWritten n (record { refer = c.refer.condition; datum = option_and_then (λ e. e.condition) c.datum })
check-written vs n copies c h = record { refer = h.refer_stands.written; datum = datum-below vs n c.datum h.datum_stands }
