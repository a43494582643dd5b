-- The timing checks of instances have spelled conditions, and limits below 0 only where delayed copies may meet them.
use Rattle.std.specs.Prelude.{◌≡◌, ℕ, ℤ, pos, ◌-ℤ◌, ◌≤ℤ◌, Bool, true, false, IfSome, List, Option, Some, None, map, if◌then◌else◌}
use Rattle.std.specs.List.{AllByRecursion}
use Rattle.std.specs.Option.{option_map}
use Rattle.std.proofs.Common.{arith}
use Rattle.std.proofs.lemmas.Int.{ints}
use Rattle.cond_expr.specs.Token.{Tok}
use Rattle.cond_expr.specs.Tree.{Cond}
use Rattle.sg_circuit.specs.Signals.{takes_lates}
use Rattle.sg_delay.specs.declared.corners.Corner.{Corner}
use Rattle.sg_delay.specs.declared.corners.Corner.TheVariants.{Min, Typ, Max}
use Rattle.vl_tree.specs.Tree.{Check, Event, Limit, Module, SignedAmount, Source, Word, one_limit, one_limit_check, period_check, three_limits, two_limit_check, width_check}
use Rattle.vl_tree.specs.declared.check_names.TwoLimitCheck.TheVariants as two
use Rattle.elab_model.specs.Delays.{tick_of}
use Rattle.elab_model.specs.Drivers.{elements}
use Rattle.elab_model.specs.Hierarchy.{Instance, instances}
use Rattle.elab_model.specs.Lates.{DelayedCopy}
use Rattle.elab_model.specs.Names.{Variable, variables}
use Rattle.elab_model.specs.Nets.{nets}
use Rattle.elab_model.specs.Terms.{NetBit}
use Rattle.specify_model.specs.Blocks.{parameters, specify_items}
use Rattle.specify_model.specs.Checks.{ModuleCheck, ModuleEvent, check_texts, corner_limit, data_of, enabled_by, event_of, kind_of, limit_ticks, limits_in, module_check, reference_of, signed_ticks, size_ticks, timing_checks}
use Rattle.specify_model.specs.Conditions.{over, tokens}
use Rattle.specify_model.specs.Outputs.{measure}
use Rattle.specify_model.specs.Values.{Measure, Values, value_of}
use Rattle.circuit_model.specs.CheckUses.{CheckUse as Check_use, EventUse, check_use, check_uses, check_uses_of, event_use, late_number}
use Rattle.circuit_model.specs.PathUses.{bit_number}
use Rattle.elab_laws.proofs.Lists.{all-flat_in, all-map, all-weaker}
use Rattle.written_names.proofs.BareConditions.{IsSpelled}
use Rattle.written_names.proofs.SpelledBlocks.{AreSpelled, IsSpelledCheck, IsSpelledEvent, IsUnsigned, IsUnsignedLimit}
use Rattle.written_names.proofs.SpelledModules.{IsSpelledModule, checks_are}

-- ---- limits

abbrev pub IsAboveZero : ℤ → Type 0
IsAboveZero l = pos 0 ≤ℤ l

pub above : (n : ℕ) → pos 0 ≤ℤ pos n
above n = grind (arith, ints)

ticks_above : (by : Measure) (values : Values) (a : SignedAmount) → IsUnsigned a → IsAboveZero (signed_ticks by values a)
ticks_above by values a h = at a.negative h
  where
    at : (b : Bool) → b ≡ false → IsAboveZero (if b then (pos 0 -ℤ pos (size_ticks by values a)) else pos (size_ticks by values a))
    at true e = absurd cc
    at false e = above (size_ticks by values a)

corner_unsigned : (corner : Corner) (l : Limit) → IsUnsignedLimit l → IsUnsigned (corner_limit corner l)
corner_unsigned corner (one_limit a) h = h
corner_unsigned Min (three_limits a b c) h = h.0
corner_unsigned Typ (three_limits a b c) h = h.1
corner_unsigned Max (three_limits a b c) h = h.2

limit_above : (by : Measure) (values : Values) (l : Limit) → IsUnsignedLimit l → IsAboveZero (limit_ticks by values l)
limit_above by values l h = ticks_above by values (corner_limit by.corner l) (corner_unsigned by.corner l h)

limits_above : (by : Measure) (values : Values) (c : Check) → IsSpelledCheck c → takes_lates (kind_of c) ≡ false → AllByRecursion IsAboveZero (map (limit_ticks by values) (limits_in c))
limits_above by values (one_limit_check p k r d l n) h e = (limit_above by values l h.2, tt)
limits_above by values (two_limit_check p two.SetupHold r d l m n f g) h e = absurd cc
limits_above by values (two_limit_check p two.RecRem r d l m n f g) h e = absurd cc
limits_above by values (width_check p r l t n) h e = (limit_above by values l h.1, tt)
limits_above by values (period_check p r l n) h e = (limit_above by values l h.1, tt)

-- ---- checks of modules

abbrev IsGoodEvent : ModuleEvent → Type 0
IsGoodEvent e = IfSome e.condition (λ c. IsSpelled c.0)

record IsGoodCheck (c : ModuleCheck) : Type 0 where
  refer : IsGoodEvent c.refer
  datum : IfSome c.datum IsGoodEvent
  limits : takes_lates c.kind ≡ false → AllByRecursion IsAboveZero c.limits

event_is : (vs : List Variable) (e : Event) → IsSpelledEvent e → IsGoodEvent (event_of vs e)
event_is vs e h = by e.condition h
  where
    by : (o : Option (List Word)) → IfSome o AreSpelled → IfSome (option_map (λ ws. enabled_by vs (tokens ws)) o) (λ c. IsSpelled c.0)
    by None h = tt
    by (Some ws) h = h

refer_is : (c : Check) → IsSpelledCheck c → IsSpelledEvent (reference_of c)
refer_is (one_limit_check p k r d l n) h = h.0
refer_is (two_limit_check p k r d l m n f g) h = h.0
refer_is (width_check p r l t n) h = h.0
refer_is (period_check p r l n) h = h.0

datum_is : (vs : List Variable) (c : Check) → IsSpelledCheck c → IfSome (option_map (event_of vs) (data_of c)) IsGoodEvent
datum_is vs (one_limit_check p k r d l n) h = event_is vs d h.1
datum_is vs (two_limit_check p k r d l m n f g) h = event_is vs d h.1
datum_is vs (width_check p r l t n) h = tt
datum_is vs (period_check p r l n) h = tt

check_is : (by : Measure) (vs : List Variable) (values : Values) (c : Check) → IsSpelledCheck c → IsGoodCheck (module_check by vs values c)
check_is by vs values c h = record { refer = event_is vs (reference_of c) (refer_is c h); datum = datum_is vs c h; limits = limits_above by values c h }

-- ---- checks of instances

abbrev pub IsGoodEventUse : EventUse → Type 0
IsGoodEventUse e = IfSome e.condition (λ c. IsSpelled c.0)

pub record IsGoodUse (u : Check_use) : Type 0 where
  pub refer : IsGoodEventUse u.refer
  pub datum : IfSome u.datum IsGoodEventUse
  pub limits : takes_lates u.kind ≡ false → AllByRecursion IsAboveZero u.limits

abbrev used : (NetBit → ℕ) → List Tok × Cond NetBit → List Tok × Cond ℕ
used net c = (c.0, over net c.1)

event_used : (net : NetBit → ℕ) (e : ModuleEvent) → IsGoodEvent e → IsGoodEventUse (event_use net e)
event_used net e h = by e.condition h
  where
    by : (o : Option (List Tok × Cond NetBit)) → IfSome o (λ c. IsSpelled c.0) → IfSome (option_map (used net) o) (λ c. IsSpelled c.0)
    by None h = tt
    by (Some c) h = h

check_used : (scope : ℕ) (net : NetBit → ℕ) (late : DelayedCopy → ℕ) (c : ModuleCheck) → IsGoodCheck c → IsGoodUse (check_use scope net late c)
check_used scope net late c h = record { refer = event_used net c.refer h.refer; datum = by c.datum h.datum; limits = h.limits }
  where
    by : (o : Option ModuleEvent) → IfSome o IsGoodEvent → IfSome (option_map (event_use net) o) IsGoodEventUse
    by None h = tt
    by (Some e) h = event_used net e h

pub uses_are_good : (source : Source) (top : Module) (corner : Corner) → AllByRecursion (λ s. IsSpelledModule s.step.definition) (instances source top) → AllByRecursion IsGoodUse (check_uses source top corner)
uses_are_good source top corner h =
    all-flat_in IsGoodUse uses (instances source top) (all-weaker (λ s. IsSpelledModule s.step.definition) (λ s. AllByRecursion IsGoodUse (uses s)) (instances source top) of_instance h)
  where
    uses : Instance → List Check_use
    uses = check_uses_of (nets source top) (elements source top corner) source corner (tick_of source top)

    of_instance : (s : Instance) → IsSpelledModule s.step.definition → AllByRecursion IsGoodUse (uses s)
    of_instance s k =
        let m = s.step.definition in
        let by = measure corner (tick_of source top) m in
        let values = value_of (parameters (specify_items m)) in
        let make : ModuleCheck → Check_use = check_use s.step.number (bit_number (nets source top) source s) (late_number (elements source top corner) s) in
        all-map IsGoodUse make (timing_checks corner (tick_of source top) m)
        (all-map (λ c. IsGoodUse (make c)) (module_check by (variables m) values) (check_texts (specify_items m))
        (all-weaker IsSpelledCheck (λ c. IsGoodUse (make (module_check by (variables m) values c))) (check_texts (specify_items m))
        (λ c q. check_used s.step.number (bit_number (nets source top) source s) (late_number (elements source top corner) s) (module_check by (variables m) values c) (check_is by (variables m) values c q)) (checks_are m k)))
