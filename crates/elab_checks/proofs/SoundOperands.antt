-- The conditions of a module's checks have sound operands where no check has a fault.
use Rattle.std.specs.Prelude.{◌≡◌, ℕ, ℤ, ◌<◌, All, List, [], ◌++◌, Option, Some, None, IfSome, flat_map, is_err, length, map, slice_get, slice_index_or}
use Rattle.std.specs.List.{AllByRecursion}
use Rattle.std.specs.Option.{option_and_then, option_map}
use Rattle.std.proofs.Common.{sym, subst}
use Rattle.std.proofs.lemmas.List.Elements.{All-from_recursion}
use Rattle.std.proofs.lemmas.Option.{slice_get-get_or}
use Rattle.cond_expr.specs.Condition.{Condition}
use Rattle.cond_expr.specs.Token.{Tok}
use Rattle.cond_expr.specs.Tree.{Cond, constant}
use Rattle.sg_delay.specs.declared.corners.Corner.{Corner}
use Rattle.sg_logic.specs.declared.values.Value.TheVariants.{X}
use Rattle.sg_text.specs.declared.places.Place.{Place}
use Rattle.vl_tree.specs.Tree.{Event, Word, Check, Module, Source}
use Rattle.elab_model.specs.declared.kinds.ElabKind.TheVariants.{TooDeep}
use Rattle.elab_model.specs.Delays.{tick_of}
use Rattle.elab_model.specs.Faults.{fault_if}
use Rattle.elab_model.specs.Lates.{DelayedCopy, signal_count}
use Rattle.elab_model.specs.Names.{Variable, variables}
use Rattle.specify_model.specs.Blocks.{parameters, specify_items}
use Rattle.specify_model.specs.CheckFaults.{edge_faults, words_faults, event_condition_faults, event_faults, some_event_faults, limit_faults, threshold_faults, notifier_faults, weight_of, check_faults, timing_check_faults}
use Rattle.specify_model.specs.Checks.{ModuleEvent, ModuleCheck, check_texts, data_of, enabled_by, event_of, limits_in, kind_of, module_check, notifier_of, reference_of, threshold_of, timing_checks}
use Rattle.specify_model.specs.Conditions.{operands, tokens, tree_of}
use Rattle.specify_model.specs.Faults.{condition_faults, first_place, operand_faults}
use Rattle.specify_model.specs.Outputs.{measure}
use Rattle.elab_model.specs.Terms.{NetBit}
use Rattle.specify_model.specs.Values.{Measure, Values, value_of}
use Rattle.elab_laws.proofs.Lists.{all-map, all-map_back, all-weaker}
use Rattle.elab_laws.proofs.NoFaults.{front, back, flat-empty}
use Rattle.specify_checks.specs.SeenOfPaths.{IsRead}
use Rattle.specify_checks.specs.Seen.{enabling_seen}
use Rattle.elab_paths.specs.Uses.{AreSound}
use Rattle.elab_paths.proofs.SoundConditions.{words-sound}
use Rattle.elab_checks.specs.Ready.{check_ready, copies_in, enabling_at, event_ready, IsReadyCheck, IsReadyEvent, IsReadyOf}
use Rattle.elab_checks.specs.Uses.{IsBindable, IsUsableCheck, IsUsableEvent}
use Rattle.elab_checks.specs.declared.shelving.ReadyCheck.{ReadyCheck}
use Rattle.elab_checks.specs.declared.shelving.ReadyEvent.{ReadyEvent}

-- ---- as the definition has them

abbrev AreSoundIn : List Variable → Option (List Tok × Cond NetBit) → Type 0
AreSoundIn vs o = IfSome o (λ c. AreSound vs c.0)

abbrev IsSoundEvent : List Variable → ModuleEvent → Type 0
IsSoundEvent vs e = AreSoundIn vs e.condition

record IsSoundCheck (vs : List Variable) (c : ModuleCheck) : Type 0 where
  refer : IsSoundEvent vs c.refer
  datum : IfSome c.datum (IsSoundEvent vs)

enabled-sound : (vs : List Variable) (p : Place) (o : Option (List Word)) → IfSome o (λ ws. condition_faults vs p ws ≡ []) → AreSoundIn vs (option_map (λ ws. enabled_by vs (tokens ws)) o)
enabled-sound vs p None h = tt
enabled-sound vs p (Some ws) h = words-sound vs ws (front (flat_map (operand_faults vs) (operands ws)) (fault_if (is_err (tree_of (tokens ws))) TooDeep (first_place p ws)) h)

event-sound : (vs : List Variable) (e : Event) → event_faults vs e ≡ [] → IsSoundEvent vs (event_of vs e)
event-sound vs e h = enabled-sound vs e.place e.condition (by e.condition (back (operand_faults vs e.term) (event_condition_faults vs e) h))
  where
    by : (o : Option (List Word)) → words_faults vs e.place o ≡ [] → IfSome o (λ ws. condition_faults vs e.place ws ≡ [])
    by None k = tt
    by (Some ws) k = k

datum-sound : (vs : List Variable) (o : Option Event) → some_event_faults vs o ≡ [] → IfSome (option_map (event_of vs) o) (IsSoundEvent vs)
datum-sound vs None h = tt
datum-sound vs (Some e) h = event-sound vs e h

check-sound : (signals : ℕ) (by : Measure) (vs : List Variable) (values : Values) (c : Check) → check_faults signals by vs values c ≡ [] → IsSoundCheck vs (module_check by vs values c)
check-sound signals by vs values c h =
    let refers = event_faults vs (reference_of c) in
    let datums = some_event_faults vs (data_of c) in
    let rest = flat_map (limit_faults (weight_of signals (kind_of c)) by values) (limits_in c) ++ (threshold_faults by values (threshold_of c) ++ notifier_faults vs (notifier_of c)) in
    let own = back (edge_faults c) (refers ++ (datums ++ rest)) h in
    record { refer = event-sound vs (reference_of c) (front refers (datums ++ rest) own); datum = datum-sound vs (data_of c) (front datums rest (back refers (datums ++ rest) own)) }

checks-sound : (corner : Corner) (tick : ℤ) (m : Module) → timing_check_faults corner tick m ≡ [] → AllByRecursion (IsSoundCheck (variables m)) (timing_checks corner tick m)
checks-sound corner tick m h =
    let by = measure corner tick m in
    let vs = variables m in
    let values = value_of (parameters (specify_items m)) in
    let texts = check_texts (specify_items m) in
    all-map (IsSoundCheck vs) (module_check by vs values) texts
    (all-weaker (λ c. check_faults (signal_count m) by vs values c ≡ []) (λ c. IsSoundCheck vs (module_check by vs values c)) texts (λ c e. check-sound (signal_count m) by vs values c e)
    (flat-empty (check_faults (signal_count m) by vs values) texts h))

-- ---- what stands ready

module _ (vs : List Variable) (conditions : List Condition) (read : All (λ c. IsRead c.tokens c) conditions) where
  bindable : (o : Option ℕ) → IfSome o (λ i. i < length conditions) → AreSoundIn vs (option_and_then (enabling_at conditions vs) o) → IsBindable vs conditions o
  bindable None lt s = tt
  bindable (Some w) lt s =
      let first : Condition = record { tokens = []; tree = constant X } in
      let c = slice_index_or conditions w first in
      let at : slice_get conditions w ≡ Some c = slice_get-get_or conditions w first lt in
      (c, (at, record { read = read w first lt; operands = subst (λ x. AreSoundIn vs (option_map (enabling_seen vs) x)) at s }))

  event-usable : (e : ReadyEvent) → IsReadyEvent vs (length conditions) e → IsSoundEvent vs (event_ready conditions vs e) → IsUsableEvent vs conditions e
  event-usable e h s = record { in_row = h.in_row; condition = bindable e.condition h.written s }

  datum-usable : (o : Option ReadyEvent) → IfSome o (IsReadyEvent vs (length conditions)) → IfSome (option_map (event_ready conditions vs) o) (IsSoundEvent vs) → IfSome o (IsUsableEvent vs conditions)
  datum-usable None h s = tt
  datum-usable (Some e) h s = event-usable e h s

  check-usable : (cs : List DelayedCopy) (c : ReadyCheck) → IsReadyCheck vs (length conditions) (length cs) c → IsSoundCheck vs (check_ready conditions vs cs c) → IsUsableCheck vs conditions (length cs) c
  check-usable cs c h s = record { ready = h; refer = event-usable c.refer h.refer_stands s.refer; datum = datum-usable c.datum h.datum_stands s.datum }

-- each check that stands ready of a module without fault can be used
pub usable : (source : Source) (top : Module) (corner : Corner) (m : Module) (conditions : List Condition) (list : List ReadyCheck) → IsReadyOf source top corner conditions m list
    → timing_check_faults corner (tick_of source top) m ≡ [] → All (λ c. IsRead c.tokens c) conditions → All (IsUsableCheck (variables m) conditions (length (copies_in m))) list
usable source top corner m conditions list h none read =
    let vs = variables m in
    let cs = copies_in m in
    let sound : AllByRecursion (IsSoundCheck vs) (map (check_ready conditions vs cs) list) = subst (AllByRecursion (IsSoundCheck vs)) (sym h.checks) (checks-sound corner (tick_of source top) m none) in
    let all : All (λ c. IsSoundCheck vs (check_ready conditions vs cs c)) list =
    All-from_recursion (λ c. IsSoundCheck vs (check_ready conditions vs cs c)) list (all-map_back (IsSoundCheck vs) (check_ready conditions vs cs) list sound) in
    λ k d lt. check-usable vs conditions read cs (slice_index_or list k d) (h.named k d lt) (all k d lt)
