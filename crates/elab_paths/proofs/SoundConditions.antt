-- The conditions of a module's paths have sound operands where its blocks have no fault.
use Rattle.std.specs.Prelude.{◌≡◌, ℕ, zero, suc, ℤ, ◌+◌, All, List, [], ◌∷◌, ◌++◌, Bool, true, false, cond, Option, Some, filter, flat_map, is_err, length, map, slice_get, slice_index_or, refl}
use Rattle.std.specs.List.{AllByRecursion}
use Rattle.std.proofs.Common.{sym, ◌∙◌, ap, arith, subst}
use Rattle.std.proofs.lemmas.Grind.{flat_map-append}
use Rattle.std.proofs.lemmas.List.Elements.{All-from_recursion}
use Rattle.std.proofs.lemmas.Option.{slice_get-get_or}
use Rattle.cond_expr.specs.Condition.{Condition}
use Rattle.cond_expr.specs.Token.{Tok}
use Rattle.cond_expr.specs.Tree.{constant}
use Rattle.cond_expr.specs.declared.tokens.Tok.TheVariants.{Name}
use Rattle.sg_circuit.specs.declared.elements.LegTiming.{LegTiming}
use Rattle.sg_delay.specs.declared.corners.Corner.{Corner}
use Rattle.sg_logic.specs.declared.values.Value.TheVariants.{X}
use Rattle.sg_text.specs.declared.places.Place.{Place}
use Rattle.vl_tree.specs.Tree.{Word, PathCondition, always, if_none, if_words, SpecifyPath, Module, Source}
use Rattle.elab_model.specs.declared.kinds.ElabKind.TheVariants.{TooDeep}
use Rattle.elab_model.specs.Delays.{tick_of}
use Rattle.elab_model.specs.Faults.{fault_if}
use Rattle.elab_model.specs.Names.{Variable, variables}
use Rattle.specify_model.specs.Blocks.{specify_items, parameters, pulses, specify_paths, style_texts}
use Rattle.specify_model.specs.Conditions.{ModuleCondition, Always, If, IfNone, condition_of, next_token, operand, operand_of, operands, tokens, tree_of}
use Rattle.specify_model.specs.Faults.{parameter_faults, pulse_faults, end_faults, side_faults, first_place, operand_faults, condition_faults, own_condition, source_faults, list_faults, path_faults, style_faults, specify_faults}
use Rattle.specify_model.specs.Outputs.{PathOutput, first_paths, paths_to, output_of, measure, path_outputs}
use Rattle.specify_model.specs.Paths.{PathTo, path_between, paths_of, module_paths}
use Rattle.specify_model.specs.PulseLimits.{Limits, limits_of}
use Rattle.elab_model.specs.Terms.{NetBit, is_same_bit, path_pairs}
use Rattle.specify_model.specs.Values.{Measure, Values, value_of}
use Rattle.elab_laws.specs.Handing.{all_bits}
use Rattle.elab_laws.proofs.Lists.{all-anyway, all-flat_in, all-map, all-map_back, all-weaker}
use Rattle.elab_laws.proofs.NoFaults.{front, back, flat-empty}
use Rattle.specify_paths.specs.Seen.{IsRead}
use Rattle.elab_paths.specs.Ready.{path_ready, output_ready, condition_ready, written_condition, IsWrittenBelow, IsReadyPath, IsReadyOutput, IsReadyOf}
use Rattle.elab_paths.specs.Uses.{AreSound, IsBindable, IsUsablePath, IsUsable}
use Rattle.elab_paths.specs.declared.modules.ModulePaths.{ModulePaths}
use Rattle.elab_paths.specs.declared.shelving.ReadyCondition.{ReadyCondition}
use Rattle.elab_paths.specs.declared.shelving.ReadyCondition.TheVariants as ready
use Rattle.elab_paths.specs.declared.shelving.ReadyOutput.{ReadyOutput}
use Rattle.elab_paths.specs.declared.shelving.ReadyPath.{ReadyPath}

-- ---- the words of a condition

next-is : (ws : List Word) → slice_get (tokens ws) 0 ≡ next_token ws
next-is [] = refl
next-is (w ∷ ws) = refl

operand-here : (vs : List Variable) (p : Place) (t : Tok) (next : Option Tok) (n : List ℕ) → t ≡ Name n → flat_map (operand_faults vs) (operand_of p t next) ≡ [] → operand_faults vs (operand n p next) ≡ []
operand-here vs p t next n e h = front (operand_faults vs (operand n p next)) [] (ap (λ x. flat_map (operand_faults vs) (operand_of p x next)) (sym e) ∙ h)

pub words-sound : (vs : List Variable) (ws : List Word) → flat_map (operand_faults vs) (operands ws) ≡ [] → AreSound vs (tokens ws)
words-sound vs [] h at n e = cc
words-sound vs (w ∷ ws) h zero n e =
    let own = operand_of w.place w.token (next_token ws) in
    let t : w.token ≡ Name n = (let g : ◌≡◌ {A = Option Tok} (Some w.token) (Some (Name n)) = e in cc) in
    let here = operand-here vs w.place w.token (next_token ws) n t (front (flat_map (operand_faults vs) own) (flat_map (operand_faults vs) (operands ws)) (sym (flat_map-append (operand_faults vs) own (operands ws)) ∙ h)) in
    (w.place, ap (λ x. operand_faults vs (operand n w.place x)) (next-is ws) ∙ here)
words-sound vs (w ∷ ws) h (suc k) n e =
    let own = operand_of w.place w.token (next_token ws) in
    let rest = words-sound vs ws (back (flat_map (operand_faults vs) own) (flat_map (operand_faults vs) (operands ws)) (sym (flat_map-append (operand_faults vs) own (operands ws)) ∙ h)) k n e in
    let j : suc k + 1 ≡ suc (k + 1) = omega arith in
    (rest.0, ap (λ i. operand_faults vs (operand n rest.0 (slice_get (tokens (w ∷ ws)) i))) j ∙ rest.1)

-- ---- the conditions of paths

abbrev HasSound : List Variable → ModuleCondition → Type 0
HasSound vs Always = Unit {0}
HasSound vs (If written bound) = AreSound vs written
HasSound vs IfNone = Unit {0}

condition-sound : (vs : List Variable) (p : Place) (c : PathCondition) → flat_map (condition_faults vs p) (own_condition c) ≡ [] → HasSound vs (condition_of vs c)
condition-sound vs p always h = tt
condition-sound vs p if_none h = tt
condition-sound vs p (if_words ws) h =
    let wrong = flat_map (operand_faults vs) (operands ws) in
    let deep = fault_if (is_err (tree_of (tokens ws))) TooDeep (first_place p ws) in
    words-sound vs ws (front wrong deep (front (condition_faults vs p ws) [] h))

abbrev IsSoundPath : List Variable → PathTo → Type 0
IsSoundPath vs p = HasSound vs p.path.condition

path-sound : (by : Measure) (vs : List Variable) (values : Values) (limits : Limits) (p : SpecifyPath) → path_faults by vs values p ≡ [] → AllByRecursion (IsSoundPath vs) (paths_of by vs values limits p)
path-sound by vs values limits p h =
    let ends = end_faults vs p in
    let sides = side_faults vs p in
    let conds = flat_map (condition_faults vs p.place) (own_condition p.condition) in
    let others = source_faults vs p.destination.source ++ list_faults by values p.place p.delays in
    let e : conds ≡ [] = front conds others (back sides (conds ++ others) (back ends (sides ++ (conds ++ others)) h)) in
    all-map (IsSoundPath vs) (path_between by vs values limits p) (path_pairs vs p)
    (all-anyway (λ b. IsSoundPath vs (path_between by vs values limits p b)) (path_pairs vs p) (λ b. condition-sound vs p.place p.condition e))

filtered : {A : Type 0} (P : A → Type 0) (t : A → Bool) (xs : List A) → AllByRecursion P xs → AllByRecursion P (filter t xs)
filtered P t [] h = tt
filtered P t (x ∷ xs) h = by (t x) (filtered P t xs h.1)
  where
    by : (b : Bool) → AllByRecursion P (filter t xs) → AllByRecursion P (cond b (x ∷ filter t xs) (filter t xs))
    by true k = (h.0, k)
    by false k = k

-- all paths of an output
abbrev AreSoundPaths : List Variable → PathOutput → Type 0
AreSoundPaths vs o = AllByRecursion (λ p. HasSound vs p.condition) o.paths

kept : (vs : List Variable) (b : NetBit) (ps : List PathTo) → AllByRecursion (IsSoundPath vs) ps → AllByRecursion (λ p. HasSound vs p.condition) (paths_to b ps)
kept vs b ps h =
    all-map (λ p. HasSound vs p.condition) (λ p. p.path) (filter (λ p. is_same_bit b p.output) ps) (filtered (IsSoundPath vs) (λ p. is_same_bit b p.output) ps h)

outputs-sound : (corner : Corner) (tick : ℤ) (m : Module) → specify_faults corner tick m ≡ [] → AllByRecursion (AreSoundPaths (variables m)) (path_outputs corner tick m)
outputs-sound corner tick m h =
    let by = measure corner tick m in
    let vs = variables m in
    let items = specify_items m in
    let values = value_of (parameters items) in
    let limits = limits_of by vs (pulses items) in
    let twice = parameter_faults (parameters items) in
    let pulsed = flat_map (pulse_faults by vs) (pulses items) in
    let paths = flat_map (path_faults by vs values) (specify_paths items) in
    let styles = flat_map (style_faults vs) (style_texts items) in
    let no-paths : paths ≡ [] = front paths styles (back pulsed (paths ++ styles) (back twice (pulsed ++ (paths ++ styles)) h)) in
    let ps = module_paths by vs items in
    let sound : AllByRecursion (IsSoundPath vs) ps =
    all-flat_in (IsSoundPath vs) (paths_of by vs values limits) (specify_paths items)
    (all-weaker (λ p. path_faults by vs values p ≡ []) (λ p. AllByRecursion (IsSoundPath vs) (paths_of by vs values limits p)) (specify_paths items)
    (λ p e. path-sound by vs values limits p e) (flat-empty (path_faults by vs values) (specify_paths items) no-paths)) in
    all-map (AreSoundPaths vs) (output_of vs (style_texts items) ps) (first_paths [] ps)
    (all-anyway (λ p. AreSoundPaths vs (output_of vs (style_texts items) ps p)) (first_paths [] ps) (λ p. kept vs p.output ps sound))

-- ---- what stands ready

bindable : (vs : List Variable) (conditions : List Condition) (timings : ℕ) (p : ReadyPath) → All (λ c. IsRead c.tokens c) conditions → IsReadyPath (length (all_bits vs)) timings (length conditions) p
    → HasSound vs (condition_ready conditions vs p.condition) → IsBindable vs conditions p.condition
bindable vs conditions timings p read h = by p.condition h.condition
  where
    first : Condition
    first = record { tokens = []; tree = constant X }

    by : (c : ReadyCondition) → IsWrittenBelow (length conditions) c → HasSound vs (condition_ready conditions vs c) → IsBindable vs conditions c
    by ready.Always lt s = tt
    by ready.IfNone lt s = tt
    by (ready.If w) lt s =
        let c = slice_index_or conditions w first in
        let at : slice_get conditions w ≡ Some c = slice_get-get_or conditions w first lt in
        (c, (at, record { read = read w first lt; operands = subst (λ o. HasSound vs (written_condition vs o)) at s }))

path-usable : (vs : List Variable) (conditions : List Condition) (timings : ℕ) (p : ReadyPath) → All (λ c. IsRead c.tokens c) conditions → IsReadyPath (length (all_bits vs)) timings (length conditions) p
    → HasSound vs (condition_ready conditions vs p.condition) → IsUsablePath vs conditions p
path-usable vs conditions timings p read h s = record { input = h.input; condition = bindable vs conditions timings p read h s }

output-usable : (vs : List Variable) (conditions : List Condition) (timings : List LegTiming) (o : ReadyOutput) → All (λ c. IsRead c.tokens c) conditions
    → IsReadyOutput (length (all_bits vs)) (length timings) (length conditions) o → AreSoundPaths vs (output_ready timings conditions vs o) → IsUsable vs conditions o
output-usable vs conditions timings o read h s =
    let each : AllByRecursion (λ p. HasSound vs (condition_ready conditions vs p.condition)) o.paths.items = all-map_back (λ p. HasSound vs p.condition) (path_ready timings conditions vs) o.paths.items s in
    let all : All (λ p. HasSound vs (condition_ready conditions vs p.condition)) o.paths.items = All-from_recursion (λ p. HasSound vs (condition_ready conditions vs p.condition)) o.paths.items each in
    record { output = h.output; paths = λ k d lt. path-usable vs conditions (length timings) (slice_index_or o.paths.items k d) read (h.paths k d lt) (all k d lt) }

-- each output that stands ready of a module without fault can be used
pub usable : (source : Source) (top : Module) (corner : Corner) (m : Module) (made : ModulePaths) (list : List ReadyOutput) → IsReadyOf corner m source top made list → specify_faults corner (tick_of source top) m ≡ []
    → All (λ c. IsRead c.tokens c) made.conditions.items → All (IsUsable (variables m) made.conditions.items) list
usable source top corner m made list h none read =
    let vs = variables m in
    let timings = made.timings.items in
    let conditions = made.conditions.items in
    let sound : AllByRecursion (AreSoundPaths vs) (map (output_ready timings conditions vs) list) = subst (AllByRecursion (AreSoundPaths vs)) (sym h.outputs) (outputs-sound corner (tick_of source top) m none) in
    let each : AllByRecursion (λ o. AreSoundPaths vs (output_ready timings conditions vs o)) list = all-map_back (AreSoundPaths vs) (output_ready timings conditions vs) list sound in
    let all : All (λ o. AreSoundPaths vs (output_ready timings conditions vs o)) list = All-from_recursion (λ o. AreSoundPaths vs (output_ready timings conditions vs o)) list each in
    λ k d lt. output-usable vs conditions timings (slice_index_or list k d) read (h.named k d lt) (all k d lt)
