-- What stands on shelves stays when more comes behind it.
use Rattle.std.specs.Prelude.{◌≡◌, ℕ, zero, suc, ◌+◌, ◌<◌, ◌≤◌, All, List, [], ◌∷◌, ◌++◌, Option, length, map, replicate, refl}
use Rattle.std.specs.Global.{Vec}
use Rattle.std.proofs.Common.{sym, ◌∙◌, ap, arith, subst, append_assoc, length-append}
use Rattle.std.proofs.lemmas.List.{append-nil, length-map}
use Rattle.std.proofs.lemmas.List.Elements.{All-weaker}
use Rattle.cond_expr.specs.Condition.{Condition}
use Rattle.sg_circuit.specs.TimingsSeen.{limit_seen, timings_of}
use Rattle.sg_circuit.specs.declared.elements.LegTiming.{LegTiming}
use Rattle.sg_delay.specs.declared.limits.Limit.{Limit}
use Rattle.elab_model.specs.Names.{Variable}
use Rattle.elab_laws.specs.Handing.{all_bits}
use Rattle.specify_model.specs.Paths.{timings_with}
use Rattle.elab_ends.specs.Seen.{bit_seen}
use Rattle.specify_paths.specs.Seen.{said_by, outputs_seen, output_seen, path_seen, IsInRow}
use Rattle.specify_paths.specs.Spelled.{IsSpelled}
use Rattle.specify_paths.specs.declared.grouping.PathOutput as code_output
use Rattle.specify_paths.specs.declared.outputs.PathOutputs.{PathOutputs}
use Rattle.specify_paths.specs.declared.pairs.ModulePath as code_path
use Rattle.specify_paths.specs.declared.statements.Statement.{Statement}
use Rattle.elab_paths.specs.Ready.{path_ready, output_ready, IsWrittenBelow, IsReadyPath, IsReadyOutput}
use Rattle.elab_paths.specs.Shelving.{ListGrows, AreRead, IsShelvedCondition, said_in, AreShelved, IsShelvedPath, IsShelvedOutput}
use Rattle.elab_paths.specs.declared.shelving.ReadyCondition.{ReadyCondition}
use Rattle.elab_paths.specs.declared.shelving.ReadyCondition.TheVariants as ready
use Rattle.elab_paths.specs.declared.shelving.ReadyOutput.{ReadyOutput}
use Rattle.elab_paths.specs.declared.shelving.ReadyPath.{ReadyPath}
use Rattle.elab_paths.specs.declared.shelving.Shelved.{Shelved}
use Rattle.elab_paths.proofs.SideBySide.{Each, all-parted, each-then, each-same, each-all}

-- ---- lists that grow

pub grows-none : {A : Type 0} (xs : List A) → ListGrows xs xs
grows-none xs = ([], sym (append-nil xs))

pub grows-then : {A : Type 0} (a b c : List A) → ListGrows a b → ListGrows b c → ListGrows a c
grows-then a b c (xs, e) (ys, f) = (xs ++ ys, f ∙ ap (λ t. t ++ ys) e ∙ append_assoc a xs ys)

-- what comes behind a list that has grown comes behind the list
pub grown-front : {A : Type 0} (old new more : List A) (h : ListGrows old new) → new ++ more ≡ old ++ (h.0 ++ more)
grown-front old new more h = ap (λ t. t ++ more) h.1 ∙ append_assoc old h.0 more

pub grown-longer : {A : Type 0} (old new : List A) → ListGrows old new → length old ≤ length new
grown-longer old new h = let l : length new ≡ length old + length h.0 = ap length h.1 ∙ length-append old h.0 in omega arith

-- ---- conditions

below-stays : (m n : ℕ) (r : ReadyCondition) → m ≤ n → IsWrittenBelow m r → IsWrittenBelow n r
below-stays m n ready.Always le h = tt
below-stays m n (ready.If written) le h = by le h
  where
    by : m ≤ n → written < m → written < n
    by le h = omega arith
below-stays m n ready.IfNone le h = tt

pub read-more : (start old new : List Condition) (ss : List Statement) (s : Statement) → (IsSpelled s.condition → AreRead old → AreRead new)
    → (All (λ x. IsSpelled x.condition) ss → AreRead start → AreRead old) → All (λ x. IsSpelled x.condition) (ss ++ s ∷ []) → AreRead start → AreRead new
read-more start old new ss s one h all begun = let r = all-parted (λ x. IsSpelled x.condition) ss s all in one r.1 (h r.0 begun)

-- ---- what an output names, in tables that grow

le-same : (n : ℕ) → n ≤ n
le-same n = omega arith

path-ready_stays : (bits m n i j : ℕ) (p : ReadyPath) → m ≤ n → i ≤ j → IsReadyPath bits m i p → IsReadyPath bits n j p
path-ready_stays bits m n i j p le more h =
    let lt : p.timing < m = h.timing in
    record { input = h.input; timing = omega arith; condition = below-stays i j p.condition more h.condition }

pub ready-stays : (bits m n i j : ℕ) (o : ReadyOutput) → m ≤ n → i ≤ j → IsReadyOutput bits m i o → IsReadyOutput bits n j o
ready-stays bits m n i j o le more h = record {
  output = h.output;
  paths = All-weaker (IsReadyPath bits m i) (IsReadyPath bits n j) (λ p k. path-ready_stays bits m n i j p le more k) o.paths.items h.paths;
}

-- ---- what specify paths say

abbrev pub shelved_of : Statement → ReadyCondition → Shelved
shelved_of s r = record { edge = s.edge; condition = r; delays = s.delays }

-- a specify path has this condition in the table
pub record IsShelved (conditions : List Condition) (s : Statement) (x : Shelved) : Type 0 where
  pub said : (more : List Condition) (vs : List Variable) → said_in (conditions ++ more) vs x ≡ said_by vs s
  pub below : IsWrittenBelow (length conditions) x.condition

pub shelved-one : (conditions : List Condition) (s : Statement) (r : ReadyCondition) → IsShelvedCondition conditions s.condition r → IsShelved conditions s (shelved_of s r)
shelved-one conditions s r h = record { said = λ more vs. ap (λ c. record { edge = s.edge; condition = c; delays = s.delays.at }) (h.seen more vs); below = h.below }

pub shelved-stays : (old new : List Condition) → ListGrows old new → (s : Statement) (x : Shelved) → IsShelved old s x → IsShelved new s x
shelved-stays old new grows s x h = record {
  said = λ more vs. ap (λ cs. said_in cs vs x) (grown-front old new more grows) ∙ h.said (grows.0 ++ more) vs;
  below = below-stays (length old) (length new) x.condition (grown-longer old new grows) h.below;
}

-- one more specify path
pub statement-more : (start old new : List Condition) (ss : List Statement) (s : Statement) (r : ReadyCondition) (shelved longer : List Shelved) → ListGrows start old → ListGrows old new
    → IsShelvedCondition new s.condition r → longer ≡ shelved ++ shelved_of s r ∷ [] → Each (IsShelved old) ss shelved → ListGrows start new × Each (IsShelved new) (ss ++ s ∷ []) longer
statement-more start old new ss s r shelved longer begun grows one long h = (
  grows-then start old new begun grows,
  subst (Each (IsShelved new) (ss ++ s ∷ [])) (sym long)
      (each-then (IsShelved old) (IsShelved new) ss shelved s (shelved_of s r) (λ a b k. shelved-stays old new grows a b k) (shelved-one new s r one) h),
)

pub shelved-whole : (conditions : List Condition) (statements : List Statement) (shelved : List Shelved) → Each (IsShelved conditions) statements shelved → AreShelved conditions statements shelved
shelved-whole conditions statements shelved h = record {
  said = λ more vs. each-same (IsShelved conditions) (said_in (conditions ++ more) vs) (said_by vs) statements shelved (λ s x k. k.said more vs) h;
  named = each-all (IsShelved conditions) (λ s. Unit {0}) (λ x. IsWrittenBelow (length conditions) x.condition) statements shelved (λ s x k u. k.below) h (λ k d lt. tt);
}

pub shelved-count : (conditions : List Condition) (statements : List Statement) (shelved : List Shelved) → AreShelved conditions statements shelved → length shelved ≡ length statements
shelved-count conditions statements shelved h =
    sym (length-map shelved (said_in (conditions ++ []) [])) ∙ ap length (h.said [] []) ∙ length-map statements (said_by [])

-- ---- paths

pub timings-alike : (limits : Option (ℕ × ℕ)) (l : Limit) → limit_seen l ≡ limits → (ds : List ℕ) (n : ℕ) → length ds ≡ n → timings_of ds (replicate n l) ≡ timings_with limits ds
timings-alike limits l e [] zero h = refl
timings-alike limits l e [] (suc n) h = absurd (omega arith)
timings-alike limits l e (d ∷ ds) zero h = absurd (omega arith)
timings-alike limits l e (d ∷ ds) (suc n) h =
    ap (λ x. record { delay = d; limits = x } ∷ timings_of ds (replicate n l)) e ∙ ap (λ ts. record { delay = d; limits = limits } ∷ ts) (timings-alike limits l e ds n (omega arith))

pub path-stays : (shelved : List Shelved) (old new : List LegTiming) → ListGrows old new → (p : code_path.ModulePath) (r : ReadyPath) → IsShelvedPath old shelved p r → IsShelvedPath new shelved p r
path-stays shelved old new grows p r h =
    let le : length old ≤ length new = grown-longer old new grows in
    let lt : r.timing < length old = h.timing in
    record {
      path = λ more conditions vs. ap (λ ts. path_ready ts conditions vs r) (grown-front old new more grows) ∙ h.path (grows.0 ++ more) conditions vs;
      input = h.input;
      timing = omega arith;
      condition = h.condition;
    }

-- ---- outputs

pub output-made : (timings : List LegTiming) (shelved : List Shelved) (o : code_output.PathOutput) (paths : Vec ReadyPath) → Each (IsShelvedPath timings shelved) o.paths.items paths.items
    → IsShelvedOutput timings shelved o (record { output = o.output; place = o.place; style = o.style; paths = paths })
output-made timings shelved o paths h = record {
  output = λ more conditions vs.
      ap (λ ps. record { output = bit_seen vs o.output; place = o.place; style = o.style; paths = ps })
      (each-same (IsShelvedPath timings shelved) (path_ready (timings ++ more) conditions vs) (path_seen vs (map (said_in conditions vs) shelved)) o.paths.items paths.items
      (λ p r k. k.path more conditions vs) h);
  named = λ bits conditions below inputs all. record {
    output = below;
    paths = each-all (IsShelvedPath timings shelved) (λ p. p.input < bits) (IsReadyPath bits (length timings) conditions) o.paths.items paths.items
        (λ p r k lt. record { input = subst (λ i. i < bits) (sym k.input) lt; timing = k.timing; condition = k.condition conditions all }) h inputs;
  };
}

pub output-stays : (shelved : List Shelved) (old new : List LegTiming) → ListGrows old new → (o : code_output.PathOutput) (r : ReadyOutput) → IsShelvedOutput old shelved o r
    → IsShelvedOutput new shelved o r
output-stays shelved old new grows o r h = record {
  output = λ more conditions vs. ap (λ ts. output_ready ts conditions vs r) (grown-front old new more grows) ∙ h.output (grows.0 ++ more) conditions vs;
  named = λ bits conditions below inputs all. ready-stays bits (length old) (length new) conditions conditions r (grown-longer old new grows) (le-same conditions) (h.named bits conditions below inputs all);
}

-- ---- all of a module

pub outputs-ready : (vs : List Variable) (paths : PathOutputs) (shelved : List Shelved) (timings more : List LegTiming) (conditions after : List Condition) (list : List ReadyOutput)
    → AreShelved conditions paths.statements.items shelved → Each (IsShelvedOutput timings shelved) paths.outputs.items list
    → map (output_ready (timings ++ more) (conditions ++ after) vs) list ≡ outputs_seen vs paths
outputs-ready vs paths shelved timings more conditions after list are h =
    each-same (IsShelvedOutput timings shelved) (output_ready (timings ++ more) (conditions ++ after) vs) (output_seen vs (map (said_in (conditions ++ after) vs) shelved)) paths.outputs.items list
    (λ o r k. k.output more (conditions ++ after) vs) h
    ∙ ap (λ said. map (output_seen vs said) paths.outputs.items) (are.said after vs)

pub outputs-named : (vs : List Variable) (paths : PathOutputs) (shelved : List Shelved) (timings : List LegTiming) (conditions : List Condition) (list : List ReadyOutput)
    → AreShelved conditions paths.statements.items shelved → Each (IsShelvedOutput timings shelved) paths.outputs.items list
    → All (IsInRow vs (length paths.statements.items)) paths.outputs.items → All (IsReadyOutput (length (all_bits vs)) (length timings) (length conditions)) list
outputs-named vs paths shelved timings conditions list are h row =
    each-all (IsShelvedOutput timings shelved) (IsInRow vs (length paths.statements.items)) (IsReadyOutput (length (all_bits vs)) (length timings) (length conditions)) paths.outputs.items list
    (λ o r k inside. k.named (length (all_bits vs)) (length conditions) inside.output_in_row inside.inputs_in_row are.named) h row
