-- Codes are the same where keys are.
use Rattle.std.proofs.Common.{◌≡◌, refl, sym, ◌∙◌, ap, ℕ, ◌<◌, Bool, true, false, List, [], ◌∷◌, length, Option, Some, None, slice_index_or, option_map}
use Rattle.std.specs.Prelude.{◌==◌, IfSome, if◌then◌else◌}
use Rattle.cond_expr.specs.Condition.{Condition}
use Rattle.sg_logic.specs.declared.edges.Edge as netlist
use Rattle.sg_logic.specs.declared.edges.TheConstants.{POSEDGE, NEGEDGE}
use Rattle.sg_circuit.specs.declared.checks.CheckConditions as code_conditions
use Rattle.sg_circuit.specs.declared.checks.CheckTiming.{CheckTiming}
use Rattle.sg_circuit.specs.declared.checks.Event.{Event}
use Rattle.sg_circuit.specs.declared.elements.LegTiming.{LegTiming}
use Rattle.sg_circuit.specs.declared.paths.Path as code_path
use Rattle.sg_circuit.specs.declared.paths.PathCondition as code_condition
use Rattle.sg_circuit.specs.declared.paths.PathCondition.TheVariants as code
use Rattle.sg_circuit.specs.ChecksSeen.{AreWritten, text_at}
use Rattle.sg_circuit.specs.PathsSeen.{written_at, condition_seen, path_seen, IsIndexedCondition, IsIndexedPath}
use Rattle.sdf_tree.specs.declared.tree.Edge.{Edge}
use Rattle.sdf_tree.specs.declared.tree.Edge.TheVariants.{Posedge, Negedge}
use Rattle.sdf_tree.specs.Written.{PathCondition, if_words}
use Rattle.annotation_model.specs.Same.{bare, is_edge}
use Rattle.written_model.specs.declared.parts.Part.{Part}
use Rattle.written_model.specs.declared.parts.Part.TheVariants as part
use Rattle.written_model.specs.Entries.{PathKey, EventKey, CheckKey, edge_of, condition_of, path_key, event_key}
use Rattle.written_faults.specs.Classes.{AreClasses}
use Rattle.written_faults.specs.Keys.{edge_code, condition_code, path_code, written_code, event_code, datum_code, event_codes, part_number, part_code, EventCode, PartCode, PathCode}

-- ---- edges and parts

abbrev edge_word : ℕ → Option Edge
edge_word n = if n == 0 then None else if n == 1 then Some Posedge else Some Negedge

edge-back : (e : Option netlist.Edge) → edge_word (edge_code (edge_of e)) ≡ edge_of e
edge-back e = by (is_edge (Some POSEDGE) e) (is_edge (Some NEGEDGE) e)
  where
    by : (rises falls : Bool) → edge_word (edge_code (if rises then Some Posedge else if falls then Some Negedge else None)) ≡ (if rises then Some Posedge else if falls then Some Negedge else None)
    by true falls = refl
    by false true = refl
    by false false = refl

same-edge : (e f : Option netlist.Edge) → edge_code (edge_of e) ≡ edge_code (edge_of f) → edge_of e ≡ edge_of f
same-edge e f same = sym (edge-back e) ∙ (ap edge_word same ∙ edge-back f)

abbrev part_of : ℕ → Part
part_of n = slice_index_or (part.Setup ∷ part.Hold ∷ part.Recovery ∷ part.Removal ∷ part.Skew ∷ part.Width ∷ part.Period ∷ []) n part.Setup

part-back : (p : Part) → part_of (part_number p) ≡ p
part-back part.Setup = refl
part-back part.Hold = refl
part-back part.Recovery = refl
part-back part.Removal = refl
part-back part.Skew = refl
part-back part.Width = refl
part-back part.Period = refl

module _ (conditions : List Condition) (classes : List ℕ) (are : AreClasses conditions classes) where
  -- ---- paths

  code-of-condition : (c d : code_condition.PathCondition) → IsIndexedCondition (length conditions) c → IsIndexedCondition (length conditions) d
      → condition_of (condition_seen conditions c) ≡ condition_of (condition_seen conditions d) → condition_code classes c ≡ condition_code classes d
  code-of-condition code.Always code.Always l m e = refl
  code-of-condition code.IfNone code.IfNone l m e = refl
  code-of-condition (code.If w b) (code.If v d) l m e =
      let h : bare (written_at conditions w) ≡ bare (written_at conditions v) = cc in
      ap {B = Option (Option ℕ)} (λ n. Some (Some n)) ((are.same w v l m).1 h)
  code-of-condition code.Always code.IfNone l m e = absurd cc
  code-of-condition code.Always (code.If v d) l m e = absurd cc
  code-of-condition code.IfNone code.Always l m e = absurd cc
  code-of-condition code.IfNone (code.If v d) l m e = absurd cc
  code-of-condition (code.If w b) code.Always l m e = absurd cc
  code-of-condition (code.If w b) code.IfNone l m e = absurd cc

  condition-of-code : (c d : code_condition.PathCondition) → IsIndexedCondition (length conditions) c → IsIndexedCondition (length conditions) d
      → condition_code classes c ≡ condition_code classes d → condition_of (condition_seen conditions c) ≡ condition_of (condition_seen conditions d)
  condition-of-code code.Always code.Always l m e = refl
  condition-of-code code.IfNone code.IfNone l m e = refl
  condition-of-code (code.If w b) (code.If v d) l m e =
      let h : slice_index_or classes w 0 ≡ slice_index_or classes v 0 = cc in
      ap (λ ts. if_words ts) ((are.same w v l m).0 h)
  condition-of-code code.Always code.IfNone l m e = absurd cc
  condition-of-code code.Always (code.If v d) l m e = absurd cc
  condition-of-code code.IfNone code.Always l m e = absurd cc
  condition-of-code code.IfNone (code.If v d) l m e = absurd cc
  condition-of-code (code.If w b) code.Always l m e = absurd cc
  condition-of-code (code.If w b) code.IfNone l m e = absurd cc

  module _ (timings : List LegTiming) (o q : ℕ) (x y : code_path.Path) (good : IsIndexedPath (length conditions) (length timings) x) (fine : IsIndexedPath (length conditions) (length timings) y) where
    pub path_keys : path_key o (path_seen conditions timings x) ≡ path_key q (path_seen conditions timings y) → path_code classes o x ≡ path_code classes q y
    path_keys e =
        let c = code-of-condition x.condition y.condition good.condition fine.condition (ap (λ (k : PathKey). k.condition) e) in
        parts x.input y.input o q (edge_code (edge_of x.edge)) (edge_code (edge_of y.edge)) (condition_code classes x.condition) (condition_code classes y.condition)
        (ap (λ (k : PathKey). k.input) e) (ap (λ (k : PathKey). k.output) e) (ap (λ (k : PathKey). edge_code k.edge) e) c
      where
        parts : (a a' b b' c c' : ℕ) (d d' : Option (Option ℕ)) → a ≡ a' → b ≡ b' → c ≡ c' → d ≡ d' → ◌≡◌ {A = PathCode} (a, b, c, d) (a', b', c', d')
        parts a a' b b' c c' d d' f g h i = cc

    pub path_codes : path_code classes o x ≡ path_code classes q y → path_key o (path_seen conditions timings x) ≡ path_key q (path_seen conditions timings y)
    path_codes e =
        let c = condition-of-code x.condition y.condition good.condition fine.condition (ap (λ (k : ℕ × ℕ × ℕ × Option (Option ℕ)). k.3) e) in
        parts x.input y.input o q (edge_of x.edge) (edge_of y.edge) (condition_of (condition_seen conditions x.condition)) (condition_of (condition_seen conditions y.condition))
        (ap (λ (k : ℕ × ℕ × ℕ × Option (Option ℕ)). k.0) e) (ap (λ (k : ℕ × ℕ × ℕ × Option (Option ℕ)). k.1) e) (same-edge x.edge y.edge (ap (λ (k : ℕ × ℕ × ℕ × Option (Option ℕ)). k.2) e)) c
      where
        parts : (a a' b b' : ℕ) (c c' : Option Edge) (d d' : PathCondition) → a ≡ a' → b ≡ b' → c ≡ c' → d ≡ d'
            → ◌≡◌ {A = PathKey} (record { input = a; output = b; edge = c; condition = d }) (record { input = a'; output = b'; edge = c'; condition = d' })
        parts a a' b b' c c' d d' f g h i =
            ap {B = PathKey} (λ z. record { input = z; output = b; edge = c; condition = d }) f
            ∙ (ap {B = PathKey} (λ z. record { input = a'; output = z; edge = c; condition = d }) g
            ∙ (ap {B = PathKey} (λ z. record { input = a'; output = b'; edge = z; condition = d }) h ∙ ap {B = PathKey} (λ z. record { input = a'; output = b'; edge = c'; condition = z }) i))

  -- ---- timing checks

  code-of-written : (w v : Option ℕ) → IfSome w (λ p. p < length conditions) → IfSome v (λ p. p < length conditions) → option_map bare (text_at conditions w) ≡ option_map bare (text_at conditions v) → written_code classes w ≡ written_code classes v
  code-of-written None None l m e = refl
  code-of-written None (Some v) l m e = absurd cc
  code-of-written (Some w) None l m e = absurd cc
  code-of-written (Some w) (Some v) l m e = let h : bare (written_at conditions w) ≡ bare (written_at conditions v) = cc in ap (λ n. Some n) ((are.same w v l m).1 h)

  written-of-code : (w v : Option ℕ) → IfSome w (λ p. p < length conditions) → IfSome v (λ p. p < length conditions) → written_code classes w ≡ written_code classes v → option_map bare (text_at conditions w) ≡ option_map bare (text_at conditions v)
  written-of-code None None l m e = refl
  written-of-code None (Some v) l m e = absurd cc
  written-of-code (Some w) None l m e = absurd cc
  written-of-code (Some w) (Some v) l m e = let h : slice_index_or classes w 0 ≡ slice_index_or classes v 0 = cc in ap (λ ts. Some ts) ((are.same w v l m).0 h)

  code-of-event : (x y : Event) (w v : Option ℕ) → IfSome w (λ p. p < length conditions) → IfSome v (λ p. p < length conditions) → event_key x (text_at conditions w) ≡ event_key y (text_at conditions v) → event_code classes x w ≡ event_code classes y v
  code-of-event x y w v l m e =
      parts x.net y.net (edge_code (edge_of x.edge)) (edge_code (edge_of y.edge)) (written_code classes w) (written_code classes v)
      (ap (λ (k : EventKey). k.net) e) (ap (λ (k : EventKey). edge_code k.edge) e) (code-of-written w v l m (ap (λ (k : EventKey). k.condition) e))
    where
      parts : (a a' b b' : ℕ) (c c' : Option ℕ) → a ≡ a' → b ≡ b' → c ≡ c' → ◌≡◌ {A = EventCode} (a, b, c) (a', b', c')
      parts a a' b b' c c' f g h = cc

  event-of-code : (x y : Event) (w v : Option ℕ) → IfSome w (λ p. p < length conditions) → IfSome v (λ p. p < length conditions) → event_code classes x w ≡ event_code classes y v → event_key x (text_at conditions w) ≡ event_key y (text_at conditions v)
  event-of-code x y w v l m e =
      ap {B = EventKey} (λ z. record { net = z; edge = edge_of x.edge; condition = option_map bare (text_at conditions w) }) (ap (λ (k : EventCode). k.0) e)
      ∙ (ap {B = EventKey} (λ z. record { net = y.net; edge = z; condition = option_map bare (text_at conditions w) }) (same-edge x.edge y.edge (ap (λ (k : EventCode). k.1) e))
      ∙ ap {B = EventKey} (λ z. record { net = y.net; edge = edge_of y.edge; condition = z }) (written-of-code w v l m (ap (λ (k : EventCode). k.2) e)))

  code-of-datum : (o q : Option Event) (w v : Option ℕ) → IfSome w (λ p. p < length conditions) → IfSome v (λ p. p < length conditions)
      → option_map (λ (x : Event). event_key x (text_at conditions w)) o ≡ option_map (λ (x : Event). event_key x (text_at conditions v)) q → datum_code classes o w ≡ datum_code classes q v
  code-of-datum None None w v l m e = refl
  code-of-datum None (Some y) w v l m e = absurd cc
  code-of-datum (Some x) None w v l m e = absurd cc
  code-of-datum (Some x) (Some y) w v l m e = let h : event_key x (text_at conditions w) ≡ event_key y (text_at conditions v) = cc in ap (λ z. Some z) (code-of-event x y w v l m h)

  datum-of-code : (o q : Option Event) (w v : Option ℕ) → IfSome w (λ p. p < length conditions) → IfSome v (λ p. p < length conditions) → datum_code classes o w ≡ datum_code classes q v
      → option_map (λ (x : Event). event_key x (text_at conditions w)) o ≡ option_map (λ (x : Event). event_key x (text_at conditions v)) q
  datum-of-code None None w v l m e = refl
  datum-of-code None (Some y) w v l m e = absurd cc
  datum-of-code (Some x) None w v l m e = absurd cc
  datum-of-code (Some x) (Some y) w v l m e = let h : event_code classes x w ≡ event_code classes y v = cc in ap (λ z. Some z) (event-of-code x y w v l m h)

  -- the key of a part
  abbrev pub part_key : CheckTiming → code_conditions.CheckConditions → Part → CheckKey
  part_key t w p = record {
    part = p;
    refer = event_key t.refer (text_at conditions w.refer);
    datum = option_map (λ (e : Event). event_key e (text_at conditions w.datum)) t.datum;
  }

  module _ (t u : CheckTiming) (w v : code_conditions.CheckConditions) (p q : Part) (good : AreWritten (length conditions) w) (fine : AreWritten (length conditions) v) where
    pub part_keys : part_key t w p ≡ part_key u v q → part_code (event_codes classes t w) p ≡ part_code (event_codes classes u v) q
    part_keys e =
        parts (part_number p) (part_number q) (event_code classes t.refer w.refer) (event_code classes u.refer v.refer) (datum_code classes t.datum w.datum) (datum_code classes u.datum v.datum)
        (ap (λ (k : CheckKey). part_number k.part) e) (code-of-event t.refer u.refer w.refer v.refer good.refer fine.refer (ap (λ (k : CheckKey). k.refer) e))
        (code-of-datum t.datum u.datum w.datum v.datum good.datum fine.datum (ap (λ (k : CheckKey). k.datum) e))
      where
        parts : (a a' : ℕ) (b b' : EventCode) (c c' : Option EventCode) → a ≡ a' → b ≡ b' → c ≡ c' → ◌≡◌ {A = PartCode} (a, b, c) (a', b', c')
        parts a a' b b' c c' f g h = cc

    pub part_codes : part_code (event_codes classes t w) p ≡ part_code (event_codes classes u v) q → part_key t w p ≡ part_key u v q
    part_codes e =
        let number = ap (λ (k : ℕ × EventCode × Option EventCode). k.0) e in
        parts p q (event_key t.refer (text_at conditions w.refer)) (event_key u.refer (text_at conditions v.refer))
        (option_map (λ (x : Event). event_key x (text_at conditions w.datum)) t.datum) (option_map (λ (x : Event). event_key x (text_at conditions v.datum)) u.datum)
        (sym (part-back p) ∙ (ap part_of number ∙ part-back q)) (event-of-code t.refer u.refer w.refer v.refer good.refer fine.refer (ap (λ (k : ℕ × EventCode × Option EventCode). k.1) e))
        (datum-of-code t.datum u.datum w.datum v.datum good.datum fine.datum (ap (λ (k : ℕ × EventCode × Option EventCode). k.2) e))
      where
        parts : (a a' : Part) (b b' : EventKey) (c c' : Option EventKey) → a ≡ a' → b ≡ b' → c ≡ c' → ◌≡◌ {A = CheckKey} (record { part = a; refer = b; datum = c }) (record { part = a'; refer = b'; datum = c' })
        parts a a' b b' c c' f g h =
            ap {B = CheckKey} (λ z. record { part = z; refer = b; datum = c }) f
            ∙ (ap {B = CheckKey} (λ z. record { part = a'; refer = z; datum = c }) g ∙ ap {B = CheckKey} (λ z. record { part = a'; refer = b'; datum = z }) h)
