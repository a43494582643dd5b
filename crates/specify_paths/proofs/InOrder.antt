-- The faults of a module's specify blocks, part by part.
use Rattle.std.specs.Prelude.{◌≡◌, List, [], ◌∷◌, ◌++◌, flat_map, refl}
use Rattle.std.proofs.Common.{sym, ◌∙◌, ap, subst, append_assoc}
use Rattle.sg_text.specs.declared.refusals.Refused.{Refused}
use Rattle.vl_tree.specs.Tree.{SpecifyPath, SpecifyItem, Word}
use Rattle.elab_model.specs.declared.kinds.ElabKind.{ElabKind}
use Rattle.elab_model.specs.Faults.{Fault, RefusesOneOf}
use Rattle.elab_model.specs.Names.{Variable}
use Rattle.elab_declared.proofs.Refusals.{refused-left, refused-right}
use Rattle.specify_model.specs.Blocks.{Parameter, parameters, Pulse, pulses, specify_paths, StyleText, style_texts}
use Rattle.specify_model.specs.Faults.{parameter_faults, pulse_faults, end_faults, side_faults, condition_faults, own_condition, source_faults, list_faults, path_faults, style_faults, faults_by}
use Rattle.specify_model.specs.Values.{Measure, Values, value_of}

pub none : (fs gs : List Fault) → fs ≡ [] → gs ≡ [] → fs ++ gs ≡ []
none fs gs e f = ap (λ hs. hs ++ gs) e ∙ f

pub none-left : (fs gs : List Fault) → fs ++ gs ≡ [] → fs ≡ []
none-left [] gs e = refl
none-left (f ∷ fs) gs e = cc

pub none-right : (fs gs : List Fault) → fs ++ gs ≡ [] → gs ≡ []
none-right [] gs e = e
none-right (f ∷ fs) gs e = cc

-- ---- one specify path

module _ (by : Measure) (vs : List Variable) (values : Values) (p : SpecifyPath) where
  abbrev words : List (List Word) → List Fault
  words wss = flat_map (condition_faults vs p.place) wss

  abbrev sourced : List Fault
  sourced = source_faults vs p.destination.source

  abbrev pub rest : List Fault
  rest = words (own_condition p.condition) ++ (sourced ++ list_faults by values p.place p.delays)

  pub own-told : (r : Refused ElabKind) → RefusesOneOf (words (own_condition p.condition)) r → RefusesOneOf rest r
  own-told r h = refused-left (words (own_condition p.condition)) _ r h

  pub source-told : (r : Refused ElabKind) → RefusesOneOf sourced r → RefusesOneOf rest r
  source-told r h = refused-right (words (own_condition p.condition)) _ r (refused-left sourced _ r h)

  pub list-told : (r : Refused ElabKind) → RefusesOneOf (list_faults by values p.place p.delays) r → RefusesOneOf rest r
  list-told r h = refused-right (words (own_condition p.condition)) _ r (refused-right sourced _ r h)

  pub statement-faultless : words (own_condition p.condition) ≡ [] → sourced ≡ [] → list_faults by values p.place p.delays ≡ [] → rest ≡ []
  statement-faultless a b c = none (words (own_condition p.condition)) _ a (none sourced _ b c)

  pub ends-told : (r : Refused ElabKind) → RefusesOneOf (end_faults vs p ++ side_faults vs p) r → RefusesOneOf (path_faults by vs values p) r
  ends-told r h = subst (λ fs. RefusesOneOf fs r) (append_assoc (end_faults vs p) (side_faults vs p) rest) (refused-left (end_faults vs p ++ side_faults vs p) rest r h)

  pub statement-told : (r : Refused ElabKind) → RefusesOneOf rest r → RefusesOneOf (path_faults by vs values p) r
  statement-told r h = refused-right (end_faults vs p) (side_faults vs p ++ rest) r (refused-right (side_faults vs p) rest r h)

  pub path-faultless : end_faults vs p ++ side_faults vs p ≡ [] → rest ≡ [] → path_faults by vs values p ≡ []
  path-faultless a b = none (end_faults vs p) _ (none-left (end_faults vs p) (side_faults vs p) a) (none (side_faults vs p) _ (none-right (end_faults vs p) (side_faults vs p) a) b)

-- ---- all

module _ (by : Measure) (vs : List Variable) (items : List SpecifyItem) where
  abbrev styles : List Fault
  styles = flat_map (style_faults vs) (style_texts items)

  abbrev paths : List Fault
  paths = flat_map (path_faults by vs (value_of (parameters items))) (specify_paths items)

  abbrev limits : List Fault
  limits = flat_map (pulse_faults by vs) (pulses items)

  pub parameters-told : (ps : List Parameter) (r : Refused ElabKind) → ps ≡ parameters items → RefusesOneOf (parameter_faults ps) r → RefusesOneOf (faults_by by vs items) r
  parameters-told ps r e h = refused-left (parameter_faults (parameters items)) _ r (subst (λ qs. RefusesOneOf (parameter_faults qs) r) e h)

  pub pulses-told : (ps : List Pulse) (r : Refused ElabKind) → ps ≡ pulses items → RefusesOneOf (flat_map (pulse_faults by vs) ps) r → RefusesOneOf (faults_by by vs items) r
  pulses-told ps r e h = refused-right (parameter_faults (parameters items)) _ r (refused-left limits _ r (subst (λ qs. RefusesOneOf (flat_map (pulse_faults by vs) qs) r) e h))

  pub paths-told : (values : Values) (ps : List SpecifyPath) (r : Refused ElabKind) → values ≡ value_of (parameters items) → ps ≡ specify_paths items → RefusesOneOf (flat_map (path_faults by vs values) ps) r
      → RefusesOneOf (faults_by by vs items) r
  paths-told values ps r v e h =
      refused-right (parameter_faults (parameters items)) _ r (refused-right limits _ r (refused-left paths styles r
      (subst (λ w. RefusesOneOf (flat_map (path_faults by vs w) (specify_paths items)) r) v (subst (λ qs. RefusesOneOf (flat_map (path_faults by vs values) qs) r) e h))))

  pub styles-told : (ss : List StyleText) (r : Refused ElabKind) → ss ≡ style_texts items → RefusesOneOf (flat_map (style_faults vs) ss) r → RefusesOneOf (faults_by by vs items) r
  styles-told ss r e h =
      refused-right (parameter_faults (parameters items)) _ r (refused-right limits _ r (refused-right paths styles r (subst (λ ts. RefusesOneOf (flat_map (style_faults vs) ts) r) e h)))

  pub none-at_all : (ps : List Parameter) (qs : List Pulse) (values : Values) (rs : List SpecifyPath) (ss : List StyleText) → ps ≡ parameters items → qs ≡ pulses items → values ≡ value_of (parameters items)
      → rs ≡ specify_paths items → ss ≡ style_texts items → parameter_faults ps ≡ [] → flat_map (pulse_faults by vs) qs ≡ [] → flat_map (path_faults by vs values) rs ≡ [] → flat_map (style_faults vs) ss ≡ []
      → faults_by by vs items ≡ []
  none-at_all ps qs values rs ss p q v r s a b c d =
      none _ _ (ap parameter_faults (sym p) ∙ a) (none _ _ (ap (flat_map (pulse_faults by vs)) (sym q) ∙ b)
      (none _ _ (ap (λ w. flat_map (path_faults by vs w) (specify_paths items)) (sym v) ∙ ap (flat_map (path_faults by vs values)) (sym r) ∙ c) (ap (flat_map (style_faults vs)) (sym s) ∙ d)))
