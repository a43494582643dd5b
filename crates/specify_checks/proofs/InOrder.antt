-- The faults of a timing check, part by part, and the check that its parts make.
use Rattle.std.specs.Prelude.{◌≡◌, ℕ, ◌+◌, ◌<◌, List, [], ◌∷◌, ◌++◌, ◌&&◌, Option, Some, None, IfSome, is_none, flat_map, length, map, option_to_list, refl}
use Rattle.std.specs.Option.{option_map}
use Rattle.std.proofs.Common.{sym, ◌∙◌, ap, subst}
use Rattle.sg_text.specs.declared.refusals.Refused.{Refused}
use Rattle.vl_tree.specs.Tree.{Event, Check}
use Rattle.vl_tree.specs.Seen.{view_event, view_limit, view_name}
use Rattle.elab_model.specs.declared.kinds.ElabKind.{ElabKind}
use Rattle.elab_model.specs.declared.kinds.ElabKind.TheVariants.{BadTerminal}
use Rattle.elab_model.specs.Faults.{Fault, fault_if, RefusesOneOf}
use Rattle.elab_laws.specs.Handing.{all_bits}
use Rattle.elab_model.specs.Lates.{DelayedCopy}
use Rattle.elab_model.specs.Names.{Variable}
use Rattle.elab_model.specs.Terms.{term_bits}
use Rattle.elab_declared.proofs.Refusals.{refused-left, refused-right}
use Rattle.specify_model.specs.CheckFaults.{wants_edge, edge_faults, event_faults, some_event_faults, limit_faults, threshold_faults, notifier_faults, weight_of, check_faults}
use Rattle.specify_model.specs.Checks.{kind_of, reference_of, data_of, limits_in, threshold_of, notifier_of, event_of, limit_ticks, threshold_ticks, reg_bit, check_copies, module_check}
use Rattle.specify_model.specs.Conditions.{first_bit}
use Rattle.specify_model.specs.Values.{Measure, Values}
use Rattle.elab_ends.specs.Seen.{bit_seen}
use Rattle.specify_checks.specs.Copies.{both_at, AreTerminals}
use Rattle.specify_checks.specs.Parts.{ArePartsOf}
use Rattle.specify_checks.specs.Seen.{check_seen, event_seen, limits_seen}
use Rattle.specify_checks.specs.declared.checks.ModuleCheck.{ModuleCheck}
use Rattle.specify_checks.specs.declared.events.ModuleEvent.{ModuleEvent}
use Rattle.specify_checks.specs.declared.parts.Parts.{Parts}

none : (fs gs : List Fault) → fs ≡ [] → gs ≡ [] → fs ++ gs ≡ []
none fs gs e f = ap (λ hs. hs ++ gs) e ∙ f

module _ (by : Measure) (vs : List Variable) (values : Values) (c : Check) (p : Parts) (parts : ArePartsOf c p) (signals : ℕ) where
  abbrev all : List Fault
  all = check_faults signals by vs values c

  edges-are : fault_if (wants_edge p.kind && is_none (view_event p.reference.now).edge) BadTerminal p.reference.now.place ≡ edge_faults c
  edges-are = ap (λ k. fault_if (wants_edge k && is_none (view_event p.reference.now).edge) BadTerminal p.reference.now.place) parts.kind_is ∙ ap (λ e. fault_if (wants_edge (kind_of c) && is_none e.edge) BadTerminal e.place) parts.reference_is

  events-are : event_faults vs (view_event p.reference.now) ≡ event_faults vs (reference_of c)
  events-are = ap (event_faults vs) parts.reference_is

  data-are : some_event_faults vs (option_map (λ e. view_event e.now) p.data) ≡ some_event_faults vs (data_of c)
  data-are = ap (some_event_faults vs) parts.data_is

  abbrev own_limits : List Fault
  own_limits = flat_map (limit_faults (weight_of signals (kind_of c)) by values) (limits_in c)

  thresholds-are : threshold_faults by values (option_map view_limit p.threshold) ≡ threshold_faults by values (threshold_of c)
  thresholds-are = ap (threshold_faults by values) parts.threshold_is

  notifiers-are : notifier_faults vs (option_map view_name p.notifier) ≡ notifier_faults vs (notifier_of c)
  notifiers-are = ap (notifier_faults vs) parts.notifier_is

  over : (fs gs : List Fault) (r : Refused ElabKind) → fs ≡ gs → RefusesOneOf fs r → RefusesOneOf gs r
  over fs gs r e h = subst (λ hs. RefusesOneOf hs r) e h

  pub edge-told : (r : Refused ElabKind) → RefusesOneOf (fault_if (wants_edge p.kind && is_none (view_event p.reference.now).edge) BadTerminal p.reference.now.place) r → RefusesOneOf all r
  edge-told r h = refused-left (edge_faults c) _ r (over _ (edge_faults c) r edges-are h)

  pub reference-told : (r : Refused ElabKind) → RefusesOneOf (event_faults vs (view_event p.reference.now)) r → RefusesOneOf all r
  reference-told r h = refused-right (edge_faults c) _ r (refused-left (event_faults vs (reference_of c)) _ r (over _ (event_faults vs (reference_of c)) r events-are h))

  pub data-told : (r : Refused ElabKind) → RefusesOneOf (some_event_faults vs (option_map (λ e. view_event e.now) p.data)) r → RefusesOneOf all r
  data-told r h =
      refused-right (edge_faults c) _ r (refused-right (event_faults vs (reference_of c)) _ r (refused-left (some_event_faults vs (data_of c)) _ r (over _ (some_event_faults vs (data_of c)) r data-are h)))

  behind-data : (r : Refused ElabKind) → RefusesOneOf (own_limits ++ (threshold_faults by values (threshold_of c) ++ notifier_faults vs (notifier_of c))) r → RefusesOneOf all r
  behind-data r h = refused-right (edge_faults c) _ r (refused-right (event_faults vs (reference_of c)) _ r (refused-right (some_event_faults vs (data_of c)) _ r h))

  pub threshold-told : (r : Refused ElabKind) → RefusesOneOf (threshold_faults by values (option_map view_limit p.threshold)) r → RefusesOneOf all r
  threshold-told r h =
      behind-data r (refused-right own_limits _ r (refused-left (threshold_faults by values (threshold_of c)) _ r (over _ (threshold_faults by values (threshold_of c)) r thresholds-are h)))

  pub notifier-told : (r : Refused ElabKind) → RefusesOneOf (notifier_faults vs (option_map view_name p.notifier)) r → RefusesOneOf all r
  notifier-told r h =
      behind-data r (refused-right own_limits _ r (refused-right (threshold_faults by values (threshold_of c)) _ r (over _ (notifier_faults vs (notifier_of c)) r notifiers-are h)))

  -- the bits of its terminals
  bits-seen : (o : Option ModuleEvent) → option_map (λ e. e.bit) (option_map (event_seen vs) o) ≡ option_map (λ e. bit_seen vs e.bit) o
  bits-seen None = refl
  bits-seen (Some e) = refl

  bits-meant : (o : Option Event) → option_map (λ e. e.bit) (option_map (event_of vs) o) ≡ option_map (λ e. first_bit (term_bits vs e.term)) o
  bits-meant None = refl
  bits-meant (Some e) = refl

  pub terminals-are : (refer : ModuleEvent) (datum : Option ModuleEvent) → refer.bit < length (all_bits vs) → IfSome datum (λ e. e.bit < length (all_bits vs))
      → event_seen vs refer ≡ event_of vs (view_event p.reference.now) → option_map (event_seen vs) datum ≡ option_map (event_of vs) (option_map (λ e. view_event e.now) p.data)
      → event_faults vs (view_event p.reference.now) ≡ [] → some_event_faults vs (option_map (λ e. view_event e.now) p.data) ≡ [] → AreTerminals vs c refer datum
  terminals-are refer datum a b d e f g = record {
    refer_in_row = a;
    datum_in_row = b;
    refer_is = ap (λ s. s.bit) d ∙ ap (λ t. first_bit (term_bits vs t.term)) parts.reference_is;
    datum_is = sym (bits-seen datum) ∙ ap (option_map (λ s. s.bit)) (e ∙ ap (option_map (event_of vs)) parts.data_is) ∙ bits-meant (data_of c);
    refer_sound = sym events-are ∙ f;
    datum_sound = sym data-are ∙ g;
  }

  -- the check itself
  pub check-is : (cs : List DelayedCopy) (made : ModuleCheck) → made.place ≡ p.place → made.kind ≡ p.kind → event_seen vs made.refer ≡ event_of vs (view_event p.reference.now)
      → option_map (event_seen vs) made.datum ≡ option_map (event_of vs) (option_map (λ e. view_event e.now) p.data)
      → limits_seen made.limits ≡ map (limit_ticks by values) (view_limit p.first ∷ option_to_list (option_map view_limit p.second))
      → made.threshold ≡ threshold_ticks by values (option_map view_limit p.threshold) → option_map (bit_seen vs) made.notifier ≡ option_map reg_bit (option_map view_name p.notifier)
      → option_map (both_at cs) made.copies ≡ check_copies vs c → check_seen vs cs made ≡ module_check by vs values c
  check-is cs made a b d e f g h k = λ i. record {
    place = (a ∙ parts.place_is) i;
    kind = (b ∙ parts.kind_is) i;
    refer = (d ∙ ap (event_of vs) parts.reference_is) i;
    datum = (e ∙ ap (option_map (event_of vs)) parts.data_is) i;
    limits = (f ∙ ap (map (limit_ticks by values)) parts.limits_are) i;
    threshold = (g ∙ ap (threshold_ticks by values) parts.threshold_is) i;
    notifier = (h ∙ ap (option_map reg_bit) parts.notifier_is) i;
    copies = k i;
  }

  -- limits, which so many signals bear
  module _ (bearers : ℕ) (borne : weight_of signals p.kind ≡ bearers + 1) where
    abbrev limits : List Fault
    limits = flat_map (limit_faults (bearers + 1) by values) (view_limit p.first ∷ option_to_list (option_map view_limit p.second))

    limits-are : limits ≡ own_limits
    limits-are =
        ap (λ w. flat_map (limit_faults w by values) (view_limit p.first ∷ option_to_list (option_map view_limit p.second))) (sym borne ∙ ap (weight_of signals) parts.kind_is)
        ∙ ap (flat_map (limit_faults (weight_of signals (kind_of c)) by values)) parts.limits_are

    pub limits-told : (r : Refused ElabKind) → RefusesOneOf limits r → RefusesOneOf all r
    limits-told r h = behind-data r (refused-left own_limits _ r (over limits _ r limits-are h))

    pub check-faultless : fault_if (wants_edge p.kind && is_none (view_event p.reference.now).edge) BadTerminal p.reference.now.place ≡ [] → event_faults vs (view_event p.reference.now) ≡ []
        → some_event_faults vs (option_map (λ e. view_event e.now) p.data) ≡ [] → limits ≡ [] → threshold_faults by values (option_map view_limit p.threshold) ≡ [] → notifier_faults vs (option_map view_name p.notifier) ≡ []
        → all ≡ []
    check-faultless a b d e f g =
        none (edge_faults c) _ (sym edges-are ∙ a) (none (event_faults vs (reference_of c)) _ (sym events-are ∙ b) (none (some_event_faults vs (data_of c)) _ (sym data-are ∙ d)
        (none own_limits _ (sym limits-are ∙ e) (none (threshold_faults by values (threshold_of c)) _ (sym thresholds-are ∙ f) (sym notifiers-are ∙ g)))))
