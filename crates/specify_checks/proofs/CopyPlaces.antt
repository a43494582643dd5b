-- The copies that a check sees, by their places among those of its module.
use Rattle.std.specs.Prelude.{◌≡◌, ℕ, ◌<◌, All, List, [], ◌∷◌, Option, Some, None, length, map, refl}
use Rattle.std.specs.List.{position_from}
use Rattle.std.specs.Option.{option_map}
use Rattle.std.proofs.Common.{sym, ◌∙◌, ap, subst}
use Rattle.std.proofs.lemmas.List.{length-map}
use Rattle.std.proofs.lemmas.List.Elements.{All-cons, All-nil}
use Rattle.elab_bits.proofs.NamedAt.{not-named}
use Rattle.elab_variables.specs.Seen.{place_named}
use Rattle.sg_text.specs.declared.places.Place.{Place}
use Rattle.vl_tree.specs.declared.check_names.TwoLimitCheck.{TwoLimitCheck}
use Rattle.vl_tree.specs.declared.names.Name as code_name
use Rattle.vl_tree.specs.Seen.{view_name}
use Rattle.vl_tree.specs.Tree.{Named, Event, Limit, Check, two_limit_check, Module}
use Rattle.elab_laws.specs.Handing.{all_bits}
use Rattle.elab_laws.specs.Words.{In}
use Rattle.elab_model.specs.Lates.{DelayedCopy, copies, is_same_copy, module_copies}
use Rattle.elab_model.specs.Members.{check, delayed_names}
use Rattle.elab_model.specs.Names.{Variable, variables}
use Rattle.elab_model.specs.Terms.{NetBit, term_bits}
use Rattle.elab_ends.specs.Seen.{bit_seen}
use Rattle.elab_lates.specs.Copies.{AreCopies}
use Rattle.elab_lates.specs.Seen.{copy_seen, placed_seen, IsCopyInRow, IsPlaceIn}
use Rattle.elab_lates.specs.declared.copies.ModuleCopies.{ModuleCopies}
use Rattle.elab_lates.specs.declared.copies.PlacedCopy.{PlacedCopy}
use Rattle.specify_model.specs.Checks.{reference_of, data_of, check_copies, copy_of, name_bit}
use Rattle.specify_model.specs.Conditions.{first_bit}
use Rattle.specify_model.specs.Faults.{operand_faults}
use Rattle.specify_paths.proofs.InOrder.{none-left}
use Rattle.specify_checks.specs.Copies.{both_at, copies_seen, copy_at, name_term, place_among, AreNamed, AreTerminals, IsCheckOf, IsNamed, IsReady}
use Rattle.specify_checks.specs.declared.events.ModuleEvent.{ModuleEvent}
use Rattle.specify_checks.proofs.LateCopies.{among-all, both-asked, both-named, has-place, name-declared, stands-at, AreAsked}

module _ (m : Module) (vs : List Variable) (cs : ModuleCopies) (ready : IsReady m vs cs) where
  -- the copies that stand ready are those of the module
  pub seen-copies : copies_seen vs cs ≡ map (λ c. c.1) (module_copies m)
  seen-copies = by cs.copies.items ∙ ap (λ xs. map (λ c. c.1) (map (placed_seen xs) cs.copies.items)) ready.variables_are ∙ ap (map (λ c. c.1)) ready.copies_are.copies
    where
      by : (ps : List PlacedCopy) → map (λ p. copy_seen vs p.copy) ps ≡ map (λ c. c.1) (map (placed_seen vs) ps)
      by [] = refl
      by (p ∷ ps) = ap (λ ds. copy_seen vs p.copy ∷ ds) (by ps)

  as-many : length cs.copies.items ≡ length (module_copies m)
  as-many = sym (length-map cs.copies.items (λ p. copy_seen vs p.copy)) ∙ ap length seen-copies ∙ length-map (module_copies m) (λ c. c.1)

  place-seen : (x : DelayedCopy) (p : ℕ) → place_among m x ≡ Some p → (copy_at (copies_seen vs cs) p ≡ x) × (p < length cs.copies.items)
  place-seen x p e =
      let r = stands-at m x p e in
      (ap (λ ds. copy_at ds p) seen-copies ∙ r.same, subst (λ n. p < n) (sym as-many) r.within)

  -- of two that are found
  pub both-seen : (x y : DelayedCopy) (p q : ℕ) → Some p ≡ place_among m x → Some q ≡ place_among m y → both_at (copies_seen vs cs) (p ∷ q ∷ []) ≡ (x, y)
  both-seen x y p q e f = ap (λ z. (z, copy_at (copies_seen vs cs) q)) (place-seen x p (sym e)).0 ∙ ap (λ z. (x, z)) (place-seen y q (sym f)).0

  pub both-within : (x y : DelayedCopy) (p q : ℕ) → Some p ≡ place_among m x → Some q ≡ place_among m y → All (λ p. p < length cs.copies.items) (p ∷ q ∷ [])
  both-within x y p q e f =
      let Within : ℕ → Type 0 = λ p. p < length cs.copies.items in
      All-cons Within p (q ∷ []) (place-seen x p (sym e)).1 (All-cons Within q [] (place-seen y q (sym f)).1 (All-nil Within))

-- ---- the name of a copy

pub never-missing : (vs : List Variable) (o : Option code_name.Name) (n : code_name.Name) → o ≡ Some n → IsNamed vs (option_map view_name o) → None ≡ place_named vs n.text.now → ⊥
never-missing vs o n is named none =
    let own : IsNamed vs (Some (view_name n)) = subst (λ p. IsNamed vs (option_map view_name p)) is named in
    let r = name-declared vs (view_name n) (none-left (operand_faults vs (name_term (view_name n))) [] own) in
    let h : ◌≡◌ {A = Option Variable} (Some r.0) None = sym r.1 ∙ not-named vs n.text.now none in
    cc

pub named-is : (vs : List Variable) (o : Option code_name.Name) (n : code_name.Name) (start : ℕ) → o ≡ Some n → bit_seen vs start ≡ name_bit (view_name n)
    → option_map (bit_seen vs) (Some start) ≡ option_map name_bit (option_map view_name o)
named-is vs o n start is h = ap (λ b. Some b) h ∙ ap (λ p. option_map name_bit (option_map view_name p)) (sym is)

-- ---- those of a check

-- the copies of its terminals, by their bits
abbrev pub bit_copy : List Variable → ℕ → Option Named → DelayedCopy
bit_copy vs bit n = record { signal = bit_seen vs bit; named = option_map name_bit n }

module _ (m : Module) (vs : List Variable) (cs : ModuleCopies) (c : Check) (asked : IsCheckOf m vs cs c) (refer : ModuleEvent) (datum : Option ModuleEvent) (terminals : AreTerminals vs c refer datum) where
  pub refer-copy : (n : Option Named) → bit_copy vs refer.bit n ≡ copy_of vs (reference_of c) n
  refer-copy n = ap (λ b. record { signal = b; named = option_map name_bit n }) terminals.refer_is

  pub datum-there : (d : Event) → data_of c ≡ Some d → datum ≡ None → ⊥
  datum-there d e f =
      let h : ◌≡◌ {A = Option _} None (Some (first_bit (term_bits vs d.term))) =
      ap (option_map (λ x. bit_seen vs x.bit)) (sym f) ∙ terminals.datum_is ∙ ap (option_map (λ x. first_bit (term_bits vs x.term))) e in
      cc

  pub datum-copy : (d : Event) (e : ModuleEvent) (n : Option Named) → data_of c ≡ Some d → datum ≡ Some e → bit_copy vs e.bit n ≡ copy_of vs d n
  datum-copy d e n at is =
      let h : ◌≡◌ {A = Option _} (Some (bit_seen vs e.bit)) (Some (first_bit (term_bits vs d.term))) =
      ap (option_map (λ x. bit_seen vs x.bit)) (sym is) ∙ terminals.datum_is ∙ ap (option_map (λ x. first_bit (term_bits vs x.term))) at in
      let same : bit_seen vs e.bit ≡ first_bit (term_bits vs d.term) = cc in
      ap (λ b. record { signal = b; named = option_map name_bit n }) same

  -- and they are found
  none-missing : (x : DelayedCopy) → In x (map (λ c. c.1) (copies vs (check c))) → None ≡ place_among m x → ⊥
  none-missing x h e =
      let there = among-all m c x asked.member (subst (λ ws. In x (map (λ c. c.1) (copies ws (check c)))) asked.ready.variables_are h) in
      let found = has-place x 0 (module_copies m) there in
      let g : None ≡ Some found.0 = e ∙ found.1 in
      cc

  -- so both are, of a check that takes limits below 0
  module _ (p : Place) (k : TwoLimitCheck) (r d : Event) (l l2 : Limit) (n f g : Option Named) (is : c ≡ two_limit_check p k r d l l2 n f g) where
    pub names : IsNamed vs f × IsNamed vs g
    names = both-named vs f g (subst (λ x. AreNamed vs (delayed_names x)) is asked.named)

    asked-for : AreAsked vs c (copy_of vs r f, copy_of vs d g)
    asked-for = both-asked vs c (copy_of vs r f, copy_of vs d g) terminals.refer_sound terminals.datum_sound asked.named (ap (check_copies vs) is)

    refer-own : bit_copy vs refer.bit f ≡ copy_of vs r f
    refer-own = refer-copy f ∙ ap (λ x. copy_of vs (reference_of x) f) is

    datum-own : (e : ModuleEvent) → datum ≡ Some e → bit_copy vs e.bit g ≡ copy_of vs d g
    datum-own e at = datum-copy d e g (ap data_of is) at

    pub refer-found : None ≡ place_among m (bit_copy vs refer.bit f) → ⊥
    refer-found h = none-missing (copy_of vs r f) asked-for.refer (h ∙ ap (place_among m) refer-own)

    pub datum-found : (e : ModuleEvent) → datum ≡ Some e → None ≡ place_among m (bit_copy vs e.bit g) → ⊥
    datum-found e at h = none-missing (copy_of vs d g) asked-for.datum (h ∙ ap (place_among m) (datum-own e at))

    pub both-are : (e : ModuleEvent) (a b : ℕ) → datum ≡ Some e → Some a ≡ place_among m (bit_copy vs refer.bit f) → Some b ≡ place_among m (bit_copy vs e.bit g)
        → Some (both_at (copies_seen vs cs) (a ∷ b ∷ [])) ≡ check_copies vs c
    both-are e a b at h j =
        ap (λ x. Some x) (both-seen m vs cs asked.ready (bit_copy vs refer.bit f) (bit_copy vs e.bit g) a b h j)
        ∙ ap (λ x. Some (x, bit_copy vs e.bit g)) refer-own
        ∙ ap (λ x. Some (copy_of vs r f, x)) (datum-own e at)
        ∙ ap (check_copies vs) (sym is)

-- a copy that is looked for by its bits
pub bits-found : (m : Module) (vs : List Variable) (cs : ModuleCopies) → IsReady m vs cs → (signal : ℕ) (bit : Option ℕ) (n : Option NetBit) (o : Option ℕ) → option_map (bit_seen vs) bit ≡ n
    → signal < length (all_bits vs) → IsPlaceIn vs bit
    → ((k : Module) → AreCopies k cs → IsCopyInRow (variables k) (record { signal = signal; named = bit })
    → o ≡ position_from (λ d. is_same_copy (copy_seen (variables k) (record { signal = signal; named = bit })) d.1) 0 (module_copies k))
    → o ≡ place_among m (record { signal = bit_seen vs signal; named = n })
bits-found m vs cs ready signal bit n o e within row found =
    let own = subst (λ ws. IsCopyInRow ws (record { signal = signal; named = bit })) ready.variables_are (within, row) in
    found m ready.copies_are own ∙ ap (λ ws. place_among m (copy_seen ws (record { signal = signal; named = bit }))) (sym ready.variables_are)
    ∙ ap (λ x. place_among m (record { signal = bit_seen vs signal; named = x })) e
