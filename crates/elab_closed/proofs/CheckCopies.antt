-- The delayed copies that a timing check without fault sees are among those of its module.
use Rattle.std.specs.Prelude.{◌≡◌, ℕ, zero, suc, List, [], ◌∷◌, ◌++◌, Option, Some, None, IfSome, filter_map, flat_map, length, map, refl, ℤ}
use Rattle.std.specs.List.{AllByRecursion, range_with_len}
use Rattle.std.specs.Option.{option_map}
use Rattle.std.proofs.Common.{sym, ◌∙◌, ap, arith, inl, inr, subst}
use Rattle.std.proofs.lemmas.List.{map-append}
use Rattle.sg_circuit.specs.Closed.{width_of}
use Rattle.sg_delay.specs.declared.corners.Corner.{Corner}
use Rattle.sg_text.specs.declared.places.Place.{Place}
use Rattle.vl_tree.specs.Tree.{Named, Expression, signal, Event, Check, one_limit_check, two_limit_check, width_check, period_check, Module, Source}
use Rattle.elab_model.specs.Bits.{net, bits, positions, variable_named, whole_bits}
use Rattle.elab_model.specs.Lates.{DelayedCopy, one_bit, signal_bits, name_bits, copies_of, copies}
use Rattle.elab_model.specs.Members.{Member, check, members, listed, delayed_names, member_values}
use Rattle.elab_model.specs.ModuleFaults.{all_member_faults, module_faults}
use Rattle.elab_model.specs.Names.{Variable, variables}
use Rattle.elab_model.specs.Terms.{NetBit, net_bit, term_bits}
use Rattle.elab_model.specs.TerminalFaults.{expression_faults, width_faults}
use Rattle.specify_model.specs.Blocks.{specify_items}
use Rattle.specify_model.specs.CheckFaults.{event_faults, event_condition_faults, some_event_faults}
use Rattle.specify_model.specs.Checks.{check_texts, event_of, reference_of, data_of, name_bit, copy_of as asked_copy, check_copies}
use Rattle.specify_model.specs.Conditions.{first_bit}
use Rattle.specify_model.specs.Faults.{operand_faults}
use Rattle.elab_laws.specs.Words.{In}
use Rattle.elab_laws.proofs.Connected.{members-sound}
use Rattle.elab_laws.proofs.Copies.{copy_of, all_copies}
use Rattle.elab_laws.proofs.ElementWidths.{width-is}
use Rattle.elab_laws.proofs.Lists.{all-in, in-left, in-right}
use Rattle.elab_laws.proofs.NoFaults.{back, flat-empty, front}
use Rattle.elab_closed.proofs.CheckMembers.{check-member}
use Rattle.elab_closed.proofs.KnownBits.{operand-is_one}

-- ---- the name of a copy is one bit

-- of so many positions there is one
one-position : (n : List ℕ) (w : ℕ) → length (map (net n) (range_with_len 0 w) ++ []) ≡ 1 → map (net n) (range_with_len 0 w) ++ [] ≡ net n 0 ∷ []
one-position n zero e = cc
one-position n (suc zero) e = refl
one-position n (suc (suc w)) e = absurd (omega (arith, e))

abbrev name_of : Named → Expression
name_of n = signal n None

pub record IsName (vs : List Variable) (n : Named) : Type 0 where
  pub known : expression_faults vs (name_of n) ≡ []
  pub width : width_faults vs 1 (name_of n) ≡ []

name-is_one : (vs : List Variable) (n : Named) → IsName vs n → name_bits vs n ≡ name_bit n ∷ []
name-is_one vs n h = ap (λ bs. one_bit (filter_map net_bit bs)) (by (variable_named vs n.text) refl (width-is vs 1 (name_of n) h.known h.width))
  where
    by : (o : Option Variable) → variable_named vs n.text ≡ o → length (bits vs (name_of n)) ≡ 1 → bits vs (name_of n) ≡ net n.text 0 ∷ []
    by None e w = let g : length (bits vs (name_of n)) ≡ 0 = ap (λ o. length (whole_bits n.text o ++ [])) e in absurd (omega (arith, g, w))
    by (Some v) e w =
        let is : bits vs (name_of n) ≡ map (net n.text) (positions v.range) ++ [] = ap (λ o. whole_bits n.text o ++ []) e in
        is ∙ one-position n.text (width_of v.range) (ap length (sym is) ∙ w)

-- ---- the copy of a terminal

event-asked : (vs : List Variable) (p : Place) (e : Event) (n : Option Named) → operand_faults vs e.term ≡ [] → IfSome n (IsName vs) → In (asked_copy vs e n) (map copy_of (copies_of vs p e n))
event-asked vs p e None h k =
    let is : signal_bits vs e ≡ first_bit (term_bits vs e.term) ∷ [] = ap one_bit (operand-is_one vs e.term h) in
    subst (λ bs. In (asked_copy vs e None) (map copy_of (map (λ b. (p, record { signal = b; named = None })) bs))) (sym is) (inl refl)
event-asked vs p e (Some n) h k =
    let signals : signal_bits vs e ≡ first_bit (term_bits vs e.term) ∷ [] = ap one_bit (operand-is_one vs e.term h) in
    subst (λ bs. In (asked_copy vs e (Some n)) (map copy_of (flat_map (λ b. map (λ d. (n.place, record { signal = b; named = Some d })) (name_bits vs n)) bs))) (sym signals)
    (subst (λ ds. In (asked_copy vs e (Some n)) (map copy_of (map (λ d. (n.place, record { signal = first_bit (term_bits vs e.term); named = Some d })) ds ++ []))) (sym (name-is_one vs n k)) (inl refl))

-- ---- those of a check

-- its terminals are one bit each, and so are the names of its copies
pub record HasTerminals (vs : List Variable) (c : Check) : Type 0 where
  pub refer : event_faults vs (reference_of c) ≡ []
  pub datum : some_event_faults vs (data_of c) ≡ []
  pub named : AllByRecursion (IsName vs) (delayed_names c)

term-sound : (vs : List Variable) (e : Event) → event_faults vs e ≡ [] → operand_faults vs e.term ≡ []
term-sound vs e h = front (operand_faults vs e.term) (event_condition_faults vs e) h

listed-first : (P : Named → Type 0) (o : Option Named) (ns : List Named) → AllByRecursion P (listed o ++ ns) → IfSome o P × AllByRecursion P ns
listed-first P None ns h = (tt, h)
listed-first P (Some n) ns h = (h.0, h.1)

listed-last : (P : Named → Type 0) (o : Option Named) → AllByRecursion P (listed o) → IfSome o P
listed-last P None h = tt
listed-last P (Some n) h = h.0

pub copies-asked : (vs : List Variable) (c : Check) → HasTerminals vs c → IfSome (check_copies vs c) (λ ds. In ds.0 (map copy_of (copies vs (check c))) × In ds.1 (map copy_of (copies vs (check c))))
copies-asked vs (one_limit_check p k r d l n) h = tt
copies-asked vs (two_limit_check p k r d l m n f g) h =
    let names = listed-first (IsName vs) f (listed g) h.named in
    let rs = copies_of vs p r f in
    let ds = copies_of vs p d g in
    let split = sym (map-append copy_of rs ds) in (
      subst (In (asked_copy vs r f)) split (in-left (asked_copy vs r f) (map copy_of rs) (map copy_of ds) (event-asked vs p r f (term-sound vs r h.refer) names.0)),
      subst (In (asked_copy vs d g)) split (in-right (asked_copy vs d g) (map copy_of rs) (map copy_of ds) (event-asked vs p d g (term-sound vs d h.datum) (listed-last (IsName vs) g names.1))),
    )
copies-asked vs (width_check p r l t n) h = tt
copies-asked vs (period_check p r l n) h = tt

-- what holds of each copy of a member and of what it copies holds of those of a check and of its terminals
pub copies-of_terminals : (L : NetBit → DelayedCopy → Type 0) (vs : List Variable) (c : Check) → HasTerminals vs c → ((d : DelayedCopy) → In d (map copy_of (copies vs (check c))) → L d.signal d)
    → IfSome (check_copies vs c) (λ ds. L (event_of vs (reference_of c)).bit ds.0 × IfSome (option_map (event_of vs) (data_of c)) (λ e. L e.bit ds.1))
copies-of_terminals L vs (one_limit_check p k r d l n) h f = tt
copies-of_terminals L vs (two_limit_check p k r d l m n x y) h f = let a = copies-asked vs (two_limit_check p k r d l m n x y) h in (f (asked_copy vs r x) a.0, f (asked_copy vs d y) a.1)
copies-of_terminals L vs (width_check p r l t n) h f = tt
copies-of_terminals L vs (period_check p r l n) h f = tt

-- ---- those of a module

mapped : {A : Type 0} (P : A → Type 0) (f : Named → A) (ns : List Named) → AllByRecursion P (map f ns) → AllByRecursion (λ n. P (f n)) ns
mapped P f [] h = tt
mapped P f (n ∷ ns) h = (h.0, mapped P f ns h.1)

both : (vs : List Variable) (ns : List Named) → AllByRecursion (λ n. expression_faults vs (name_of n) ≡ []) ns → AllByRecursion (λ n. width_faults vs 1 (name_of n) ≡ []) ns → AllByRecursion (IsName vs) ns
both vs [] h k = tt
both vs (n ∷ ns) h k = (record { known = h.0; width = k.0 }, both vs ns h.1 k.1)

-- where a module has no fault, the names of copies are one bit each
pub names-sound : (source : Source) (corner : Corner) (tick : ℤ) (m : Module) (c : Check) → module_faults source corner tick m ≡ [] → In c (check_texts (specify_items m))
    → AllByRecursion (IsName (variables m)) (delayed_names c)
names-sound source corner tick m c h there =
    let vs = variables m in
    let es = member_values (check c) in
    let own : all_member_faults source corner tick m (check c) ≡ [] =
    all-in (λ x. all_member_faults source corner tick m x ≡ []) (check c) (members m) (members-sound source corner tick m h) (check-member m c there) in
    let names = flat_map (expression_faults vs) es in
    let widths = flat_map (width_faults vs 1) es in
    both vs (delayed_names c)
    (mapped (λ e. expression_faults vs e ≡ []) name_of (delayed_names c) (flat-empty (expression_faults vs) es (front names widths own)))
    (mapped (λ e. width_faults vs 1 e ≡ []) name_of (delayed_names c) (flat-empty (width_faults vs 1) es (back names widths own)))

-- a member's copies are among those of its module
pub asked-there : (m : Module) (c : Check) (d : DelayedCopy) → In c (check_texts (specify_items m)) → In d (map copy_of (copies (variables m) (check c))) → In d (map copy_of (all_copies m))
asked-there m c d there h = in-mapped (copies (variables m)) d (check c) (members m) (check-member m c there) h
  where
    in-mapped : (f : Member → List (Place × DelayedCopy)) (d : DelayedCopy) (x : Member) (xs : List Member) → In x xs → In d (map copy_of (f x)) → In d (map copy_of (flat_map f xs))
    in-mapped f d x [] i k = absurd i
    in-mapped f d x (y ∷ xs) (inl e) k =
        subst (In d) (sym (map-append copy_of (f y) (flat_map f xs))) (in-left d (map copy_of (f y)) (map copy_of (flat_map f xs)) (subst (λ z. In d (map copy_of (f z))) e k))
    in-mapped f d x (y ∷ xs) (inr i) k =
        subst (In d) (sym (map-append copy_of (f y) (flat_map f xs))) (in-right d (map copy_of (f y)) (map copy_of (flat_map f xs)) (in-mapped f d x xs i k))
