-- The nets that are driven inside in place of the bits to which a specify path is the first to lead.
use Rattle.std.specs.Prelude.{◌≡◌, ◌⊎◌, ℕ, ◌+◌, ◌-◌, ◌<◌, ◌≤◌, All, List, [], ◌∷◌, ◌++◌, Some, None, flat_map, length, map, slice_get, slice_index_or, take, drop, refl}
use Rattle.std.specs.List.{AllByRecursion, enumerate_from}
use Rattle.std.proofs.Common.{sym, ◌∙◌, ap, arith, inl, inr, subst, append_assoc, append-nil, length-append, take-append-drop}
use Rattle.std.proofs.lemmas.Grind.{flat_map-append}
use Rattle.std.proofs.lemmas.List.{drop-append-le, drop-map, drop_all, length-map, take-append-le, take-map, take_all}
use Rattle.std.proofs.lemmas.List.Elements.{recursion_from_All}
use Rattle.std.proofs.lemmas.Option.{slice_get_read, slice_get_within}
use Rattle.vl_tree.specs.Tree.{Module, Source, SpecifyPath}
use Rattle.elab_model.specs.Ends.{first_ends, path_ends}
use Rattle.elab_model.specs.Hierarchy.{Instance}
use Rattle.elab_model.specs.Members.{Member, path, members}
use Rattle.elab_model.specs.Names.{Variable, variables}
use Rattle.elab_model.specs.Nets.{inner_net, member_nets}
use Rattle.elab_model.specs.Numbered.{undriven}
use Rattle.elab_model.specs.Terms.{NetBit}
use Rattle.elab_laws.specs.Handing.{all_bits}
use Rattle.elab_bits.specs.Seen.{bit_at}
use Rattle.elab_ends.specs.Ends.{AreEnds, ends_before}
use Rattle.elab_ends.specs.Seen.{bit_seen, bits_seen}
use Rattle.elab_ends.specs.declared.ends.PathEnds.{PathEnds}
use Rattle.elab_modules.specs.declared.prepared.Prepared.{Prepared}
use Rattle.elab_nets.specs.Members.{HasMember}
use Rattle.elab_nets.specs.Own.{net_at}
use Rattle.elab_nets.proofs.ConstantNets.{same-name}
use Rattle.elab_nets.proofs.NumberedLists.{taken}

-- a number that the code has read
pub read-at : (xs ys : List ℕ) (k x : ℕ) → ys ≡ xs → k < length ys → x ≡ slice_index_or ys k x → slice_get xs k ≡ Some x
read-at xs ys k x e lt is = ap (λ zs. slice_get zs k) (sym e) ∙ slice_get_read ys (length ys) k x refl lt is

not-past : (first end count : ℕ) → (first ≤ end) × (end ≤ count) → (end < first) ⊎ (count < end) → ⊥
not-past first end count h (inl lt) = let le = h.0 in omega arith
not-past first end count h (inr lt) = let le = h.1 in omega arith

-- ---- where they stand among all

-- those of the members up to a number
abbrev ends_up_to : Module → ℕ → List NetBit
ends_up_to m k = flat_map (first_ends m) (take k (enumerate_from 0 (members m)))

ends-next : (m : Module) (k : ℕ) (i : Member) → slice_get (members m) k ≡ Some i → ends_up_to m (k + 1) ≡ ends_up_to m k ++ first_ends m (k, i)
ends-next m k i e =
    let ms = enumerate_from 0 (members m) in
    ap (flat_map (first_ends m)) (taken (members m) k i e) ∙ flat_map-append (first_ends m) (take k ms) ((k, i) ∷ []) ∙ ap (λ bs. ends_up_to m k ++ bs) (append-nil (first_ends m (k, i)))

ends-split : (m : Module) (k : ℕ) → path_ends m ≡ ends_up_to m k ++ flat_map (first_ends m) (drop k (enumerate_from 0 (members m)))
ends-split m k =
    let ms = enumerate_from 0 (members m) in
    ap (flat_map (first_ends m)) (sym (take-append-drop k ms)) ∙ flat_map-append (first_ends m) (take k ms) (drop k ms)

cut-out : {A : Type 0} (xs ys zs whole : List A) (first end : ℕ) → whole ≡ (xs ++ ys) ++ zs → first ≡ length xs → end ≡ length (xs ++ ys) → take (end - first) (drop first whole) ≡ ys
cut-out xs ys zs whole first end w f e =
    let l = length-append xs ys in
    let n : end - first ≡ length ys = omega arith in
    ap (λ ws. take (end - first) (drop first ws)) (w ∙ append_assoc xs ys zs) ∙ ap (take (end - first))
    (drop-append-le first xs (ys ++ zs) (omega arith) ∙ ap (λ ws. ws ++ (ys ++ zs)) (drop_all first xs (omega arith)))
    ∙ take-append-le (end - first) ys zs (omega arith) ∙ take_all (end - first) ys (omega arith)

module _ (m : Module) (e : PathEnds) (k : ℕ) (i : Member) (ends : AreEnds m e) (there : slice_get (members m) k ≡ Some i) where
  below : k < length (members m)
  below = slice_get_within (members m) k i there

  first-there : slice_get e.starts.items k ≡ Some (ends_before m k)
  first-there = let l = below in ends.starts k (omega arith)

  end-there : slice_get e.starts.items (k + 1) ≡ Some (ends_before m (k + 1))
  end-there = let l = below in ends.starts (k + 1) (omega arith)

  pub no-first : slice_get e.starts.items k ≡ None → ⊥
  no-first n = let f : Some (ends_before m k) ≡ None = sym first-there ∙ n in cc

  pub no-end : slice_get e.starts.items (k + 1) ≡ None → ⊥
  no-end n = let f : Some (ends_before m (k + 1)) ≡ None = sym end-there ∙ n in cc

  pub first-is : (first : ℕ) → slice_get e.starts.items k ≡ Some first → first ≡ length (ends_up_to m k)
  first-is first f = let g : Some first ≡ Some (ends_before m k) = sym f ∙ first-there in cc

  pub end-is : (end : ℕ) → slice_get e.starts.items (k + 1) ≡ Some end → end ≡ length (ends_up_to m k ++ first_ends m (k, i))
  end-is end f = let g : Some end ≡ Some (ends_before m (k + 1)) = sym f ∙ end-there in let h : end ≡ ends_before m (k + 1) = cc in h ∙ ap length (ends-next m k i there)

  whole : path_ends m ≡ (ends_up_to m k ++ first_ends m (k, i)) ++ flat_map (first_ends m) (drop (k + 1) (enumerate_from 0 (members m)))
  whole = ends-split m (k + 1) ∙ ap (λ bs. bs ++ flat_map (first_ends m) (drop (k + 1) (enumerate_from 0 (members m)))) (ends-next m k i there)

  in-bits : (first end : ℕ) → slice_get e.starts.items k ≡ Some first → slice_get e.starts.items (k + 1) ≡ Some end → (first ≤ end) × (end ≤ length e.bits.items)
  in-bits first end f g =
      let a = first-is first f in
      let b = end-is end g in
      let l = length-append (ends_up_to m k) (first_ends m (k, i)) in
      let n : length e.bits.items ≡ length ((ends_up_to m k ++ first_ends m (k, i)) ++ flat_map (first_ends m) (drop (k + 1) (enumerate_from 0 (members m)))) =
      sym (length-map e.bits.items (bit_seen (variables m))) ∙ ap length (ends.bits ∙ whole) in
      let o = length-append (ends_up_to m k ++ first_ends m (k, i)) (flat_map (first_ends m) (drop (k + 1) (enumerate_from 0 (members m)))) in
      (omega arith, omega arith)

  pub is-within : (first end count : ℕ) → slice_get e.starts.items k ≡ Some first → slice_get e.starts.items (k + 1) ≡ Some end → count ≡ length e.bits.items → (end < first) ⊎ (count < end) → ⊥
  is-within first end count f g n h = not-past first end (length e.bits.items) (in-bits first end f g) (subst (λ c. (end < first) ⊎ (c < end)) n h)

  pub are-first : (first end : ℕ) (places : List ℕ) → slice_get e.starts.items k ≡ Some first → slice_get e.starts.items (k + 1) ≡ Some end → places ≡ take (end - first) (drop first e.bits.items)
      → bits_seen (variables m) places ≡ first_ends m (k, i)
  are-first first end places f g p =
      let seen = bit_seen (variables m) in
      ap (map seen) p ∙ sym (take-map seen (end - first) (drop first e.bits.items)) ∙ ap (take (end - first)) (sym (drop-map seen first e.bits.items))
      ∙ ap (λ bs. take (end - first) (drop first bs)) ends.bits
      ∙ cut-out (ends_up_to m k) (first_ends m (k, i)) (flat_map (first_ends m) (drop (k + 1) (enumerate_from 0 (members m)))) (path_ends m) first end whole (first-is first f) (end-is end g)

-- ---- a net for each

inner-nets : (vs : List Variable) (s : Instance) (scope : ℕ) (places : List ℕ) → vs ≡ variables s.step.definition → s.step.number ≡ scope → AllByRecursion (λ i. i < length (all_bits vs)) places
    → map (λ i. net_at scope (bit_at vs i)) places ≡ map undriven (map (inner_net s) (bits_seen vs places))
inner-nets vs s scope [] e n h = refl
inner-nets vs s scope (i ∷ places) e n h =
    ap (λ o. o ∷ map (λ i. net_at scope (bit_at vs i)) places) (sym (same-name vs s scope i e n h.0)) ∙ ap (λ os. undriven (inner_net s (bit_seen vs i)) ∷ os) (inner-nets vs s scope places e n h.1)

module _ (s : Instance) (prepared : Prepared) (scope k : ℕ) (p : SpecifyPath) (has : HasMember s prepared scope k (path p)) (places : List ℕ)
    (seen : bits_seen (variables s.step.definition) places ≡ first_ends s.step.definition (k, path p)) where
  pub end-count : length places ≡ length (first_ends s.step.definition (k, path p))
  end-count = sym (length-map places (bit_seen (variables s.step.definition))) ∙ ap length seen

  pub nets-are : (source : Source) → All (λ i. i < length (all_bits prepared.table)) places → map (λ i. net_at scope (bit_at prepared.table i)) places ≡ map undriven (member_nets source s (k, path p))
  nets-are source row =
      inner-nets prepared.table s scope places has.ready.table has.number (recursion_from_All (λ i. i < length (all_bits prepared.table)) places row)
      ∙ ap (λ vs. map undriven (map (inner_net s) (bits_seen vs places))) has.ready.table ∙ ap (λ bs. map undriven (map (inner_net s) bs)) seen

  pub net-count : (source : Source) → length places ≡ length (member_nets source s (k, path p))
  net-count source = end-count ∙ sym (length-map (first_ends s.step.definition (k, path p)) (inner_net s))
