-- The net of each bit lies among the nets.
use Rattle.std.specs.Prelude.{◌≡◌, ℕ, ◌+◌, ◌<◌, List, [], ◌∷◌, Bool, true, false, flat_map, length, refl, if◌then◌else◌, bytes_eq}
use Rattle.std.specs.List.{position_from}
use Rattle.std.specs.Option.{unwrap_or}
use Rattle.std.proofs.Common.{sym, ◌∙◌, ap, arith, inl, inr, subst}
use Rattle.std.proofs.lemmas.Bool.{eq-eqb}
use Rattle.std.proofs.lemmas.Slice.Eq.{bytes_eq-Decides}
pub use Rattle.elab_laws.specs.Words.{Owns}
use Rattle.elab_laws.proofs.Lists.{In, in-left, in-flat, in-range, found-is}
use Rattle.elab_laws.proofs.Places.{HasBit}
use Rattle.elab_laws.proofs.Chains.{home-stops, at_step, chain-there}
use Rattle.elab_model.specs.Bits.{index_at, positions}
use Rattle.elab_model.specs.Hierarchy.{Instance, instances}
use Rattle.elab_model.specs.Homes.{Spot, bit, outside, terminal, inner, late, is_same_spot, home_of}
use Rattle.elab_model.specs.Names.{Variable, variables}
use Rattle.elab_model.specs.Nets.{OwnNet, bit_net, variable_nets, nets_of, number_of, nets}
use Rattle.sg_circuit.specs.Closed.{width_of}
use Rattle.vl_tree.specs.Tree.{Module, Source}

-- a net is the same as itself
pub spot-same : (a : Spot) → is_same_spot a a ≡ true
spot-same (bit s n p) = rw (eq-eqb s s refl, (bytes_eq-Decides n n).1 refl, eq-eqb p p refl) refl
spot-same (outside s k n p) = rw (eq-eqb s s refl, eq-eqb k k refl, (bytes_eq-Decides n n).1 refl, eq-eqb p p refl) refl
spot-same (terminal s k i) = rw (eq-eqb s s refl, eq-eqb k k refl, eq-eqb i i refl) refl
spot-same (inner s n p) = rw (eq-eqb s s refl, (bytes_eq-Decides n n).1 refl, eq-eqb p p refl) refl
spot-same (late s n p) = rw (eq-eqb s s refl, (bytes_eq-Decides n n).1 refl, eq-eqb p p refl) refl

owned-there : (source : Source) (s : Instance) (v : Variable) (p : ℕ) → home_of source s v.name p ≡ bit s.step.number v.name p → Owns (bit s.step.number v.name p) (bit_net source s v p)
owned-there source s v p e =
    let t : is_same_spot (home_of source s v.name p) (bit s.step.number v.name p) ≡ true = ap (λ a. is_same_spot a (bit s.step.number v.name p)) e ∙ spot-same (bit s.step.number v.name p) in
    subst (λ b. Owns (bit s.step.number v.name p) (if b then record { spot = bit s.step.number v.name p; scope = s.step.number; name = v.name; bit = index_at v.range p } ∷ [] else [])) (sym t)
    (record { owned = record { spot = bit s.step.number v.name p; scope = s.step.number; name = v.name; bit = index_at v.range p }; there = inl refl; same = refl })

-- a net of an instance's own is among those of its variables
pub own-there : (source : Source) (s : Instance) (n : List ℕ) (p : ℕ) → HasBit (variables s.step.definition) n p → home_of source s n p ≡ bit s.step.number n p
    → Owns (bit s.step.number n p) (variable_nets source s)
own-there source s n p h e =
    let v = h.variable in
    let f = found-is (λ v. bytes_eq n v.name) (variables s.step.definition) v h.found in
    let same : v.name ≡ n = sym ((bytes_eq-Decides n v.name).0 f.passes) in
    let o = owned-there source s v p (subst (λ m. home_of source s m p ≡ bit s.step.number m p) (sym same) e) in
    record {
      owned = o.owned;
      there = in-flat (λ v. flat_map (bit_net source s v) (positions v.range)) v o.owned (variables s.step.definition) f.there
          (in-flat (bit_net source s v) p o.owned (positions v.range) (in-range p 0 (width_of v.range) (omega arith) (let b : p < width_of v.range = h.below in omega arith)) o.there);
      same = o.same ∙ ap (λ m. bit s.step.number m p) same;
    }

-- each home lies among the nets
pub home-there : (source : Source) (top : Module) (s : Instance) (n : List ℕ) (p : ℕ) → In s (instances source top) → HasBit (variables s.step.definition) n p
    → Owns (home_of source s n p) (nets source top)
home-there source top s n p among h =
    let r = home-stops source s.step s.above n p h in
    let i = chain-there source top s r.at r.rest among r.upper in
    let o = own-there source (at_step r.at r.rest) r.name r.position r.has r.own in
    record {
      owned = o.owned;
      there = in-flat (nets_of source) (at_step r.at r.rest) o.owned (instances source top) i (in-left o.owned (variable_nets source (at_step r.at r.rest)) _ o.there);
      same = o.same ∙ sym r.found;
    }

-- what is owned has a number below how many there are
pub number-below : (spot : Spot) (os : List OwnNet) → Owns spot os → number_of os spot < length os
number-below spot os o =
    let e : 0 + length os ≡ length os = omega arith in
    let lt = found-below spot 0 os o.owned o.there (ap (λ a. is_same_spot spot a) o.same ∙ spot-same spot) in
    subst (λ k. number_of os spot < k) e lt
  where
    found-below : (spot : Spot) (i : ℕ) (os : List OwnNet) (x : OwnNet) → In x os → is_same_spot spot x.spot ≡ true → unwrap_or (position_from (λ o. is_same_spot spot o.spot) i os) 0 < i + length os
    found-below spot i [] x h e = absurd h
    found-below spot i (y ∷ ys) x h e = by (is_same_spot spot y.spot) refl (λ k. found-below spot (i + 1) ys x k e)
      where
        by : (b : Bool) → is_same_spot spot y.spot ≡ b → (In x ys → unwrap_or (position_from (λ o. is_same_spot spot o.spot) (i + 1) ys) 0 < (i + 1) + length ys)
            → unwrap_or (position_from (λ o. is_same_spot spot o.spot) i (y ∷ ys)) 0 < i + length (y ∷ ys)
        by true t k = rw t (omega arith)
        by false t k =
            let there : In x ys = elim h [ inl g ↦ (let c : is_same_spot spot x.spot ≡ false = rw g t in cc) | inr g ↦ g ] in
            let lt = k there in
            rw t (omega arith)
