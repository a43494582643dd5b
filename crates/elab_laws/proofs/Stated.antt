-- The laws as they are stated.
use Rattle.std.specs.Prelude.{◌≡◌, ℕ, zero, suc, ◌+◌, List, [], ◌∷◌, false, Some, find, length, refl, cond, bytes_eq}
use Rattle.std.specs.List.{range_with_len}
use Rattle.std.proofs.Common.{sym, ◌∙◌, ap, inl, inr}
use Rattle.std.proofs.lemmas.Slice.Eq.{bytes_eq-Decides}
use Rattle.std.proofs.lemmas.List.{length-map}
use Rattle.elab_model.specs.Names.{Variable, variables}
use Rattle.elab_model.specs.Hierarchy.{instances, size, levels_below_top}
use Rattle.elab_laws.specs.Laws.{InstancesHavePlaces, BitsHaveNets, NetsHavePlaces, NumbersAreHandedDown}
use Rattle.elab_laws.proofs.Lists.{In, all-in, Pairwise}
use Rattle.elab_laws.proofs.Numbers.{number, numbers-are-places}
use Rattle.elab_laws.proofs.Homes.{home-there, number-below}
use Rattle.elab_laws.proofs.Apart.{bytes-either, variables-apart}
use Rattle.elab_laws.proofs.Handed.{handed-down}
use Rattle.elab_laws.proofs.Drivers.{numbers-count}
use Rattle.elab_laws.proofs.NoFaults.{nets-apart_each}

length-range : (a n : ℕ) → length (range_with_len a n) ≡ n
length-range a zero = refl
length-range a (suc n) = ap suc (length-range (a + 1) n)

pub instances-have_places : InstancesHavePlaces
instances-have_places source top =
    let e = numbers-are-places source top in
    let l : size source levels_below_top top ≡ length (instances source top) = sym (length-range 0 (size source levels_below_top top)) ∙ ap length (sym e) ∙ length-map (instances source top) number in
    e ∙ ap (range_with_len 0) l

-- where names differ, each is found by its own
pub found-own : (vs : List Variable) → Pairwise (λ v w. bytes_eq v.name w.name ≡ false) vs → (x : Variable) → In x vs → find (λ v. bytes_eq x.name v.name) vs ≡ Some x
found-own [] h x k = absurd k
found-own (v ∷ vs) h x (inl e) = ap (λ b. cond b (Some v) (find (λ w. bytes_eq x.name w.name) vs)) ((bytes_eq-Decides x.name v.name).1 (ap (λ w. w.name) e)) ∙ ap (λ w. Some w) (sym e)
found-own (v ∷ vs) h x (inr k) =
    ap (λ b. cond b (Some v) (find (λ w. bytes_eq x.name w.name) vs)) (bytes-either x.name v.name ∙ all-in (λ w. bytes_eq v.name w.name ≡ false) x vs h.0 k) ∙ found-own vs h.1 x k

pub bits-have_nets : BitsHaveNets
bits-have_nets source top s v p i k lt =
    let o = home-there source top s v.name p i (record { variable = v; found = found-own (variables s.step.definition) (variables-apart s.step.definition) v k; below = lt }) in
    (o, number-below _ _ o)

pub nets-have_places : NetsHavePlaces
nets-have_places source top corner h = numbers-count _ (nets-apart_each source top corner h)

pub numbers-are_handed_down : NumbersAreHandedDown
numbers-are_handed_down source top corner before after s h e = handed-down source top before after s (nets-apart_each source top corner h) e
