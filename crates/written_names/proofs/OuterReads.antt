-- What reads no inner net, and kinds of element that nothing is written of.
use Rattle.std.specs.Prelude.{◌≡◌, ℕ, ◌||◌, List, [], ◌∷◌, false, Option, Some, None, refl}
use Rattle.std.specs.List.{AllByRecursion, list_any}
use Rattle.std.proofs.Common.{◌∙◌, ap}
use Rattle.sg_circuit.specs.Circuit.{Kind, Gate, Udp, Pass, Leg, Path as a_path, Late}
use Rattle.vl_tree.specs.Tree.{Source}
use Rattle.elab_model.specs.Bits.{Bit, constant, net}
use Rattle.elab_model.specs.Elements.{input_spot, leg_source}
use Rattle.elab_model.specs.Hierarchy.{Instance, Step}
use Rattle.elab_model.specs.Homes.{Spot, home_of, inner, is_same_spot}
use Rattle.elab_closed.proofs.Fits.{home-outer}
use Rattle.annotation_model.specs.Spots.{Spot as Written, spots_in}

-- ---- what reads no inner net

abbrev pub ReadsNoInner : List Spot → Type 0
ReadsNoInner spots = (t : ℕ) (m : List ℕ) (q : ℕ) → list_any (is_same_spot (inner t m q)) spots ≡ false

abbrev pub IsOuter : Spot → Type 0
IsOuter spot = (t : ℕ) (m : List ℕ) (q : ℕ) → is_same_spot (inner t m q) spot ≡ false

pub all-outer : (spots : List Spot) → AllByRecursion IsOuter spots → ReadsNoInner spots
all-outer [] h t m q = refl
all-outer (x ∷ xs) h t m q = ap (λ b. b || list_any (is_same_spot (inner t m q)) xs) (h.0 t m q) ∙ all-outer xs h.1 t m q

pub outer-home : (source : Source) (s : Instance) (n : List ℕ) (p : ℕ) → IsOuter (home_of source s n p)
outer-home source s n p t m q = home-outer source s.step s.above n p t m q

pub outer-leg : (source : Source) (s : Step) (over : List Step) (n : List ℕ) (p : ℕ) (b : Option Bit) → IsOuter (leg_source source s over n p b)
outer-leg source s [] n p b t m q = refl
outer-leg source s (parent ∷ above) n p None t m q = refl
outer-leg source s (parent ∷ above) n p (Some (constant at v)) t m q = refl
outer-leg source s (parent ∷ above) n p (Some (net k i)) t m q = home-outer source parent above k i t m q

pub outer-input : (source : Source) (s : Instance) (k : ℕ) (x : ℕ × Bit) → IsOuter (input_spot source s k x)
outer-input source s k (i, net n p) t m q = outer-home source s n p t m q
outer-input source s k (i, constant at v) t m q = refl

-- ---- kinds with no spots

abbrev pub IsPlain : Kind → Type 0
IsPlain (Gate kind delays) = Unit {0}
IsPlain (Udp primitive first delays) = Unit {0}
IsPlain (Pass value) = Unit {0}
IsPlain (Leg timings) = ⊥
IsPlain (a_path paths style) = ⊥
IsPlain (Late delay) = Unit {0}

pub plain-none : (P : Written → Type 0) (s : ℕ) (inputs : List ℕ) (output : ℕ) (k : Kind) → IsPlain k → AllByRecursion P (spots_in s inputs output k)
plain-none P s inputs output (Gate kind delays) h = tt
plain-none P s inputs output (Udp primitive first delays) h = tt
plain-none P s inputs output (Pass value) h = tt
plain-none P s inputs output (Leg timings) h = absurd h
plain-none P s inputs output (a_path paths style) h = absurd h
plain-none P s inputs output (Late delay) h = tt
