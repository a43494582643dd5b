-- The nets are distinct: the tests of spots, and the nets of variables.
use Rattle.std.specs.Prelude.{◌≡◌, ℕ, ◌==◌, List, [], ◌∷◌, Bool, true, false, ◌&&◌, filter, flat_map, map, refl, if◌then◌else◌, bytes_eq}
use Rattle.std.specs.List.{AllByRecursion}
use Rattle.std.specs.Bool.{one_answer}
use Rattle.std.proofs.Common.{sym, ◌∙◌, ap, subst}
use Rattle.std.proofs.lemmas.Bool.{eq-eqb, eqb-true}
use Rattle.std.proofs.lemmas.Slice.Eq.{bytes_eq-Decides}
use Rattle.elab_laws.proofs.Ends.{AreOtherBits}
use Rattle.elab_laws.proofs.Firsts.{firsts, firsts-apart}
use Rattle.elab_laws.proofs.Lists.{In, all-in, all-flat, all-weaker, all-anyway, Pairwise, Cross, pairwise-flat, pairwise-map, range-apart}
use Rattle.elab_model.specs.Bits.{index_at, positions}
use Rattle.elab_model.specs.Ends.{first_ends}
use Rattle.elab_model.specs.Hierarchy.{Instance}
use Rattle.elab_model.specs.Homes.{Spot, bit, outside, terminal, inner, late, is_same_spot, home_of}
use Rattle.elab_model.specs.Lates.{own_copies, is_unnamed}
use Rattle.elab_model.specs.Members.{Member}
use Rattle.elab_model.specs.Names.{Variable, variable, variables, variable_names, is_among, first_of_each}
use Rattle.elab_model.specs.Nets.{OwnNet, bit_net, variable_nets}
use Rattle.elab_model.specs.Terms.{NetBit, is_same_bit}
use Rattle.sg_circuit.specs.Closed.{width_of}
use Rattle.vl_tree.specs.Tree.{Module, Source}

-- nets that aren't the same
abbrev pub Other : OwnNet → OwnNet → Type 0
Other a b = is_same_spot a.spot b.spot ≡ false

abbrev pub AreApart : List OwnNet → Type 0
AreApart os = Pairwise Other os

-- the instance whose nets it is among, and the part, where it is no bit of a variable
abbrev pub scope_of_spot : Spot → ℕ
scope_of_spot (bit s n p) = s
scope_of_spot (outside s k n p) = s
scope_of_spot (terminal s k i) = s
scope_of_spot (inner s n p) = s
scope_of_spot (late s n p) = s

abbrev pub at_bit : List ℕ → ℕ → NetBit
at_bit n p = record { name = n; position = p }

-- the bits of which a member is the first to ask for a copy that no text names
abbrev pub late_bits : Module → ℕ × Member → List NetBit
late_bits m x = map (λ c. c.1.signal) (filter is_unnamed (own_copies m x))

abbrev pub IsOfPart : Module → ℕ × Member → Spot → Type 0
IsOfPart m x (bit s n p) = ⊥
IsOfPart m x (outside s l n p) = l ≡ x.0
IsOfPart m x (terminal s l i) = l ≡ x.0
IsOfPart m x (inner s n p) = In (at_bit n p) (first_ends m x)
IsOfPart m x (late s n p) = In (at_bit n p) (late_bits m x)

abbrev pub IsBit : Spot → Type 0
IsBit (bit s n p) = Unit {0}
IsBit (outside s l n p) = ⊥
IsBit (terminal s l i) = ⊥
IsBit (inner s n p) = ⊥
IsBit (late s n p) = ⊥

pub and-false : (a b : Bool) → b ≡ false → (a && b) ≡ false
and-false true b e = e
and-false false b e = refl

pub scopes-tell : (a b : Spot) → (scope_of_spot a == scope_of_spot b) ≡ false → is_same_spot a b ≡ false
scopes-tell (bit s n p) (bit t m q) e = rw e refl
scopes-tell (outside s k n p) (outside t l m q) e = rw e refl
scopes-tell (terminal s k i) (terminal t l j) e = rw e refl
scopes-tell (inner s n p) (inner t m q) e = rw e refl
scopes-tell (late s n p) (late t m q) e = rw e refl
scopes-tell (bit s n p) (outside t l m q) e = refl
scopes-tell (bit s n p) (terminal t l j) e = refl
scopes-tell (bit s n p) (inner t m q) e = refl
scopes-tell (outside s k n p) (bit t m q) e = refl
scopes-tell (outside s k n p) (terminal t l j) e = refl
scopes-tell (outside s k n p) (inner t m q) e = refl
scopes-tell (terminal s k i) (bit t m q) e = refl
scopes-tell (terminal s k i) (outside t l m q) e = refl
scopes-tell (terminal s k i) (inner t m q) e = refl
scopes-tell (inner s n p) (bit t m q) e = refl
scopes-tell (inner s n p) (outside t l m q) e = refl
scopes-tell (inner s n p) (terminal t l j) e = refl
scopes-tell (bit s n p) (late t m q) e = refl
scopes-tell (outside s k n p) (late t m q) e = refl
scopes-tell (terminal s k i) (late t m q) e = refl
scopes-tell (inner s n p) (late t m q) e = refl
scopes-tell (late s n p) (bit t m q) e = refl
scopes-tell (late s n p) (outside t l m q) e = refl
scopes-tell (late s n p) (terminal t l j) e = refl
scopes-tell (late s n p) (inner t m q) e = refl

-- two members, which are the first to lead to different bits, and to ask for copies of different bits
abbrev pub AreOtherParts : Module → ℕ × Member → ℕ × Member → Type 0
AreOtherParts d x y = ((x.0 == y.0) ≡ false) × (Cross AreOtherBits (first_ends d x) (first_ends d y) × Cross AreOtherBits (late_bits d x) (late_bits d y))

cross-tell : (b c : NetBit) (bs cs : List NetBit) → Cross AreOtherBits bs cs → In b bs → In c cs → is_same_bit b c ≡ false
cross-tell b c bs cs h i j = all-in (AreOtherBits b) c cs (all-in (λ b. AllByRecursion (AreOtherBits b) cs) b bs h i) j

pub parts-tell : (d : Module) (x y : ℕ × Member) (a b : Spot) → AreOtherParts d x y → IsOfPart d x a → IsOfPart d y b → is_same_spot a b ≡ false
parts-tell d x y (bit s n p) b e h g = absurd h
parts-tell d x y (outside s k n p) (bit t m q) e h g = absurd g
parts-tell d x y (terminal s k i) (bit t m q) e h g = absurd g
parts-tell d x y (inner s n p) (bit t m q) e h g = absurd g
parts-tell d x y (outside s k n p) (outside t l m q) e h g = rw (h, g, e.0) (and-false (s == t) false refl)
parts-tell d x y (terminal s k i) (terminal t l j) e h g = rw (h, g, e.0) (and-false (s == t) false refl)
parts-tell d x y (inner s n p) (inner t m q) e h g =
    and-false (s == t) (bytes_eq n m && p == q) (cross-tell (at_bit n p) (at_bit m q) (first_ends d x) (first_ends d y) e.1.0 h g)
parts-tell d x y (late s n p) (bit t m q) e h g = absurd g
parts-tell d x y (late s n p) (late t m q) e h g =
    and-false (s == t) (bytes_eq n m && p == q) (cross-tell (at_bit n p) (at_bit m q) (late_bits d x) (late_bits d y) e.1.1 h g)
parts-tell d x y (outside s k n p) (terminal t l j) e h g = refl
parts-tell d x y (outside s k n p) (inner t m q) e h g = refl
parts-tell d x y (terminal s k i) (outside t l m q) e h g = refl
parts-tell d x y (terminal s k i) (inner t m q) e h g = refl
parts-tell d x y (inner s n p) (outside t l m q) e h g = refl
parts-tell d x y (inner s n p) (terminal t l j) e h g = refl
parts-tell d x y (outside s k n p) (late t m q) e h g = refl
parts-tell d x y (terminal s k i) (late t m q) e h g = refl
parts-tell d x y (inner s n p) (late t m q) e h g = refl
parts-tell d x y (late s n p) (outside t l m q) e h g = refl
parts-tell d x y (late s n p) (terminal t l j) e h g = refl
parts-tell d x y (late s n p) (inner t m q) e h g = refl

pub bits-tell : (d : Module) (x : ℕ × Member) (a b : Spot) → IsBit a → IsOfPart d x b → is_same_spot a b ≡ false
bits-tell d x (bit s n p) (bit t m q) h g = absurd g
bits-tell d x (bit s n p) (outside t l m q) h g = refl
bits-tell d x (bit s n p) (terminal t l j) h g = refl
bits-tell d x (bit s n p) (inner t m q) h g = refl
bits-tell d x (bit s n p) (late t m q) h g = refl
bits-tell d x (outside s l n p) b h g = absurd h
bits-tell d x (terminal s l i) b h g = absurd h
bits-tell d x (inner s n p) b h g = absurd h
bits-tell d x (late s n p) b h g = absurd h

-- which way round makes no difference
pub bytes-either : (a b : List ℕ) → bytes_eq a b ≡ bytes_eq b a
bytes-either a b =
    let d = bytes_eq-Decides a b in
    let e = bytes_eq-Decides b a in
    one_answer (bytes_eq a b) (bytes_eq b a) d (λ h. sym (e.0 h), λ h. e.1 (sym h))

pub numbers-either : (a b : ℕ) → (a == b) ≡ (b == a)
numbers-either a b = one_answer (a == b) (b == a) (eqb-true a b, eq-eqb a b) (λ h. sym (eqb-true b a h), λ h. eq-eqb b a (sym h))

pub spots-either : (a b : Spot) → is_same_spot a b ≡ is_same_spot b a
spots-either (bit s n p) (bit t m q) = rw (numbers-either s t, bytes-either n m, numbers-either p q) refl
spots-either (outside s k n p) (outside t l m q) = rw (numbers-either s t, numbers-either k l, bytes-either n m, numbers-either p q) refl
spots-either (terminal s k i) (terminal t l j) = rw (numbers-either s t, numbers-either k l, numbers-either i j) refl
spots-either (inner s n p) (inner t m q) = rw (numbers-either s t, bytes-either n m, numbers-either p q) refl
spots-either (late s n p) (late t m q) = rw (numbers-either s t, bytes-either n m, numbers-either p q) refl
spots-either (bit s n p) (outside t l m q) = refl
spots-either (bit s n p) (terminal t l j) = refl
spots-either (bit s n p) (inner t m q) = refl
spots-either (outside s k n p) (bit t m q) = refl
spots-either (outside s k n p) (terminal t l j) = refl
spots-either (outside s k n p) (inner t m q) = refl
spots-either (terminal s k i) (bit t m q) = refl
spots-either (terminal s k i) (outside t l m q) = refl
spots-either (terminal s k i) (inner t m q) = refl
spots-either (inner s n p) (bit t m q) = refl
spots-either (inner s n p) (outside t l m q) = refl
spots-either (inner s n p) (terminal t l j) = refl
spots-either (bit s n p) (late t m q) = refl
spots-either (outside s k n p) (late t m q) = refl
spots-either (terminal s k i) (late t m q) = refl
spots-either (inner s n p) (late t m q) = refl
spots-either (late s n p) (bit t m q) = refl
spots-either (late s n p) (outside t l m q) = refl
spots-either (late s n p) (terminal t l j) = refl
spots-either (late s n p) (inner t m q) = refl

-- ---- the bits of variables

abbrev pub IsBitAt : ℕ → List ℕ → ℕ → OwnNet → Type 0
IsBitAt s n p o = o.spot ≡ bit s n p

one-or-none : (P : OwnNet → Type 0) (b : Bool) (o : OwnNet) → P o → AllByRecursion P (if b then o ∷ [] else [])
one-or-none P true o h = (h, tt)
one-or-none P false o h = tt

apart-one : (b : Bool) (o : OwnNet) → AreApart (if b then o ∷ [] else [])
apart-one true o = (tt, tt)
apart-one false o = tt

pub owned-bit : (source : Source) (s : Instance) (v : Variable) (p : ℕ) → AllByRecursion (IsBitAt s.step.number v.name p) (bit_net source s v p)
owned-bit source s v p =
    one-or-none (IsBitAt s.step.number v.name p) (is_same_spot (home_of source s v.name p) (bit s.step.number v.name p))
    (record { spot = bit s.step.number v.name p; scope = s.step.number; name = v.name; bit = index_at v.range p }) refl

places-tell : (s : ℕ) (n : List ℕ) (p q : ℕ) → (p == q) ≡ false → (a b : OwnNet) → IsBitAt s n p a → IsBitAt s n q b → Other a b
places-tell s n p q e a b h g = rw (h, g, e) (and-false (s == s) (bytes_eq n n && false) (and-false (bytes_eq n n) false refl))

-- the bits of one variable
pub variable-apart : (source : Source) (s : Instance) (v : Variable) → AreApart (flat_map (bit_net source s v) (positions v.range))
variable-apart source s v =
    pairwise-flat Other (λ p q. (p == q) ≡ false) (λ p. IsBitAt s.step.number v.name p) (bit_net source s v) (positions v.range)
    (owned-bit source s v) (λ p q e. places-tell s.step.number v.name p q e)
    (all-anyway (λ p. AreApart (bit_net source s v p)) (positions v.range) (λ p. apart-one (is_same_spot (home_of source s v.name p) (bit s.step.number v.name p)) (record { spot = bit s.step.number v.name p; scope = s.step.number; name = v.name; bit = index_at v.range p })))
    (range-apart 0 (width_of v.range))

abbrev pub IsNamed : ℕ → List ℕ → OwnNet → Type 0
IsNamed s n o = (p : ℕ) × (o.spot ≡ bit s n p)

names-tell : (s : ℕ) (n m : List ℕ) → bytes_eq n m ≡ false → (a b : OwnNet) → IsNamed s n a → IsNamed s m b → Other a b
names-tell s n m e a b (p, h) (q, g) = rw (h, g, e) (and-false (s == s) false refl)

-- each name once
pub first-apart : (seen ns : List (List ℕ)) → Pairwise (λ n m. bytes_eq n m ≡ false) (first_of_each seen ns)
first-apart seen ns = subst (Pairwise (λ n m. bytes_eq n m ≡ false)) (sym (names-are seen ns)) (firsts-apart bytes_eq bytes_eq-Decides (λ n. n) seen ns)
  where
    names-are : (seen ns : List (List ℕ)) → first_of_each seen ns ≡ firsts bytes_eq (λ n. n) seen ns
    names-are seen [] = refl
    names-are seen (n ∷ ns) =
        ap (λ ms. if is_among n seen then ms else n ∷ first_of_each (n ∷ seen) ns) (names-are seen ns)
        ∙ ap (λ ms. if is_among n seen then firsts bytes_eq (λ n. n) seen ns else n ∷ ms) (names-are (n ∷ seen) ns)

pub variables-apart : (m : Module) → Pairwise (λ v w. bytes_eq v.name w.name ≡ false) (variables m)
variables-apart m = pairwise-map (λ v w. bytes_eq v.name w.name ≡ false) (variable m) (variable_names m) (first-apart [] _)

pub variable_nets-apart : (source : Source) (s : Instance) → AreApart (variable_nets source s)
variable_nets-apart source s =
    pairwise-flat Other (λ v w. bytes_eq v.name w.name ≡ false) (λ v. IsNamed s.step.number v.name) (λ v. flat_map (bit_net source s v) (positions v.range)) (variables s.step.definition)
    (λ v. all-flat (IsNamed s.step.number v.name) (bit_net source s v) (positions v.range) (λ p. all-weaker (IsBitAt s.step.number v.name p) (IsNamed s.step.number v.name) (bit_net source s v p) (λ o e. (p, e)) (owned-bit source s v p)))
    (λ v w e. names-tell s.step.number v.name w.name e)
    (all-anyway (λ v. AreApart (flat_map (bit_net source s v) (positions v.range))) (variables s.step.definition) (variable-apart source s))
    (variables-apart s.step.definition)
