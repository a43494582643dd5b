-- Keys with numbers are compared exactly.
use Rattle.std.proofs.Common.{◌≡◌, refl, sym, ◌∙◌, ap, ℤ, FitsSigned, to_z, of_z, w64, Bool, true, false, Option, Some, None}
use Rattle.std.specs.Option.{option_eq}
use Rattle.std.specs.Prelude.{◌&&◌, ◌↔◌, nat_eq, IsTrue}
use Rattle.std.proofs.lemmas.Int.{to_z-of_z}
use Rattle.std.proofs.lemmas.Bool.{eqb-true, eq-eqb}
use Rattle.written_faults.specs.Keys.{PathCode, EventCode, PartCode, path_eq, event_eq, part_eq}

-- ---- tests

-- a test finds what is the same, and only that
pub record IsExact {A : Type 0} (eq : A → A → Bool) : Type 0 where
  pub same : (a b : A) → eq a b ≡ true → a ≡ b
  pub itself : (a : A) → eq a a ≡ true

both : (a b : Bool) → (a && b) ≡ true → (a ≡ true) × (b ≡ true)
both true b e = (refl, e)
both false b e = absurd cc

and-true : (a b : Bool) → a ≡ true → b ≡ true → (a && b) ≡ true
and-true a b e f = ap (λ c. c && b) e ∙ f

numbers-exact : IsExact nat_eq
numbers-exact = record { same = eqb-true; itself = λ a. eq-eqb a a refl }

option-exact : {A : Type 0} (eq : A → A → Bool) → IsExact eq → IsExact (option_eq eq)
option-exact {A} eq exact = record { same = same; itself = itself }
  where
    same : (a b : Option A) → option_eq eq a b ≡ true → a ≡ b
    same None None e = refl
    same (Some a) (Some b) e = ap (λ x. Some x) (exact.same a b e)
    same None (Some b) e = absurd cc
    same (Some a) None e = absurd cc

    itself : (a : Option A) → option_eq eq a a ≡ true
    itself None = refl
    itself (Some a) = exact.itself a

-- ---- keys

pub path-exact : IsExact path_eq
path-exact = record { same = same; itself = itself }
  where
    last : IsExact (option_eq (option_eq nat_eq))
    last = option-exact (option_eq nat_eq) (option-exact nat_eq numbers-exact)

    same : (a b : PathCode) → path_eq a b ≡ true → a ≡ b
    same a b e =
        let three = both ((nat_eq a.0 b.0 && nat_eq a.1 b.1) && nat_eq a.2 b.2) (option_eq (option_eq nat_eq) a.3 b.3) e in
        let two = both (nat_eq a.0 b.0 && nat_eq a.1 b.1) (nat_eq a.2 b.2) three.0 in
        let one = both (nat_eq a.0 b.0) (nat_eq a.1 b.1) two.0 in
        ap {B = PathCode} (λ x. (x, a.1, a.2, a.3)) (eqb-true a.0 b.0 one.0)
        ∙ (ap {B = PathCode} (λ x. (b.0, x, a.2, a.3)) (eqb-true a.1 b.1 one.1)
        ∙ (ap {B = PathCode} (λ x. (b.0, b.1, x, a.3)) (eqb-true a.2 b.2 two.1) ∙ ap {B = PathCode} (λ x. (b.0, b.1, b.2, x)) (last.same a.3 b.3 three.1)))

    itself : (a : PathCode) → path_eq a a ≡ true
    itself a =
        and-true ((nat_eq a.0 a.0 && nat_eq a.1 a.1) && nat_eq a.2 a.2) (option_eq (option_eq nat_eq) a.3 a.3)
        (and-true (nat_eq a.0 a.0 && nat_eq a.1 a.1) (nat_eq a.2 a.2) (and-true (nat_eq a.0 a.0) (nat_eq a.1 a.1) (numbers-exact.itself a.0) (numbers-exact.itself a.1)) (numbers-exact.itself a.2))
        (last.itself a.3)

event-exact : IsExact event_eq
event-exact = record { same = same; itself = itself }
  where
    last : IsExact (option_eq nat_eq)
    last = option-exact nat_eq numbers-exact

    same : (a b : EventCode) → event_eq a b ≡ true → a ≡ b
    same a b e =
        let two = both (nat_eq a.0 b.0 && nat_eq a.1 b.1) (option_eq nat_eq a.2 b.2) e in
        let one = both (nat_eq a.0 b.0) (nat_eq a.1 b.1) two.0 in
        ap {B = EventCode} (λ x. (x, a.1, a.2)) (eqb-true a.0 b.0 one.0)
        ∙ (ap {B = EventCode} (λ x. (b.0, x, a.2)) (eqb-true a.1 b.1 one.1) ∙ ap {B = EventCode} (λ x. (b.0, b.1, x)) (last.same a.2 b.2 two.1))

    itself : (a : EventCode) → event_eq a a ≡ true
    itself a =
        and-true (nat_eq a.0 a.0 && nat_eq a.1 a.1) (option_eq nat_eq a.2 a.2) (and-true (nat_eq a.0 a.0) (nat_eq a.1 a.1) (numbers-exact.itself a.0) (numbers-exact.itself a.1)) (last.itself a.2)

pub part-exact : IsExact part_eq
part-exact = record { same = same; itself = itself }
  where
    last : IsExact (option_eq event_eq)
    last = option-exact event_eq event-exact

    same : (a b : PartCode) → part_eq a b ≡ true → a ≡ b
    same a b e =
        let two = both (nat_eq a.0 b.0 && event_eq a.1 b.1) (option_eq event_eq a.2 b.2) e in
        let one = both (nat_eq a.0 b.0) (event_eq a.1 b.1) two.0 in
        ap {B = PartCode} (λ x. (x, a.1, a.2)) (eqb-true a.0 b.0 one.0)
        ∙ (ap {B = PartCode} (λ x. (b.0, x, a.2)) (event-exact.same a.1 b.1 one.1) ∙ ap {B = PartCode} (λ x. (b.0, b.1, x)) (last.same a.2 b.2 two.1))

    itself : (a : PartCode) → part_eq a a ≡ true
    itself a =
        and-true (nat_eq a.0 a.0 && event_eq a.1 a.1) (option_eq event_eq a.2 a.2) (and-true (nat_eq a.0 a.0) (event_eq a.1 a.1) (numbers-exact.itself a.0) (event-exact.itself a.1)) (last.itself a.2)

-- ---- limits

-- two that fit are compared by their bits
pub limits-same : (x y : ℤ) → FitsSigned w64 x → FitsSigned w64 y → IsTrue (nat_eq (of_z w64 x) (of_z w64 y)) ↔ (x ≡ y)
limits-same x y f g =
    (λ e. sym (to_z-of_z w64 x f) ∙ (ap (to_z w64) (eqb-true (of_z w64 x) (of_z w64 y) e) ∙ to_z-of_z w64 y g), λ e. eq-eqb (of_z w64 x) (of_z w64 y) (ap (of_z w64) e))
