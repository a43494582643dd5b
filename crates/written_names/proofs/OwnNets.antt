-- Which bits of an instance's variables are one net.
use Rattle.std.specs.Prelude.{◌≡◌, ◌⊎◌, ℕ, ◌<◌, List, [], ◌∷◌, Bool, true, false, ◌&&◌, not, Option, Some, None, refl, if◌then◌else◌}
use Rattle.std.specs.List.{AllByRecursion}
use Rattle.std.proofs.Common.{sym, ◌∙◌, ap, arith, inl, inr, subst}
use Rattle.std.proofs.lemmas.Bool.{eq-eqb}
use Rattle.sg_circuit.specs.declared.scopes.Port.TheVariants.{Input, Output}
use Rattle.vl_tree.specs.Tree.{Module, Source}
use Rattle.elab_model.specs.Bits.{Bit, net, constant}
use Rattle.elab_model.specs.Connections.{bound_to}
use Rattle.elab_model.specs.Hierarchy.{Step, Instance, has_no_child}
use Rattle.elab_model.specs.Homes.{Spot, bit, has_leg, home, home_of, is_input, is_shared, same_above}
use Rattle.elab_model.specs.Names.{Variable, is_among, variable, variables}
use Rattle.elab_model.specs.Nets.{OwnNet, number_of}
use Rattle.elab_model.specs.Ports.{port_names}
use Rattle.elab_laws.specs.Words.{Owns}
use Rattle.elab_laws.proofs.Apart.{scope_of_spot}
use Rattle.elab_laws.proofs.Drivers.{same-by_number, spots-decide}
use Rattle.elab_laws.proofs.Firsts.{and-both}
use Rattle.elab_laws.proofs.Handed.{Rises, home-scope}
use Rattle.elab_laws.proofs.Legs.{leg-own, variable-is}
use Rattle.elab_laws.proofs.Lists.{In}

-- nets of one number are one net
pub same-net : (os : List OwnNet) (a b : Spot) → Owns a os → Owns b os → number_of os a ≡ number_of os b → a ≡ b
same-net os a b x y e = spots-decide a b (same-by_number a b os x y ∙ eq-eqb (number_of os a) (number_of os b) e)

-- a bit is a net of its instance's own, or one from above, and then of a port that shares its nets
pub record IsFromAbove (source : Source) (s : Step) (over : List Step) (n : List ℕ) (p : ℕ) : Type 0 where
  pub shared : is_shared source s n ≡ true
  pub above : scope_of_spot (home source s over n p) < s.number

pub own-or_above : (source : Source) (s : Step) (over : List Step) (n : List ℕ) (p : ℕ) → AllByRecursion (λ a. a.number < s.number) over
    → (home source s over n p ≡ bit s.number n p) ⊎ IsFromAbove source s over n p
own-or_above source s [] n p h = inl refl
own-or_above source s (parent ∷ over) n p h = by (same_above source s parent n p) refl
  where
    shared : (c : Bool) (o : Option Bit) (b : Bit) → (if c then o else None) ≡ Some b → c ≡ true
    shared true o b e = refl
    shared false o b e = cc

    by : (o : Option Bit) → same_above source s parent n p ≡ o → (home source s (parent ∷ over) n p ≡ bit s.number n p) ⊎ IsFromAbove source s (parent ∷ over) n p
    by None e = inl (rw (e, home) refl)
    by (Some (constant at v)) e = inl (rw (e, home) refl)
    by (Some (net m q)) e =
        let above : home source s (parent ∷ over) n p ≡ home source parent over m q = rw (e, home) refl in
        let lower : scope_of_spot (home source parent over m q) < s.number = home-scope (λ k. k < s.number) source parent over m q h.0 h.1 in
        inr (record { shared = shared (is_shared source s n) (bound_to s parent n p) (net m q) e; above = subst (λ a. scope_of_spot a < s.number) (sym above) lower })

-- ---- what else is a net

name-of : (k l : ℕ) (n m : List ℕ) (p q : ℕ) → bit k n p ≡ bit l m q → n ≡ m
name-of k l n m p q e = cc

-- a net of an instance's own is a bit of one variable
pub own-alone : (source : Source) (s : Instance) (n m : List ℕ) (p q : ℕ) → Rises s → home_of source s n p ≡ bit s.step.number n p → home_of source s m q ≡ home_of source s n p → m ≡ n
own-alone source s n m p q rises own same =
    elim (own-or_above source s.step s.above m q rises) [
      | inl e ↦ name-of s.step.number s.step.number m n q p (sym e ∙ same ∙ own)
      | inr r ↦ (let lt : s.step.number < s.step.number = subst (λ a. scope_of_spot a < s.step.number) (same ∙ own) r.above in absurd (omega arith))
    ]

-- so an input of a leaf shares its net with no other variable
pub input-alone : (source : Source) (s : Instance) (n : List ℕ) (p : ℕ) (v : Variable) (q : ℕ) → Rises s → has_no_child source s.step ≡ true
    → (variable s.step.definition n).port ≡ Input → In v (variables s.step.definition) → home_of source s v.name q ≡ home_of source s n p → v.port ≡ Input
input-alone source s n p v q rises lone input known same =
    let leg : has_leg source s.step n ≡ true = ap (λ x. is_input x && has_no_child source s.step) input ∙ lone in
    let name = own-alone source s n v.name p q rises (leg-own source s.step s.above n p leg) same in
    ap (λ (w : Variable). w.port) (sym (variable-is s.step.definition v known)) ∙ ap (λ k. (variable s.step.definition k).port) name ∙ input

-- ---- ports

-- each port has a direction
abbrev pub AreDirected : Module → Type 0
AreDirected m = (n : List ℕ) → is_among n (port_names m) ≡ true → ((variable m n).port ≡ Input) ⊎ ((variable m n).port ≡ Output)

not-leg : (a b : Bool) → b ≡ true → not (a && b) ≡ true → a ≡ false
not-leg true b e h = (let f : not b ≡ true = h in cc)
not-leg false b e h = refl

shared-output : (source : Source) (s : Step) (n : List ℕ) → AreDirected s.definition → has_no_child source s ≡ true → is_shared source s n ≡ true → (variable s.definition n).port ≡ Output
shared-output source s n directed lone shared =
    let two = and-both (is_among n (port_names s.definition)) (not (has_leg source s n)) shared in
    let out : is_input (variable s.definition n).port ≡ false = not-leg (is_input (variable s.definition n).port) (has_no_child source s) lone two.1 in
    elim (directed n two.0) [
      | inl e ↦ (let f : is_input Input ≡ false = subst (λ x. is_input x ≡ false) e out in cc)
      | inr e ↦ e
    ]

-- an output of a leaf shares its net with outputs alone
pub output-alone : (source : Source) (s : Instance) (n : List ℕ) (p : ℕ) (v : Variable) (q : ℕ) → Rises s → AreDirected s.step.definition → has_no_child source s.step ≡ true
    → (variable s.step.definition n).port ≡ Output → In v (variables s.step.definition) → home_of source s v.name q ≡ home_of source s n p → v.port ≡ Output
output-alone source s n p v q rises directed lone output known same =
    subst (λ (w : Variable). w.port ≡ Output) (variable-is s.step.definition v known)
    (elim (own-or_above source s.step s.above v.name q rises) [
      | inl e ↦ ap (λ k. (variable s.step.definition k).port) (sym (own-alone source s v.name n q p rises e (sym same))) ∙ output
      | inr r ↦ shared-output source s.step v.name directed lone r.shared
    ])
