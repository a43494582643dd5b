-- The variables of a table are those that the module says of their names, and what follows for Legs and for constants at ports.
use Rattle.std.specs.Prelude.{◌≡◌, ℕ, ◌<◌, List, [], ◌∷◌, Bool, true, false, ◌&&◌, not, Some, None, length, take, refl, if◌then◌else◌}
use Rattle.std.specs.List.{AllByRecursion}
use Rattle.std.proofs.Common.{sym, ◌∙◌, ap, subst, arith}
use Rattle.std.proofs.lemmas.List.{take_all}
use Rattle.std.proofs.lemmas.List.Elements.{All-from_recursion}
use Rattle.sg_logic.specs.declared.values.Value.{Value}
use Rattle.sg_text.specs.declared.places.Place.{Place}
use Rattle.vl_tree.specs.Tree.{Module, Source}
use Rattle.elab_model.specs.Bits.{constant, positions}
use Rattle.elab_model.specs.Connections.{bound_to}
use Rattle.elab_model.specs.Elements.{bound_above, leg_source}
use Rattle.elab_model.specs.Hierarchy.{Step, is_empty, has_no_child}
use Rattle.elab_model.specs.Homes.{bit, outside, is_input, has_leg, is_shared, same_above, home}
use Rattle.elab_model.specs.Names.{Variable, variable, variables, variable_names}
use Rattle.elab_model.specs.Nets.{OwnNet, number_of}
use Rattle.elab_laws.specs.Handing.{variable_bits, all_bits}
use Rattle.elab_laws.proofs.Lists.{all-flat_in, all-map, all-anyway}
use Rattle.elab_bits.specs.Seen.{bit_at}
use Rattle.elab_nets.specs.Outside.{outer_number}

-- each bit is of the variable that the module says of its name
abbrev IsOwn : Module → Variable × ℕ → Type 0
IsOwn m b = variable m b.0.name ≡ b.0

own-bits : (m : Module) → AllByRecursion (IsOwn m) (all_bits (variables m))
own-bits m =
    all-flat_in (IsOwn m) variable_bits (variables m)
    (all-map (λ v. AllByRecursion (IsOwn m) (variable_bits v)) (variable m) (variable_names m)
    (all-anyway (λ n. AllByRecursion (IsOwn m) (variable_bits (variable m n))) (variable_names m)
    (λ n. all-map (IsOwn m) (λ p. (variable m n, p)) (positions (variable m n).range) (all-anyway (λ p. IsOwn m (variable m n, p)) (positions (variable m n).range) (λ p. refl)))))

pub own-bit : (m : Module) (vs : List Variable) (i : ℕ) → vs ≡ variables m → i < length (all_bits vs) → variable m (bit_at vs i).0.name ≡ (bit_at vs i).0
own-bit m vs i e lt = All-from_recursion (IsOwn m) (all_bits vs) (subst (λ ws. AllByRecursion (IsOwn m) (all_bits ws)) (sym e) (own-bits m)) i _ lt

-- the whole row is that of all variables
pub whole-row : (vs : List Variable) (n : ℕ) → n ≡ length vs → length (all_bits vs) ≡ length (all_bits (take n vs))
whole-row vs n e = ap (λ ws. length (all_bits ws)) (sym (take_all n vs (omega arith)))

-- ---- Legs

pub and-both : (a b : Bool) → (a && b) ≡ true → (a ≡ true) × (b ≡ true)
and-both true b e = (refl, e)
and-both false b e = cc

and-not : (a b : Bool) → b ≡ true → (a && not b) ≡ false
and-not true b e = ap not e
and-not false b e = refl

pub leg-is : (source : Source) (s : Step) (v : Variable) (hc : Bool) → variable s.definition v.name ≡ v → has_no_child source s ≡ hc → has_leg source s v.name ≡ (is_input v.port && hc)
leg-is source s v hc e h = ap (λ w. is_input w.port && has_no_child source s) e ∙ ap (λ b. is_input v.port && b) h

-- the net behind a Leg is its own, and the Leg reads the one outside
pub leg-own : (source : Source) (s : Step) (above : List Step) (n : List ℕ) (p : ℕ) → not (is_empty above) ≡ true → has_leg source s n ≡ true → home source s above n p ≡ bit s.number n p
leg-own source s [] n p e h = cc
leg-own source s (parent ∷ above) n p e h =
    let apart : is_shared source s n ≡ false = and-not _ (has_leg source s n) h in
    let same : same_above source s parent n p ≡ None = ap (λ b. if b then bound_to s parent n p else None) apart in
    rw (same, home) refl

pub leg-outside : (all : List OwnNet) (source : Source) (s : Step) (above : List Step) (b : Variable × ℕ) → not (is_empty above) ≡ true → has_leg source s b.0.name ≡ true
    → outer_number all source s above b ≡ Some (number_of all (leg_source source s above b.0.name b.1 (bound_above s above b.0.name b.1)))
leg-outside all source s [] b e h = cc
leg-outside all source s (parent ∷ above) b e h = rw h refl

-- ---- constants at ports

-- a bit that is bound to a constant is a net of its own
pub constant-own : (source : Source) (c parent : Step) (over : List Step) (n : List ℕ) (p : ℕ) (at : Place) (v : Value) → bound_to c parent n p ≡ Some (constant at v)
    → home source c (parent ∷ over) n p ≡ bit c.number n p
constant-own source c parent over n p at v bound = by (is_shared source c n) refl
  where
    by : (b : Bool) → is_shared source c n ≡ b → home source c (parent ∷ over) n p ≡ bit c.number n p
    by true e = let same : same_above source c parent n p ≡ Some (constant at v) = ap (λ b. if b then bound_to c parent n p else None) e ∙ bound in rw (same, home) refl
    by false e = let same : same_above source c parent n p ≡ None = ap (λ b. if b then bound_to c parent n p else None) e in rw (same, home) refl

-- and where a Leg stands, the net outside has no name
pub constant-outside : (all : List OwnNet) (source : Source) (c parent : Step) (over : List Step) (b : Variable × ℕ) (at : Place) (v : Value) → bound_to c parent b.0.name b.1 ≡ Some (constant at v)
    → has_leg source c b.0.name ≡ true → outer_number all source c (parent ∷ over) b ≡ Some (number_of all (outside parent.number c.member b.0.name b.1))
constant-outside all source c parent over b at v bound leg = rw (leg, bound) refl
