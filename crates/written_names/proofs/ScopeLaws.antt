-- The scopes of a circuit that is read have names that lead back, and so have their variables.
use Rattle.std.specs.Prelude.{◌≡◌, ℕ, zero, suc, ◌<◌, ℤ, pos, negsuc, ◌-ℤ◌, ◌≤ℤ◌, int_le, ◌&&◌, Bool, true, false, All, IfSome, IsSome, List, [], ◌∷◌, bytes_eq, length, map, Option, Some, None, slice_get, slice_index_or, refl}
use Rattle.std.specs.List.{AllByRecursion}
use Rattle.std.proofs.Common.{sym, ◌∙◌, ap, subst, arith}
use Rattle.std.proofs.lemmas.Bool.{agree_below_at, and_parts}
use Rattle.std.proofs.lemmas.Int.{ints}
use Rattle.std.proofs.lemmas.List.{length-map}
use Rattle.std.proofs.lemmas.List.Elements.{All-from_get_or, All-from_recursion}
use Rattle.std.proofs.lemmas.Slice.Eq.{bytes_eq-Decides}
use Rattle.sg_circuit.specs.Circuit.{Circuit, Scope, Variable}
use Rattle.sg_circuit.specs.declared.scopes.Range.{Range}
use Rattle.sg_delay.specs.declared.corners.Corner.{Corner}
use Rattle.vl_tree.specs.Tree.{Module, Source}
use Rattle.elab_model.specs.Hierarchy.{Instance, children_in, instances, levels_below_top, top_instance}
use Rattle.elab_model.specs.Names.{variables}
use Rattle.elab_model.specs.Nets.{nets}
use Rattle.elab_model.specs.Scopes.{scope_of, scope_variable}
use Rattle.circuit_model.specs.Circuits.{circuit}
use Rattle.elab_laws.proofs.Apart.{variables-apart}
use Rattle.elab_laws.proofs.Lists.{In, Pairwise, all-from, all-get, all-in, all-map, all-weaker, pairwise-map}
use Rattle.elab_laws.proofs.NoFaults.{IsFaultless, each-faultless, in-own}
use Rattle.elab_laws.proofs.Numbers.{number}
use Rattle.elab_laws.proofs.Stated.{instances-have_places}
use Rattle.elab_closed.proofs.Counts.{faultless-parts}
use Rattle.elab_closed.proofs.Places.{counted-at, in-place, mapped-at, place-of}
use Rattle.vcd_laws.specs.Reading.{IsRead}
use Rattle.vcd_laws.proofs.Decimals.{IsShort}
use Rattle.vcd_laws.proofs.Lexed.{good_tokens}
use Rattle.vcd_laws.proofs.Ordered.{ordered_tree}
use Rattle.vcd_laws.proofs.Readable.{HasNames, IsWritten}
use Rattle.vcd_laws.proofs.Shared.{Shares, adjusted_shares}
use Rattle.written_reading.specs.Named.{AreApart, IsIndex, IsNameText, IsTick, IsVariableText}
use Rattle.written_names.specs.NamedScopes.{HasNamedScopes}
use Rattle.written_names.proofs.DeclaredNames.{IsNamedModule, IsNamedPart}
use Rattle.written_names.proofs.DefinedModules.{instances_are, top_is}
use Rattle.written_names.proofs.DeclaringTrees.{source_is}
use Rattle.written_names.proofs.InstanceLaws.{HasName, other-below, siblings-one}
use Rattle.written_names.proofs.InstanceNames.{IsNamedChild, IsOfNamed, each_child_named, instance_named}
use Rattle.written_names.proofs.NoFaultBelow.{none_below}
use Rattle.written_names.proofs.VariableNames.{variables_are}
use Rattle.written_names.proofs.WordLaws.{tokens_are_good}

-- ---- units and indexes

abbrev tick_table : ℕ → Bool
tick_table n = int_le (negsuc 14) (pos 2 -ℤ pos n) && int_le (pos 2 -ℤ pos n) (pos 2)

yes : (a b : ℤ) → int_le a b ≡ true → a ≤ℤ b
yes a b h = grind (arith, ints)

tick_is : (n : ℕ) (tick : ℤ) → n < 18 → tick ≡ pos 2 -ℤ pos n → IsTick tick
tick_is n tick l e =
    let p = and_parts (int_le (negsuc 14) (pos 2 -ℤ pos n)) (int_le (pos 2 -ℤ pos n) (pos 2)) (agree_below_at tick_table (λ m. true) 18 n refl l) in
    subst IsTick (sym e) (record { least = yes (negsuc 14) (pos 2 -ℤ pos n) p.0; greatest = yes (pos 2 -ℤ pos n) (pos 2) p.1 })

short_index : (z : ℤ) → IsShort z → IsIndex z
short_index (pos n) l = l
short_index (negsuc n) l = l

-- ---- variables

not_in : (n : List ℕ) (vs : List Variable) (j : ℕ) (w : Variable) → AllByRecursion (λ (x : Variable). bytes_eq n x.name ≡ false) vs → slice_get vs j ≡ Some w → n ≡ w.name → ⊥
not_in n vs j w h e same = (let q : true ≡ false = sym ((bytes_eq-Decides n w.name).1 same) ∙ all-get (λ (x : Variable). bytes_eq n x.name ≡ false) vs j w h e in cc)

some-one : {A : Type 0} {x y : A} → ◌≡◌ {A = Option A} (Some x) (Some y) → x ≡ y
some-one e = cc

apart_places : (vs : List Variable) → Pairwise (λ (x y : Variable). bytes_eq x.name y.name ≡ false) vs → (i j : ℕ) (v w : Variable) → slice_get vs i ≡ Some v → slice_get vs j ≡ Some w → v.name ≡ w.name → i ≡ j
apart_places [] h i j v w e f n = absurd cc
apart_places (x ∷ vs) h zero zero v w e f n = refl
apart_places (x ∷ vs) h zero (suc j) v w e f n = absurd (not_in x.name vs j w h.0 f (ap (λ (y : Variable). y.name) (some-one e) ∙ n))
apart_places (x ∷ vs) h (suc i) zero v w e f n = absurd (not_in x.name vs i v h.0 e (ap (λ (y : Variable). y.name) (some-one f) ∙ sym n))
apart_places (x ∷ vs) h (suc i) (suc j) v w e f n = ap suc (apart_places vs h.1 i j v w e f n)

variables_apart : (source : Source) (top : Module) (s : Instance) → AreApart (map (scope_variable (nets source top) source s) (variables s.step.definition))
variables_apart source top s = record {
  names = apart_places (map (scope_variable (nets source top) source s) (variables s.step.definition))
      (pairwise-map (λ (x y : Variable). bytes_eq x.name y.name ≡ false) (scope_variable (nets source top) source s) (variables s.step.definition) (variables-apart s.step.definition));
}

indexes : (o : Option Range) → IfSome o (λ r. IsShort r.left × IsShort r.right) → IfSome o (λ r. IsIndex r.left) × IfSome o (λ r. IsIndex r.right)
indexes None h = (tt, tt)
indexes (Some r) h = (short_index r.left h.0, short_index r.right h.1)

texts_are : (vs : List Variable) → AllByRecursion (λ (v : Variable). IsNameText v.name) vs → AllByRecursion IsWritten vs → AllByRecursion IsVariableText vs
texts_are [] h k = tt
texts_are (v ∷ vs) h k = (let r = indexes v.range k.0.range in (record { name = h.0; left = r.0; right = r.1 }, texts_are vs h.1 k.1))

-- ---- scopes

abbrev blank : Scope
blank = record { parent = None; name = []; module_name = []; unit = pos 0; precision = pos 0; is_leaf = false; variables = [] }

-- what scopes have, whatever else is in the circuit
record AreNamed (ss : List Scope) : Type 0 where
  top : (slice_index_or ss 0 blank).parent ≡ None
  others : (s : ℕ) → 0 < s → s < length ss → IsSome (slice_index_or ss s blank).parent
  scope_names : (s : ℕ) → 0 < s → s < length ss → IsNameText (slice_index_or ss s blank).name
  siblings : (s t : ℕ) → s < length ss → t < length ss → (slice_index_or ss s blank).parent ≡ (slice_index_or ss t blank).parent → (slice_index_or ss s blank).name ≡ (slice_index_or ss t blank).name → s ≡ t
  variables : All (λ s. All IsVariableText s.variables) ss
  apart : All (λ s. AreApart s.variables) ss

have_named : (c : Circuit) → AreNamed c.scopes → IsTick c.tick → HasNamedScopes c
have_named c h tick = record { top = h.top; others = h.others; scope_names = h.scope_names; siblings = h.siblings; variables = h.variables; apart = h.apart; tick = tick }

are_named : (c : Circuit) → HasNamedScopes c → AreNamed c.scopes
are_named c h = record { top = h.top; others = h.others; scope_names = h.scope_names; siblings = h.siblings; variables = h.variables; apart = h.apart }

-- they stay where the scopes and the tick do
pub scopes-stay : (c d : Circuit) → d.scopes ≡ c.scopes → d.tick ≡ c.tick → HasNamedScopes c → HasNamedScopes d
scopes-stay c d scopes tick h = have_named d (subst AreNamed (sym scopes) (are_named c h)) (subst IsTick (sym tick) h.tick)

-- ---- the instance that a scope is made of

record IsMade (source : Source) (top : Module) (s : ℕ) : Type 0 where
  instance : Instance
  there : In instance (instances source top)
  number : number instance ≡ s
  scope : slice_index_or (map (scope_of (nets source top) source) (instances source top)) s blank ≡ scope_of (nets source top) source instance

made_at : (source : Source) (top : Module) (s : ℕ) (x : Instance) → slice_get (instances source top) s ≡ Some x → IsMade source top s
made_at source top s x e = record {
  instance = x;
  there = all-get (λ y. In y (instances source top)) (instances source top) s x (all-from (λ y. In y (instances source top)) (instances source top) (λ y k. k)) e;
  number = counted-at number (instances source top) s x (instances-have_places source top) e;
  scope = mapped-at (scope_of (nets source top) source) (instances source top) s blank x e;
}

is_made : (source : Source) (top : Module) (s : ℕ) → s < length (map (scope_of (nets source top) source) (instances source top)) → IsMade source top s
is_made source top s l = (let p = place-of (instances source top) s (subst (λ n. s < n) (length-map (instances source top) (scope_of (nets source top) source)) l) in made_at source top s p.0 p.1)

top_made : (source : Source) (top : Module) → (slice_index_or (map (scope_of (nets source top) source) (instances source top)) 0 blank).parent ≡ None
top_made source top =
    let i = in-place (top_instance top) (instances source top) (in-own source levels_below_top (top_instance top)) in
    let z : 0 ≡ i.0 = counted-at number (instances source top) i.0 (top_instance top) (instances-have_places source top) i.1 in
    ap (λ (x : Scope). x.parent) (mapped-at (scope_of (nets source top) source) (instances source top) 0 blank (top_instance top) (ap (slice_get (instances source top)) z ∙ i.1))

-- ---- all together

record IsSound (source : Source) (top : Module) (corner : Corner) : Type 0 where
  faultless : AllByRecursion (IsFaultless source top corner) (instances source top)
  named : AllByRecursion IsOfNamed (instances source top)

scopes_named : (source : Source) (top : Module) (corner : Corner) → IsSound source top corner → (c : Circuit) → c.scopes ≡ map (scope_of (nets source top) source) (instances source top) → HasNames c → AreNamed (map (scope_of (nets source top) source) (instances source top))
scopes_named source top corner h c same names = record {
  top = top_made source top;
  others = λ s some l. let m = is_made source top s l in
      subst (λ (x : Scope). IsSome x.parent) (sym m.scope) (other-below source top m.instance m.there (subst (λ n. 0 < n) (sym m.number) some));
  scope_names = λ s some l. let m = is_made source top s l in
      subst (λ (x : Scope). IsNameText x.name) (sym m.scope) (instance_named source top corner h.faultless h.named m.instance m.there);
  siblings = λ s t l k parents same_names. let m = is_made source top s l in let n = is_made source top t k in
      sym m.number ∙ (ap number (siblings-one source top corner h.faultless (λ x there. all-weaker IsNamedChild HasName (children_in source x.step.definition) (λ c k. k.some) (each_child_named source top corner h.faultless h.named x there)) m.instance n.instance m.there n.there
      (sym (ap (λ (x : Scope). x.parent) m.scope) ∙ (parents ∙ ap (λ (x : Scope). x.parent) n.scope)) (sym (ap (λ (x : Scope). x.name) m.scope) ∙ (same_names ∙ ap (λ (x : Scope). x.name) n.scope))) ∙ n.number);
  variables = All-from_get_or (λ (x : Scope). All IsVariableText x.variables) ss blank (λ s l. let m = is_made source top s l in
      All-from_recursion IsVariableText (slice_index_or ss s blank).variables
      (texts_are (slice_index_or ss s blank).variables
      (subst (λ (x : Scope). AllByRecursion (λ (v : Variable). IsNameText v.name) x.variables) (sym m.scope)
      (all-map (λ (v : Variable). IsNameText v.name) (scope_variable (nets source top) source m.instance) (variables m.instance.step.definition) (variables_are m.instance.step.definition (all-in IsOfNamed m.instance (instances source top) h.named m.there))))
      (subst (λ (xs : List Scope). AllByRecursion IsWritten (slice_index_or xs s blank).variables) same (names.scopes s (subst (λ (xs : List Scope). s < length xs) (sym same) l)).1)));
  apart = All-from_get_or (λ (x : Scope). AreApart x.variables) ss blank (λ s l. let m = is_made source top s l in subst (λ (x : Scope). AreApart x.variables) (sym m.scope) (variables_apart source top m.instance));
}
  where
    ss : List Scope
    ss = map (scope_of (nets source top) source) (instances source top)

-- the scopes of a circuit that is read
pub read-has_named_scopes : (texts : List (List ℕ)) (name : Option (List ℕ)) (corner : Corner) (c : Circuit) → IsRead texts name corner c → HasNamedScopes c
read-has_named_scopes texts name corner c r =
    have_named c (subst AreNamed (sym shares.scopes) (scopes_named r.tree r.is_elaborated.top corner sound c shares.scopes names)) (tick_is names.tick c.tick names.tick_small names.tick_is)
  where
    plain : Circuit
    plain = circuit r.tree r.is_elaborated.top corner

    shares : Shares c plain
    shares = adjusted_shares plain c r.is_elaborated.is_circuit

    names : HasNames c
    names = (ordered_tree r.tokens r.tree name corner c c (good_tokens texts r.tokens r.are_tokens) r.are_tree r.is_elaborated refl).names

    parts : AllByRecursion IsNamedPart r.tree
    parts = source_is r.tokens (tokens_are_good texts r.tokens r.are_tokens) 0 (length r.tokens) r.tree r.are_tree

    sound : IsSound r.tree r.is_elaborated.top corner
    sound = record {
      faultless = each-faultless r.tree r.is_elaborated.top corner (faultless-parts r.tree r.is_elaborated.top corner (none_below r.tree name corner c r.is_elaborated)).plain;
      named = instances_are IsNamedModule r.tree parts r.is_elaborated.top (top_is IsNamedModule r.tree parts name r.is_elaborated.top r.is_elaborated.is_top);
    }
