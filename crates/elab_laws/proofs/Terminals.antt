-- What elements read and drive: each bit of an expression has a net, and so has a constant at an input of a gate or a primitive.
use Rattle.std.specs.Prelude.{◌≡◌, ℕ, List, ◌∷◌, flat_map, refl}
use Rattle.std.specs.List.{AllByRecursion, enumerate_from}
use Rattle.std.proofs.Common.{sym, inl, subst}
use Rattle.sg_logic.specs.declared.values.Value.{Value}
use Rattle.sg_text.specs.declared.places.Place.{Place}
use Rattle.vl_tree.specs.Tree.{Module, Expression, Source}
use Rattle.elab_model.specs.Members.{Member, members}
use Rattle.elab_model.specs.Names.{variables, variable}
use Rattle.elab_model.specs.Bits.{Bit, net, constant, bits, index_at}
use Rattle.elab_model.specs.Hierarchy.{Instance, instances}
use Rattle.elab_model.specs.Homes.{terminal, home_of}
use Rattle.elab_model.specs.Elements.{expression_bits}
use Rattle.elab_model.specs.Nets.{OwnNet, terminal_net, terminal_nets, member_nets, variable_nets, nets_of, nets}
use Rattle.elab_laws.specs.Words.{Owns}
use Rattle.elab_laws.proofs.Lists.{In, in-flat, in-right, all-weaker}
use Rattle.elab_laws.proofs.Places.{IsBitOf, bits-below}
use Rattle.elab_laws.proofs.Homes.{home-there}

-- the net of a bit of an expression is one of the nets
abbrev pub HasNet : Source → Module → Instance → Bit → Type 0
HasNet source top s (net n p) = Owns (home_of source s n p) (nets source top)
HasNet source top s (constant at v) = Unit {0}

pub expression-there : (source : Source) (top : Module) (s : Instance) (e : Expression) → In s (instances source top) → AllByRecursion (HasNet source top s) (expression_bits s e)
expression-there source top s e there =
    all-weaker (IsBitOf (variables s.step.definition)) (HasNet source top s) (bits (variables s.step.definition) e) by (bits-below (variables s.step.definition) e)
  where
    by : (b : Bit) → IsBitOf (variables s.step.definition) b → HasNet source top s b
    by (net n p) h = home-there source top s n p there h
    by (constant at v) h = tt

-- the net of a constant at an input, where the first output is a bit of a net
abbrev the_net : Instance → ℕ → ℕ → List ℕ → ℕ → OwnNet
the_net s k i m q = record { spot = terminal s.step.number k i; scope = s.step.number; name = m; bit = index_at (variable s.step.definition m).range q }

pub in-member : (source : Source) (top : Module) (s : Instance) (x : ℕ × Member) (o : OwnNet) → In s (instances source top) → In x (enumerate_from 0 (members s.step.definition)) → In o (member_nets source s x) → In o (nets source top)
in-member source top s x o there at h =
    in-flat (nets_of source) s o (instances source top) there
    (in-right o (variable_nets source s) (flat_map (member_nets source s) (enumerate_from 0 (members s.step.definition))) (in-flat (member_nets source s) x o (enumerate_from 0 (members s.step.definition)) at h))

pub terminal-there : (source : Source) (top : Module) (s : Instance) (k : ℕ) (x : Member) (m : List ℕ) (q : ℕ) (rest inputs : List Bit) (i : ℕ) (at : Place) (v : Value)
    → In s (instances source top) → In (k, x) (enumerate_from 0 (members s.step.definition)) → member_nets source s (k, x) ≡ terminal_nets s k (net m q ∷ rest) inputs
    → In (i, constant at v) (enumerate_from 0 inputs) → Owns (terminal s.step.number k i) (nets source top)
terminal-there source top s k x m q rest inputs i at v there member is input =
    record {
      owned = the_net s k i m q;
      there = in-member source top s (k, x) (the_net s k i m q) there member (subst (In (the_net s k i m q)) (sym is) made);
      same = refl;
    }
  where
    made : In (the_net s k i m q) (terminal_nets s k (net m q ∷ rest) inputs)
    made = in-flat (terminal_net s k (net m q ∷ rest)) (i, constant at v) (the_net s k i m q) (enumerate_from 0 inputs) input (inl refl)
