-- What is driven inside in place of an output bit with paths is a net.
use Rattle.std.specs.Prelude.{ℕ}
use Rattle.std.specs.List.{enumerate_from}
use Rattle.std.proofs.Common.{refl}
use Rattle.elab_model.specs.Ends.{first_ends}
use Rattle.elab_model.specs.Hierarchy.{Instance}
use Rattle.elab_model.specs.Members.{Member, assignment, supply, gate, instance, path, check, members}
use Rattle.elab_model.specs.Nets.{inner_net, member_nets}
use Rattle.elab_model.specs.Terms.{NetBit}
use Rattle.elab_laws.specs.NumberLaws.{InnersHaveNets}
use Rattle.elab_laws.proofs.Lists.{In, from-flat, in-map}
use Rattle.elab_laws.proofs.Terminals.{in-member}
use Rattle.vl_tree.specs.Tree.{Source}

in-path : (source : Source) (s : Instance) (b : NetBit) (x : ℕ × Member) → In b (first_ends s.step.definition x) → In (inner_net s b) (member_nets source s x)
in-path source s b (k, assignment j) h = absurd h
in-path source s b (k, supply n v) h = absurd h
in-path source s b (k, gate g d i) h = absurd h
in-path source s b (k, instance n d i) h = absurd h
in-path source s b (k, check t) h = absurd h
in-path source s b (k, path p) h = in-map (inner_net s) b (first_ends s.step.definition (k, path p)) h

pub inners-have_nets : InnersHaveNets
inners-have_nets source top s b there h =
    let r = from-flat (first_ends s.step.definition) b (enumerate_from 0 (members s.step.definition)) h in
    record { owned = inner_net s b; there = in-member source top s r.source (inner_net s b) there r.there (in-path source s b r.source r.made); same = refl }
