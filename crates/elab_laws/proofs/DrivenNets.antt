-- What is driven inside an instance at a bit is a net, and so is what its Paths read and drive.
use Rattle.std.specs.Prelude.{◌≡◌, ℕ, List, Option, Some, None, map, refl}
use Rattle.std.specs.List.{enumerate_from}
use Rattle.sg_text.specs.declared.places.Place.{Place}
use Rattle.vl_tree.specs.Tree.{Module, Source}
use Rattle.elab_model.specs.Elements.{path_at}
use Rattle.elab_model.specs.Ends.{all_ends, first_ends, path_ends, end_at, inner_or, driven}
use Rattle.elab_model.specs.Hierarchy.{Instance, instances}
use Rattle.elab_model.specs.Homes.{Spot, is_same_spot, home_of}
use Rattle.elab_model.specs.Members.{Member, members}
use Rattle.elab_model.specs.Names.{variables}
use Rattle.elab_model.specs.Nets.{nets}
use Rattle.elab_model.specs.Terms.{NetBit}
use Rattle.elab_laws.specs.ElementLaws.{HasNets}
use Rattle.elab_laws.specs.Words.{In, Owns}
use Rattle.elab_laws.proofs.EndBits.{HasNetBit, ends-below}
use Rattle.elab_laws.proofs.Ends.{in-path_ends, in-all_ends}
use Rattle.elab_laws.proofs.HaveNets.{HaveNets}
use Rattle.elab_laws.proofs.Homes.{home-there}
use Rattle.elab_laws.proofs.Inners.{inners-have_nets}
use Rattle.elab_laws.proofs.Lists.{all-in, all-map, found-is, in-flat, all-from}

-- the net itself, or the inner one of a bit with paths
inner-or_there : (source : Source) (top : Module) (s : Instance) (spot : Spot) → In s (instances source top) → Owns spot (nets source top) → Owns (inner_or s spot (end_at source s spot)) (nets source top)
inner-or_there source top s spot there own = by (end_at source s spot) refl
  where
    by : (o : Option NetBit) → end_at source s spot ≡ o → Owns (inner_or s spot o) (nets source top)
    by None e = own
    by (Some b) e =
        let f = found-is (λ b. is_same_spot (home_of source s b.name b.position) spot) (all_ends s.step.definition) b e in
        inners-have_nets source top s b there (in-path_ends s.step.definition b f.there)

pub driven-there : (source : Source) (top : Module) (s : Instance) (n : List ℕ) (p : ℕ) → In s (instances source top)
    → Owns (home_of source s n p) (nets source top) → Owns (driven source s n p) (nets source top)
driven-there source top s n p there own = inner-or_there source top s (home_of source s n p) there own

-- a bit with paths of an instance
path-has : (source : Source) (top : Module) (s : Instance) (at : Place) (b : NetBit) → In s (instances source top) → In b (path_ends s.step.definition) → HasNets (nets source top) (path_at source s at b)
path-has source top s at b there h =
    let m = s.step.definition in
    record {
      output = home-there source top s b.name b.position there (all-in (HasNetBit (variables m)) b (all_ends m) (ends-below m) (in-all_ends m b h));
      inputs = (inners-have_nets source top s b there h, tt);
    }

-- the Paths of a member
pub paths-have : (source : Source) (top : Module) (s : Instance) (at : Place) (x : ℕ × Member) → In s (instances source top) → In x (enumerate_from 0 (members s.step.definition))
    → HaveNets source top (map (path_at source s at) (first_ends s.step.definition x))
paths-have source top s at x there member =
    let m = s.step.definition in
    all-map (HasNets (nets source top)) (path_at source s at) (first_ends m x)
    (all-from (λ b. HasNets (nets source top) (path_at source s at b)) (first_ends m x)
    (λ b h. path-has source top s at b there (in-flat (first_ends m) x b (enumerate_from 0 (members m)) member h)))
