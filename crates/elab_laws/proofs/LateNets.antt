-- What a delayed copy reads and what it drives are nets.
use Rattle.std.specs.Prelude.{◌≡◌, ℕ, true, is_none, Option, Some, None, IfSome, filter, map, refl}
use Rattle.std.specs.List.{enumerate_from}
use Rattle.std.proofs.Common.{ap}
use Rattle.sg_text.specs.declared.places.Place.{Place}
use Rattle.vl_tree.specs.Tree.{Module, Source}
use Rattle.elab_model.specs.Elements.{late_at}
use Rattle.elab_model.specs.Hierarchy.{Instance, instances}
use Rattle.elab_model.specs.Homes.{late}
use Rattle.elab_model.specs.Lates.{DelayedCopy, is_unnamed, spot_by, own_copies, module_copies}
use Rattle.elab_model.specs.Members.{Member, assignment, supply, gate, instance, path, check, members}
use Rattle.elab_model.specs.Names.{variables}
use Rattle.elab_model.specs.Nets.{late_net, member_nets, nets}
use Rattle.elab_model.specs.Terms.{NetBit}
use Rattle.elab_laws.specs.ElementLaws.{HasNets}
use Rattle.elab_laws.specs.LateLaws.{CopiesHaveNets}
use Rattle.elab_laws.specs.Words.{In, Owns}
use Rattle.elab_laws.proofs.CopyBits.{IsCopyOf, copies-below}
use Rattle.elab_laws.proofs.DrivenNets.{driven-there}
use Rattle.elab_laws.proofs.EndBits.{HasNetBit}
use Rattle.elab_laws.proofs.Filters.{in-filter}
use Rattle.elab_laws.proofs.HaveNets.{HaveNets}
use Rattle.elab_laws.proofs.Homes.{home-there}
use Rattle.elab_laws.proofs.Lists.{all-from, all-in, all-map, from-flat, in-flat, in-map}
use Rattle.elab_laws.proofs.Terminals.{in-member}

-- a copy without a name has a net at the check that is the first to ask for it
in-late : (source : Source) (s : Instance) (c : Place × DelayedCopy) (x : ℕ × Member) → In c (own_copies s.step.definition x) → is_unnamed c ≡ true → In (late_net s c.1.signal) (member_nets source s x)
in-late source s c (k, assignment j) h e = absurd h
in-late source s c (k, supply n v) h e = absurd h
in-late source s c (k, gate g d i) h e = absurd h
in-late source s c (k, instance n d i) h e = absurd h
in-late source s c (k, path p) h e = absurd h
in-late source s c (k, check t) h e =
    let own = own_copies s.step.definition (k, check t) in
    in-map (λ c. late_net s c.1.signal) c (filter is_unnamed own) (in-filter is_unnamed c own h e)

late-there : (source : Source) (top : Module) (s : Instance) (c : Place × DelayedCopy) → In s (instances source top) → In c (module_copies s.step.definition) → is_unnamed c ≡ true
    → Owns (late s.step.number c.1.signal.name c.1.signal.position) (nets source top)
late-there source top s c there h e =
    let r = from-flat (own_copies s.step.definition) c (enumerate_from 0 (members s.step.definition)) h in
    record { owned = late_net s c.1.signal; there = in-member source top s r.source (late_net s c.1.signal) there r.there (in-late source s c r.source r.made e); same = refl }

pub copies-have_nets : CopiesHaveNets
copies-have_nets source top s c there h =
    let vs = variables s.step.definition in
    let bits = all-in (λ c. IsCopyOf vs c.1) c (module_copies s.step.definition) (copies-below s.step.definition) h in
    record { signal = home-there source top s c.1.signal.name c.1.signal.position there bits.signal; output = by c.1.named refl bits.named }
  where
    by : (o : Option NetBit) → c.1.named ≡ o → IfSome o (HasNetBit (variables s.step.definition)) → Owns (spot_by source s c.1.signal o) (nets source top)
    by None e k = late-there source top s c there h (ap is_none e)
    by (Some d) e k = driven-there source top s d.name d.position there (home-there source top s d.name d.position there k)

-- the Lates of a member
pub lates-have : (source : Source) (top : Module) (s : Instance) (x : ℕ × Member) → In s (instances source top) → In x (enumerate_from 0 (members s.step.definition))
    → HaveNets source top (map (late_at source s) (own_copies s.step.definition x))
lates-have source top s x there member =
    let m = s.step.definition in
    all-map (HasNets (nets source top)) (late_at source s) (own_copies m x)
    (all-from (λ c. HasNets (nets source top) (late_at source s c)) (own_copies m x)
    (λ c h. let k = copies-have_nets source top s c there (in-flat (own_copies m) x c (enumerate_from 0 (members m)) member h) in record { output = k.output; inputs = (k.signal, tt) }))
