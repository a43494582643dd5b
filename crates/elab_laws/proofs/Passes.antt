-- What Passes of assignments and of supplies read and drive has nets.
use Rattle.std.specs.Prelude.{List, [], ◌∷◌, None, flat_map}
use Rattle.std.specs.List.{AllByRecursion}
use Rattle.std.proofs.Common.{subst}
use Rattle.std.proofs.lemmas.List.{append-nil}
use Rattle.sg_logic.specs.declared.values.Value.{Value}
use Rattle.sg_text.specs.declared.places.Place.{Place}
use Rattle.vl_tree.specs.Tree.{Named, Module, Source, Join, signal}
use Rattle.elab_model.specs.Leaves.{whole}
use Rattle.elab_model.specs.Names.{variables}
use Rattle.elab_model.specs.Bits.{Bit, net, constant, leaf_bits}
use Rattle.elab_model.specs.Hierarchy.{Instance, instances}
use Rattle.elab_model.specs.Elements.{pass_to, passes, expression_bits}
use Rattle.elab_model.specs.Nets.{nets}
use Rattle.elab_laws.proofs.Lists.{In, all-append, all-weaker, all-flat_in}
use Rattle.elab_laws.proofs.Terminals.{HasNet, expression-there}
use Rattle.elab_laws.proofs.DrivenNets.{driven-there}
use Rattle.elab_laws.specs.ElementLaws.{HasNets}
use Rattle.elab_laws.proofs.HaveNets.{HaveNets}

pass-has : (source : Source) (top : Module) (s : Instance) (at : Place) (b c : Bit) → In s (instances source top) → HasNet source top s b → HasNet source top s c
    → HaveNets source top (pass_to source s at (b, c))
pass-has source top s at (net n p) (net m q) there h k = (record { output = driven-there source top s n p there h; inputs = (k, tt) }, tt)
pass-has source top s at (net n p) (constant from v) there h k = (record { output = driven-there source top s n p there h; inputs = tt }, tt)
pass-has source top s at (constant from v) c there h k = tt

passes-have : (source : Source) (top : Module) (s : Instance) (at : Place) (left right : List Bit) → In s (instances source top) → AllByRecursion (HasNet source top s) left
    → AllByRecursion (HasNet source top s) right → HaveNets source top (passes source s at left right)
passes-have source top s at [] right there h k = tt
passes-have source top s at (b ∷ left) [] there h k = tt
passes-have source top s at (b ∷ left) (c ∷ right) there h k =
    all-append (HasNets (nets source top)) (pass_to source s at (b, c)) (passes source s at left right)
    (pass-has source top s at b c there h.0 k.0) (passes-have source top s at left right there h.1 k.1)

pub assignment-has : (source : Source) (top : Module) (s : Instance) (j : Join) → In s (instances source top)
    → HaveNets source top (passes source s j.place (expression_bits s j.left) (expression_bits s j.right))
assignment-has source top s j there =
    passes-have source top s j.place (expression_bits s j.left) (expression_bits s j.right) there (expression-there source top s j.left there) (expression-there source top s j.right there)

pub supply-has : (source : Source) (top : Module) (s : Instance) (n : Named) (v : Value) → In s (instances source top)
    → HaveNets source top (flat_map (λ b. pass_to source s n.place (b, constant n.place v)) (leaf_bits (variables s.step.definition) (whole n)))
supply-has source top s n v there =
    let bs = leaf_bits (variables s.step.definition) (whole n) in
    let each : AllByRecursion (HasNet source top s) bs = subst (AllByRecursion (HasNet source top s)) (append-nil bs) (expression-there source top s (signal n None) there) in
    all-flat_in (HasNets (nets source top)) (λ b. pass_to source s n.place (b, constant n.place v)) bs
    (all-weaker (HasNet source top s) (λ b. HaveNets source top (pass_to source s n.place (b, constant n.place v))) bs (λ b h. pass-has source top s n.place b (constant n.place v) there h tt) each)
