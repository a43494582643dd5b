-- What a hierarchy without faults has: no instance in it closes a round, none is past the limit of levels, and there are not too many.
use Rattle.std.specs.Prelude.{◌≡◌, List, [], ◌∷◌, ◌++◌, ◌==◌, flat_map, drop, refl, if◌then◌else◌}
use Rattle.std.proofs.Common.{sym, ◌∙◌, ap}
use Rattle.vl_tree.specs.Tree.{Module, Source}
use Rattle.elab_laws.specs.Words.{In}
use Rattle.elab_laws.proofs.Lists.{all-in}
use Rattle.elab_laws.proofs.NoFaults.{front, back, flat-empty}
use Rattle.elab_model.specs.Hierarchy.{Child, Instance, children_in, instances}
use Rattle.elab_model.specs.HierarchyFaults.{self_instances, past_limit, first_too_deep, too_deep, first_too_many, count_limit}
use Rattle.elab_hierarchy.specs.Placing.{tree_faults}

abbrev past_count : Source → Module → List Instance
past_count source top = drop count_limit (instances source top)

pub closes-no_round : (source : Source) (top : Module) → tree_faults source top ≡ [] → flat_map (self_instances source) (instances source top) ≡ []
closes-no_round source top h = front (flat_map (self_instances source) (instances source top)) (too_deep source top ++ first_too_many (past_count source top)) h

limits-hold : (source : Source) (top : Module) → tree_faults source top ≡ [] → too_deep source top ++ first_too_many (past_count source top) ≡ []
limits-hold source top h = back (flat_map (self_instances source) (instances source top)) (too_deep source top ++ first_too_many (past_count source top)) h

pub not-too_deep : (source : Source) (top : Module) → tree_faults source top ≡ [] → too_deep source top ≡ []
not-too_deep source top h = front (too_deep source top) (first_too_many (past_count source top)) (limits-hold source top h)

pub not-too_many : (source : Source) (top : Module) → tree_faults source top ≡ [] → first_too_many (drop count_limit (instances source top)) ≡ []
not-too_many source top h = back (too_deep source top) (first_too_many (past_count source top)) (limits-hold source top h)

-- an instance closes no round with those in it
pub own-rounds_none : (source : Source) (top : Module) (s : Instance) → tree_faults source top ≡ [] → In s (instances source top) → self_instances source s ≡ []
own-rounds_none source top s h there =
    all-in (λ t. self_instances source t ≡ []) s (instances source top) (flat-empty (self_instances source) (instances source top) (closes-no_round source top h)) there

none-first : (cs : List Child) → first_too_deep cs ≡ [] → cs ≡ []
none-first [] e = refl
none-first (c ∷ cs) e = cc

-- nothing in an instance is past the limit of levels
pub none-past_limit : (source : Source) (top : Module) (s : Instance) → tree_faults source top ≡ [] → In s (instances source top) → past_limit source s ≡ []
none-past_limit source top s h there =
    let none = none-first (flat_map (past_limit source) (instances source top)) (not-too_deep source top h) in
    all-in (λ t. past_limit source t ≡ []) s (instances source top) (flat-empty (past_limit source) (instances source top) none) there

-- an instance of the last level has no children
pub no-children_at_limit : (source : Source) (top : Module) (s : Instance) → tree_faults source top ≡ [] → In s (instances source top) → s.step.levels ≡ 0 → children_in source s.step.definition ≡ []
no-children_at_limit source top s h there e =
    sym (ap (λ l. if l == 0 then children_in source s.step.definition else []) e) ∙ none-past_limit source top s h there
