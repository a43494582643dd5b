-- Where no step of elaboration finds a fault, none stands below the top.
use Rattle.std.specs.Prelude.{◌≡◌, ℕ, ◌≤◌, List, [], ◌∷◌, ◌++◌, false, flat_map, length, drop, nat_lt, refl}
use Rattle.std.specs.List.{AllByRecursion}
use Rattle.std.proofs.Common.{◌∙◌, ap, arith}
use Rattle.std.proofs.lemmas.Bool.Decides.{nat_tests}
use Rattle.sg_delay.specs.declared.corners.Corner.{Corner}
use Rattle.vl_tree.specs.Tree.{Module, Source}
use Rattle.elab_model.specs.declared.kinds.ElabKind.TheVariants.{TooMany}
use Rattle.elab_model.specs.Delays.{tick_of}
use Rattle.elab_model.specs.Faults.{fault_if}
use Rattle.elab_model.specs.Drivers.{elements}
use Rattle.elab_model.specs.Hierarchy.{instances}
use Rattle.elab_model.specs.HierarchyFaults.{self_instances, too_deep, first_too_many, count_limit, start, instance_faults_below}
use Rattle.circuit_model.specs.CheckUses.{check_uses}
use Rattle.circuit_model.specs.Faults.{path_faults, path_count, check_faults, over, too_many, driver_faults, faults_below}
use Rattle.elab_model.specs.ModuleFaults.{module_faults}
use Rattle.elab_model.specs.Nets.{nets}
use Rattle.elab_laws.specs.Laws.{AreSound}
use Rattle.elab_laws.proofs.NoFaults.{front, back, flat-empty}
use Rattle.elab_hierarchy.specs.Placing.{tree_faults}

both-empty : {A : Type 0} (xs ys : List A) → xs ≡ [] → ys ≡ [] → xs ++ ys ≡ []
both-empty xs ys e f = ap (λ zs. zs ++ ys) e ∙ f

all-empty : {A B : Type 0} (f : A → List B) (xs : List A) → AllByRecursion (λ x. f x ≡ []) xs → flat_map f xs ≡ []
all-empty f [] h = refl
all-empty f (x ∷ xs) h = both-empty (f x) (flat_map f xs) h.0 (all-empty f xs h.1)

all-both : {A : Type 0} (P Q R : A → Type 0) (xs : List A) → ((x : A) → P x → Q x → R x) → AllByRecursion P xs → AllByRecursion Q xs → AllByRecursion R xs
all-both P Q R [] f h g = tt
all-both P Q R (x ∷ xs) f h g = (f x h.0 g.0, all-both P Q R xs f h.1 g.1)

within : (l n : ℕ) → n ≤ l → nat_lt l n ≡ false
within l n le = grind (arith, nat_tests)

none-past : (n : ℕ) → n ≤ count_limit → over n ≡ []
none-past n le = ap (λ b. fault_if b TooMany start) (within count_limit n le)

pub faultless-below : (source : Source) (top : Module) (corner : Corner) → tree_faults source top ≡ [] → AreSound source top corner → path_faults source top corner ≡ [] → check_faults source top corner ≡ []
    → length (nets source top) ≤ count_limit → length (elements source top corner) ≤ count_limit → path_count source top corner ≤ count_limit → length (check_uses source top corner) ≤ count_limit
    → driver_faults source top corner ≡ [] → faults_below source top corner ≡ []
faultless-below source top corner tree sound paths checks few_nets few_elements few_paths few_checks drivers =
    let own = flat_map (self_instances source) (instances source top) in
    let deep = too_deep source top in
    let scopes = first_too_many (drop count_limit (instances source top)) in
    let later : deep ++ scopes ≡ [] = back own (deep ++ scopes) tree in
    let each = flat-empty (self_instances source) (instances source top) (front own (deep ++ scopes) tree) in
    let many_nets = over (length (nets source top)) in
    let many_elements = over (length (elements source top corner)) in
    let many_paths = over (path_count source top corner) in
    let many_checks = over (length (check_uses source top corner)) in
    let counted = too_many source top corner ++ driver_faults source top corner in
    let checked = check_faults source top corner ++ counted in
    both-empty (flat_map (instance_faults_below source top corner) (instances source top)) (deep ++ (path_faults source top corner ++ checked))
    (all-empty (instance_faults_below source top corner) (instances source top)
    (all-both (λ s. self_instances source s ≡ []) (λ s. module_faults source corner (tick_of source top) s.step.definition ≡ []) (λ s. instance_faults_below source top corner s ≡ []) (instances source top)
    (λ s e f. both-empty (self_instances source s) (module_faults source corner (tick_of source top) s.step.definition) e f) each sound))
    (both-empty deep (path_faults source top corner ++ checked) (front deep scopes later)
    (both-empty (path_faults source top corner) checked paths
    (both-empty (check_faults source top corner) counted checks
    (both-empty (too_many source top corner) (driver_faults source top corner)
    (both-empty scopes (many_nets ++ (many_elements ++ (many_paths ++ many_checks))) (back deep scopes later)
    (both-empty many_nets (many_elements ++ (many_paths ++ many_checks)) (none-past (length (nets source top)) few_nets)
    (both-empty many_elements (many_paths ++ many_checks) (none-past (length (elements source top corner)) few_elements)
    (both-empty many_paths many_checks (none-past (path_count source top corner) few_paths) (none-past (length (check_uses source top corner)) few_checks)))))
    drivers))))
