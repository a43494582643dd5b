-- How many instances there are below one, and which come where.
use Rattle.std.specs.Prelude.{◌≡◌, ℕ, zero, suc, ◌+◌, List, [], ◌∷◌, ◌++◌, flat_map, length, refl}
use Rattle.std.proofs.Common.{sym, ◌∙◌, ap}
use Rattle.std.proofs.lemmas.List.{length-map}
use Rattle.std.proofs.lemmas.List.FromFn.{length-range_with_len}
use Rattle.elab_laws.proofs.Numbers.{number, numbers-below}
use Rattle.elab_model.specs.Hierarchy.{Instance, Child, size, children_from, instances_from, text_of}
use Rattle.elab_hierarchy.specs.Growing.{below}
use Rattle.vl_tree.specs.Tree.{Source}

pub size-is : (source : Source) (n : ℕ) (s : Instance) → length (instances_from source n s) ≡ size source n s.step.definition
size-is source n s = sym (length-map (instances_from source n s) number) ∙ ap length (numbers-below source n s) ∙ length-range_with_len (number s) (size source n s.step.definition)

-- an instance, and those below it
pub with-below : (source : Source) (n : ℕ) (s : Instance) → instances_from source n s ≡ s ∷ below source n s
with-below source zero s = refl
with-below source (suc n) s = refl

-- the instances below it from some children on, of which the first has the number next
abbrev pub below_from : Source → ℕ → Instance → ℕ → List Child → List Instance
below_from source zero s next cs = []
below_from source (suc d) s next cs = flat_map (instances_from source d) (children_from source d (s.step ∷ s.above) next cs)

pub none-below : (source : Source) (n : ℕ) (s : Instance) (next : ℕ) → below_from source n s next [] ≡ []
none-below source zero s next = refl
none-below source (suc d) s next = refl

-- the instance that a child is
abbrev pub child_instance : ℕ → Instance → Child → ℕ → Instance
child_instance d s c next = record {
  step = record { definition = c.definition; name = text_of c.name; place = c.place; member = c.member; connections = c.connections; number = next; levels = d };
  above = s.step ∷ s.above;
}

pub child-below : (source : Source) (d : ℕ) (s : Instance) (next : ℕ) (c : Child) (cs : List Child)
    → below_from source (suc d) s next (c ∷ cs) ≡ instances_from source d (child_instance d s c next) ++ below_from source (suc d) s (next + size source d c.definition) cs
child-below source d s next c cs = refl
