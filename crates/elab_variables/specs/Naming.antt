-- The names of variables, each once: what declares them, and what uses them whole.
use Rattle.std.specs.Prelude.{ℕ, List, [], ◌∷◌, ◌++◌, Bool, if◌then◌else◌, Option, Some, None, map, flat_map}
use Rattle.std.specs.Borrow.{Bor}
use Rattle.vl_tree.specs.Tree.{Named, Expression, SpecifyItem, specparams, a_path, pulse_style, a_check}
use Rattle.elab_model.specs.Leaves.{leaves}
use Rattle.elab_model.specs.Members.{Member, check, member_values}
use Rattle.elab_model.specs.Names.{first_of_each, whole_name}

abbrev pub key_texts : List (Bor (List ℕ)) → List (List ℕ)
key_texts keys = map (λ k. k.now) keys

-- the names that are known, and then those of the others that are new, each once
unfoldable pub with_names : List (List ℕ) → List (List ℕ) → List (List ℕ)
with_names known names = known ++ first_of_each known names

-- the names that an expression uses whole
abbrev pub names_in : Expression → List (List ℕ)
names_in e = flat_map whole_name (leaves e)

abbrev pub names_if : Option Expression → List (List ℕ)
names_if None = []
names_if (Some e) = names_in e

-- a net's own name is used where the net is assigned
abbrev pub names_at_net : List ℕ → Option Expression → List (List ℕ)
names_at_net n None = []
names_at_net n (Some e) = n ∷ names_in e

abbrev pub names_of_member : Member → List (List ℕ)
names_of_member m = flat_map names_in (member_values m)

-- a name that is given to a delayed copy, if one is
abbrev pub names_listed : Option Named → List (List ℕ)
names_listed None = []
names_listed (Some n) = n.text ∷ []

-- of what stands in a specify block, a timing check alone
abbrev pub names_of_specify : SpecifyItem → List (List ℕ)
names_of_specify (specparams p ps) = []
names_of_specify (a_path p) = []
names_of_specify (pulse_style p s ts) = []
names_of_specify (a_check c) = names_of_member (check c)

abbrev pub names_where : Bool → List (List ℕ) → List (List ℕ)
names_where b names = if b then names else []
