-- The ends of a small module.
use Rattle.std.specs.Prelude.{◌≡◌, ℕ, List, [], ◌∷◌, Some, None, codes, false, map, negsuc, pos, refl, true}
use Rattle.sg_text.specs.declared.places.Place.{Place}
use Rattle.vl_tree.specs.declared.names.Direction.{Direction}
use Rattle.vl_tree.specs.declared.names.Direction.TheVariants.{Input, Output}
use Rattle.vl_tree.specs.declared.paths.Arrow.{Arrow}
use Rattle.vl_tree.specs.declared.paths.Arrow.TheVariants.{Parallel, Full}
use Rattle.vl_tree.specs.Tree.{Named, Item, ports, Term, one_amount, a_number, always, SpecifyItem, a_path, specify_block, head_names, Module}
use Rattle.elab_model.specs.Ends.{path_ends}
use Rattle.elab_model.specs.Terms.{NetBit}
use Rattle.elab_ends.specs.Ends.{ends_before}

abbrev here : Place
here = record { file = 0; byte = 0 }

abbrev name : List ℕ → Named
name t = record { text = t; place = here }

abbrev ports_of : Direction → List (List ℕ) → Item
ports_of d ns = ports here d None None (map name ns)

abbrev terms : List (List ℕ) → List Term
terms ns = map (λ n. record { name = name n; select = None }) ns

abbrev path_of : List (List ℕ) → Arrow → List (List ℕ) → SpecifyItem
path_of is arrow os = a_path (record {
  place = here;
  condition = always;
  edge = None;
  sources = terms is;
  polarity = None;
  arrow = arrow;
  destination = record { terms = terms os; source = None };
  delays = one_amount (a_number here (record { negative = false; digits = 1; exponent = pos 0 })) ∷ [];
})

-- module m (y, z, a, b); output y, z; input a, b; specify (a *> y, z) = 1; (b => y) = 1; endspecify endmodule
abbrev example : Module
example = record {
  place = here;
  settings = record { scale = record { unit = negsuc 8; precision = negsuc 8 }; cell = false; implicit = true };
  name = name (codes "m");
  head = Some (Some (head_names (map name (codes "y" ∷ codes "z" ∷ codes "a" ∷ codes "b" ∷ []))));
  items = ports_of Output (codes "y" ∷ codes "z" ∷ []) ∷ ports_of Input (codes "a" ∷ codes "b" ∷ [])
      ∷ specify_block (record { place = here; items = path_of (codes "a" ∷ []) Full (codes "y" ∷ codes "z" ∷ []) ∷ path_of (codes "b" ∷ []) Parallel (codes "y" ∷ []) ∷ [] }) ∷ [];
}

abbrev bit : List ℕ → NetBit
bit n = record { name = n; position = 0 }

both_once : path_ends example ≡ bit (codes "y") ∷ bit (codes "z") ∷ []
both_once = refl

-- the second path leads to none that the first doesn't
where_they_begin : map (ends_before example) (0 ∷ 1 ∷ 2 ∷ []) ≡ 0 ∷ 2 ∷ 2 ∷ []
where_they_begin = refl
