-- What is looked at of a set of names, and what it says of a tree.
use Rattle.std.specs.Prelude.{◌≡◌, ℕ, ◌<◌, Bool, true, false, not, ◌&&◌, ◌||◌, List, [], ◌∷◌, Option, Some, None, All, length, map, flat_map, refl}
use Rattle.std.specs.List.{list_all}
use Rattle.std.proofs.Common.{◌∙◌, ap, sym, subst, arith}
use Rattle.std.proofs.lemmas.List.Folds.{list_all-append, list_all-map}
use Rattle.std.proofs.lemmas.List.Sums.{AllPass-from_list_all}
use Rattle.vl_tree.specs.Seen.{view_item, view_part}
use Rattle.vl_tree.specs.Tree.{Item, Part, a_module, a_primitive, Source}
use Rattle.vl_tree.specs.declared.modules.Module as code_module
use Rattle.vl_tree.specs.declared.modules.Part as code_part
use Rattle.vl_tree.specs.declared.modules.Part.TheVariants as part
use Rattle.fit_parts.specs.Below.{IsClosedBelow, IsWhole, HoldsName, HoldsTop, Stays, only_top}
use Rattle.fit_parts.specs.Checked.{closes, item_held, stays_among}
use Rattle.fit_parts.specs.Parts.{Heading, heading_seen}
use Rattle.fit_parts.specs.Trees.{defines, name_of, used_by, used_by_item, uses}
use Rattle.fit_parts.specs.declared.parts.Heading as code

-- ---- a set is closed

items-held : (below : List ℕ → Bool) (items : List Item) → list_all (item_held below) items ≡ list_all below (flat_map used_by_item items)
items-held below [] = refl
items-held below (i ∷ is) = ap (λ b. item_held below i && b) (items-held below is) ∙ sym (list_all-append below (used_by_item i) (flat_map used_by_item is))

part-closes : (below : List ℕ → Bool) (p : Part) → closes below p ≡ true → below (name_of p) ≡ true → All (λ n. below n ≡ true) (used_by p)
part-closes below (a_module m) e h =
    AllPass-from_list_all below (flat_map used_by_item m.items)
    (sym (items-held below m.items) ∙ ap (λ b. not b || list_all (item_held below) m.items) (sym h) ∙ e)
part-closes below (a_primitive p) e h = λ k d lt. absurd (omega arith)

-- a module that a set holds, with what it uses
pub closes-too : (below : List ℕ → Bool) (p : code_part.Part) (m : code_module.Module) (held b : Bool) → p ≡ part.Module m → held ≡ below m.name.text.now → held ≡ true
    → b ≡ list_all (λ i. item_held below (view_item i)) m.items.items → b ≡ closes below (view_part p)
closes-too below p m held b is e h all =
    let n : not (below m.name.text.now) ≡ false = ap not (sym e ∙ h) in
    all ∙ sym (list_all-map (item_held below) view_item m.items.items)
    ∙ ap (λ x. x || list_all (item_held below) (map view_item m.items.items)) (sym n) ∙ ap (λ q. closes below (view_part q)) (sym is)

pub all-close : (below : List ℕ → Bool) (parts : List code_part.Part) → list_all (λ p. closes below (view_part p)) parts ≡ true → IsClosedBelow below (map view_part parts)
all-close below parts e k d lt = part-closes below _ (AllPass-from_list_all (closes below) (map view_part parts) (list_all-map (closes below) view_part parts ∙ e) k d lt)

-- ---- parts stay

part-stays : (defined below : List ℕ → Bool) (tree : Source) (o : Option (List ℕ)) → ((n : List ℕ) → defined n ≡ defines tree n) → stays_among defined below o ≡ true → Stays below tree o
part-stays defined below tree None same e = let x : false ≡ true = e in cc
part-stays defined below tree (Some n) same e = λ held. sym (same n) ∙ ap (λ b. not b || defined n) (sym held) ∙ e

pub all-stay : (defined below : List ℕ → Bool) (tree : Source) (read : List code.Heading) → ((n : List ℕ) → defined n ≡ defines tree n)
    → list_all (λ h. stays_among defined below (heading_seen h).name) read ≡ true → All (λ h. Stays below tree h.name) (map heading_seen read)
all-stay defined below tree read same e k d lt =
    part-stays defined below tree _ same
    (AllPass-from_list_all (λ (h : Heading). stays_among defined below h.name) (map heading_seen read) (list_all-map (λ (h : Heading). stays_among defined below h.name) heading_seen read ∙ e) k d lt)

-- ---- the top

pub top-held : (below used : List ℕ → Bool) (tree : Source) (read : List Heading) (name : Option (List ℕ)) → ((n : List ℕ) → used n ≡ uses tree n)
    → name ≡ only_top used read → HoldsName below name → HoldsName below (only_top (uses tree) read)
top-held below used tree read name same e h =
    let f : used ≡ uses tree = λ i n. same n i in
    subst (HoldsName below) (e ∙ ap (λ u. only_top u read) f) h
