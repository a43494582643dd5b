-- The instance that an element of the code's list is.
use Rattle.std.specs.Prelude.{◌≡◌, ℕ, zero, suc, ◌<◌, List, [], ◌∷◌, ◌++◌, Option, Some, None, length, refl, slice_get, slice_index_or}
use Rattle.std.proofs.Common.{sym, ◌∙◌, ap, subst, arith}
use Rattle.std.proofs.lemmas.List.{get_or_at}
use Rattle.sg_delay.specs.declared.corners.Corner.{Corner}
use Rattle.vl_tree.specs.Tree.{Module, Source}
use Rattle.elab_model.specs.Hierarchy.{Instance, instances_from, top_instance, levels_below_top}
use Rattle.elab_model.specs.Nets.{OwnNet}
use Rattle.elab_hierarchy.specs.declared.instances.Placed.{Placed}
use Rattle.elab_hierarchy.specs.Placing.{IsPlaced, ArePlaced}
use Rattle.elab_nets.specs.Library.{Library}
use Rattle.elab_nets.specs.declared.rows.Rows.{Rows}
use Rattle.elab_scopes.specs.Here.{AreRead, Stands}

pub record PlacedAt (source : Source) (p : Placed) (i : ℕ) (ss : List Instance) : Type 0 where
  pub own : Instance
  pub before : List Instance
  pub after : List Instance
  pub there : ss ≡ before ++ own ∷ after
  pub count : i ≡ length before
  pub is_placed : IsPlaced source p own

pub placed-at : (source : Source) (ps : List Placed) (ss : List Instance) (i : ℕ) (p : Placed) → i < length ps → p ≡ slice_index_or ps i p → ArePlaced source ps ss → PlacedAt source p i ss
placed-at source [] ss i p lt e h = absurd (omega arith)
placed-at source (q ∷ ps) [] i p lt e h = absurd h
placed-at source (q ∷ ps) (s ∷ ss) zero p lt e h =
    record { own = s; before = []; after = ss; there = refl; count = refl; is_placed = subst (λ x. IsPlaced source x s) (sym e) h.0 }
placed-at source (q ∷ ps) (s ∷ ss) (suc i) p lt e h =
    let r = placed-at source ps ss i p (omega arith) e h.1 in
    record { own = r.own; before = s ∷ r.before; after = r.after; there = ap (λ xs. s ∷ xs) r.there; count = ap suc r.count; is_placed = r.is_placed }

pub placed-length : (source : Source) (ps : List Placed) (ss : List Instance) → ArePlaced source ps ss → length ps ≡ length ss
placed-length source [] [] h = refl
placed-length source [] (s ∷ ss) h = absurd h
placed-length source (p ∷ ps) [] h = absurd h
placed-length source (p ∷ ps) (s ∷ ss) h = ap suc (placed-length source ps ss h.1)

pub own-at : (source : Source) (p : Placed) (i : ℕ) (ss : List Instance) (r : PlacedAt source p i ss) → slice_index_or ss i r.own ≡ r.own
own-at source p i ss r = ap (λ xs. slice_index_or xs i r.own) r.there ∙ get_or_at r.before r.own r.after r.own i (sym r.count)

pub below-length : (source : Source) (ps : List Placed) (ss : List Instance) (i : ℕ) → i < length ps → ArePlaced source ps ss → i < length ss
below-length source ps ss i lt h = subst (λ n. i < n) (placed-length source ps ss h) lt

pub stands-at : (source : Source) (top : Module) (corner : Corner) (library : Library) (rows : Rows) (ss : List Instance) (all : List OwnNet) (p : Placed) (i : ℕ) (r : PlacedAt source p i ss)
    → AreRead source top corner library rows ss all → Stands source top corner library rows ss all i p r.own
stands-at source top corner library rows ss all p i r h =
    record { are_read = h; is_placed = r.is_placed; before = r.before; after = r.after; there = r.there; count = r.count }

-- the first is the top
starts : (source : Source) (levels : ℕ) (s : Instance) → (rest : List Instance) × (instances_from source levels s ≡ s ∷ rest)
starts source zero s = ([], refl)
starts source (suc levels) s = (_, refl)

first-placed : (source : Source) (ps : List Placed) (p : Placed) (s : Instance) (ss : List Instance) → slice_get ps 0 ≡ Some p → ArePlaced source ps (s ∷ ss) → IsPlaced source p s
first-placed source [] p s ss e h = absurd h
first-placed source (q ∷ ps) p s ss e h = let f : q ≡ p = cc in subst (λ x. IsPlaced source x s) f h.0

pub stands-first : (source : Source) (top : Module) (corner : Corner) (library : Library) (rows : Rows) (ss : List Instance) (all : List OwnNet) (ps : List Placed) (p : Placed)
    → slice_get ps 0 ≡ Some p → AreRead source top corner library rows ss all → ArePlaced source ps ss → Stands source top corner library rows ss all 0 p (top_instance top)
stands-first source top corner library rows ss all ps p e h k =
    let (rest, f) = starts source levels_below_top (top_instance top) in
    let g : ss ≡ top_instance top ∷ rest = h.are_instances ∙ f in
    record { are_read = h; is_placed = first-placed source ps p (top_instance top) rest e (subst (ArePlaced source ps) g k); before = []; after = rest; there = g; count = refl }

pub some-first : (source : Source) (top : Module) (corner : Corner) (library : Library) (rows : Rows) (ss : List Instance) (all : List OwnNet) (ps : List Placed) → slice_get ps 0 ≡ None
    → AreRead source top corner library rows ss all → ArePlaced source ps ss → ⊥
some-first source top corner library rows ss all [] e h k =
    let (rest, f) = starts source levels_below_top (top_instance top) in
    let g : ss ≡ top_instance top ∷ rest = h.are_instances ∙ f in
    subst (ArePlaced source []) g k
some-first source top corner library rows ss all (q ∷ ps) e h k = let f : ◌≡◌ {A = Option Placed} (Some q) None = e in cc
