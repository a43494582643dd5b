-- The code's list of instances, beside the instances.
use Rattle.std.specs.Prelude.{◌≡◌, ℕ, zero, suc, ◌<◌, List, [], ◌∷◌, ◌++◌, length, slice_index_or, refl}
use Rattle.std.proofs.Common.{ap, arith, drop}
use Rattle.vl_tree.specs.Tree.{Source}
use Rattle.elab_model.specs.Hierarchy.{Instance}
use Rattle.elab_hierarchy.specs.Placing.{IsPlaced, ArePlaced}
use Rattle.elab_hierarchy.specs.declared.instances.Placed.{Placed}

-- the instance at a place of the list
pub record PlacedAt (source : Source) (ps : List Placed) (ss : List Instance) (i : ℕ) (p : Placed) : Type 0 where
  pub instance : Instance
  pub cut : drop i ss ≡ instance ∷ drop (suc i) ss
  pub is : IsPlaced source p instance

pub placed-at : (source : Source) (d : Placed) (ps : List Placed) (ss : List Instance) (i : ℕ) → ArePlaced source ps ss → i < length ps → PlacedAt source ps ss i (slice_index_or ps i d)
placed-at source d [] ss i h lt = absurd (omega arith)
placed-at source d (p ∷ ps) [] i h lt = absurd h
placed-at source d (p ∷ ps) (s ∷ ss) zero h lt = record { instance = s; cut = refl; is = h.0 }
placed-at source d (p ∷ ps) (s ∷ ss) (suc i) h lt = let r = placed-at source d ps ss i h.1 (omega arith) in record { instance = r.instance; cut = r.cut; is = r.is }

pub placed-end : (source : Source) (ps : List Placed) (ss : List Instance) → ArePlaced source ps ss → drop (length ps) ss ≡ []
placed-end source [] [] h = refl
placed-end source [] (s ∷ ss) h = absurd h
placed-end source (p ∷ ps) [] h = absurd h
placed-end source (p ∷ ps) (s ∷ ss) h = placed-end source ps ss h.1

pub placed-length : (source : Source) (ps : List Placed) (ss : List Instance) → ArePlaced source ps ss → length ps ≡ length ss
placed-length source [] [] h = refl
placed-length source [] (s ∷ ss) h = absurd h
placed-length source (p ∷ ps) [] h = absurd h
placed-length source (p ∷ ps) (s ∷ ss) h = ap suc (placed-length source ps ss h.1)

pub placed-append : (source : Source) (ps qs : List Placed) (ss ts : List Instance) → ArePlaced source ps ss → ArePlaced source qs ts → ArePlaced source (ps ++ qs) (ss ++ ts)
placed-append source [] qs [] ts h k = k
placed-append source [] qs (s ∷ ss) ts h k = absurd h
placed-append source (p ∷ ps) qs [] ts h k = absurd h
placed-append source (p ∷ ps) qs (s ∷ ss) ts h k = (h.0, placed-append source ps qs ss ts h.1 k)
