-- A fault of one of several instances is one of the faults of the tree.
use Rattle.std.specs.Prelude.{◌≡◌, ℕ, zero, suc, ◌+◌, ◌≤◌, List, [], ◌∷◌, ◌++◌, flat_map, length, drop, refl}
use Rattle.std.proofs.Common.{sym, ◌∙◌, ap, arith, inl, inr, subst}
use Rattle.std.specs.List.{IsAmong}
use Rattle.std.proofs.Math.Seq.{drop-append_seam}
use Rattle.std.proofs.lemmas.Grind.{flat_map-append}
use Rattle.sg_text.specs.declared.places.Place.{Place}
use Rattle.sg_text.specs.declared.refusals.Refused.{Refused}
use Rattle.sg_text.specs.declared.refusals.Refused.TheVariants as refused
use Rattle.vl_tree.specs.Tree.{Source}
use Rattle.elab_model.specs.declared.kinds.ElabKind.{ElabKind}
use Rattle.elab_model.specs.declared.kinds.ElabKind.TheVariants.{TooMany}
use Rattle.elab_model.specs.Faults.{Fault, fault, RefusesOneOf}
use Rattle.elab_model.specs.Hierarchy.{Child, Instance}
use Rattle.elab_model.specs.HierarchyFaults.{self_instances, past_limit, first_too_deep, first_too_many, count_limit}
use Rattle.elab_declared.proofs.Refusals.{refused-left, refused-right}
use Rattle.elab_hierarchy.specs.Growing.{AreFaultless, Breaks}

closes-round : (source : Source) (before after : List Instance) (at : Instance) (r : Refused ElabKind) → RefusesOneOf (self_instances source at) r
    → RefusesOneOf (flat_map (self_instances source) (before ++ at ∷ after)) r
closes-round source [] after at r h = refused-left (self_instances source at) (flat_map (self_instances source) after) r h
closes-round source (x ∷ before) after at r h =
    refused-right (self_instances source x) (flat_map (self_instances source) (before ++ at ∷ after)) r (closes-round source before after at r h)

first-of : (cs ds : List Child) (f : Fault) → IsAmong (first_too_deep cs) f → IsAmong (first_too_deep (cs ++ ds)) f
first-of [] ds f (i, (lt, e)) = absurd (omega arith)
first-of (c ∷ cs) ds f h = h

first-deep : (source : Source) (before after : List Instance) (at : Instance) (f : Fault) → flat_map (past_limit source) before ≡ [] → IsAmong (first_too_deep (past_limit source at)) f
    → IsAmong (first_too_deep (flat_map (past_limit source) (before ++ at ∷ after))) f
first-deep source before after at f none h =
    let is : flat_map (past_limit source) (before ++ at ∷ after) ≡ past_limit source at ++ flat_map (past_limit source) after =
    flat_map-append (past_limit source) before (at ∷ after) ∙ ap (λ xs. xs ++ flat_map (past_limit source) (at ∷ after)) none in
    subst (λ cs. IsAmong (first_too_deep cs) f) (sym is) (first-of (past_limit source at) (flat_map (past_limit source) after) f h)

first-past : (list before after : List Instance) (at : Instance) (limit : ℕ) (kind : ElabKind) (place : Place) → list ≡ before ++ at ∷ after → length before ≡ limit → kind ≡ TooMany → place ≡ at.step.place
    → RefusesOneOf (first_too_many (drop limit list)) (refused.Fault kind place)
first-past list before after at limit kind place cut e k p =
    let left : drop limit list ≡ at ∷ after = ap (drop limit) cut ∙ ap (λ n. drop n (before ++ at ∷ after)) (sym e) ∙ drop-append_seam before (at ∷ after) in
    subst (λ xs. RefusesOneOf (first_too_many xs) (refused.Fault kind place)) (sym left)
    (0, (omega arith, ap (λ x. fault x place) k ∙ ap (fault TooMany) p))

pub breaks-tree : (source : Source) (list : List Instance) (r : Refused ElabKind) → Breaks source 0 list r
    → RefusesOneOf (flat_map (self_instances source) list ++ (first_too_deep (flat_map (past_limit source) list) ++ first_too_many (drop count_limit list))) r
breaks-tree source list refused.NoMemory h = tt
breaks-tree source list (refused.Fault kind place) h =
    let self = flat_map (self_instances source) list in
    let deep = first_too_deep (flat_map (past_limit source) list) in
    let many = first_too_many (drop count_limit list) in
    let r = refused.Fault kind place in
    elim h.fails [
      | inl f ↦ refused-left self (deep ++ many) r
          (subst (λ xs. RefusesOneOf (flat_map (self_instances source) xs) r) (sym h.cut) (closes-round source h.before h.after h.at r f))
      | inr (inl f) ↦ refused-right self (deep ++ many) r (refused-left deep many r
          (subst (λ xs. IsAmong (first_too_deep (flat_map (past_limit source) xs)) (fault kind place)) (sym h.cut) (first-deep source h.before h.after h.at (fault kind place) f.0 f.1)))
      | inr (inr g) ↦ refused-right self (deep ++ many) r (refused-right deep many r
          (first-past list h.before h.after h.at count_limit kind place h.cut (let q : 0 + length h.before ≡ count_limit = g.0 in omega arith) g.1 g.2))
    ]

none-past : (list : List Instance) (limit : ℕ) → length list ≤ limit → drop limit list ≡ []
none-past [] zero h = refl
none-past [] (suc n) h = refl
none-past (x ∷ xs) zero h = absurd (omega arith)
none-past (x ∷ xs) (suc n) h = none-past xs n (omega arith)

pub no-fault : (source : Source) (list : List Instance) (limit : ℕ) → AreFaultless source list → length list ≤ limit
    → flat_map (self_instances source) list ++ (first_too_deep (flat_map (past_limit source) list) ++ first_too_many (drop limit list)) ≡ []
no-fault source list limit e h =
    let many = first_too_many (drop limit list) in
    ap (λ xs. xs ++ (first_too_deep (flat_map (past_limit source) list) ++ many)) e.0 ∙ ap (λ cs. first_too_deep cs ++ many) e.1 ∙ ap first_too_many (none-past list limit h)
