-- The turn of an instance: its own nets and its inner row.
use Rattle.std.specs.Prelude.{◌≡◌, ℕ, suc, ◌+◌, ◌<◌, ◌≤◌, List, [], ◌∷◌, ◌++◌, Bool, Option, Some, None, flat_map, length, map, slice_get, take, refl}
use Rattle.std.specs.List.{AllByRecursion}
use Rattle.std.proofs.Common.{sym, ◌∙◌, ap, arith, length-append}
use Rattle.std.proofs.lemmas.Grind.{flat_map-append}
use Rattle.sg_delay.specs.declared.corners.Corner.{Corner}
use Rattle.sg_text.specs.declared.refusals.Refused.{Refused}
use Rattle.vl_tree.specs.Tree.{Module, Source}
use Rattle.elab_model.specs.declared.kinds.ElabKind.{ElabKind}
use Rattle.elab_model.specs.Hierarchy.{Step, Instance, instances, is_leaf}
use Rattle.elab_model.specs.Names.{Variable, variables}
use Rattle.elab_model.specs.Nets.{nets, nets_of, variable_nets, member_nets}
use Rattle.elab_laws.specs.Handing.{all_bits, numbered, new_count, given_at, number_at, IsHandedDown}
use Rattle.elab_laws.specs.Laws.{AreSound}
use Rattle.elab_laws.proofs.Lists.{In, all-in}
use Rattle.elab_laws.proofs.Handed.{Rises, instances-rise}
use Rattle.elab_laws.proofs.Stated.{numbers-are_handed_down}
use Rattle.elab_numbering.specs.Refusals.{RefusesCount}
use Rattle.elab_nets.specs.Outside.{outer_number}
use Rattle.elab_nets.specs.Own.{given_row, new_nets}
use Rattle.elab_nets.specs.Parts.{IsRow}
use Rattle.elab_nets.specs.Rows.{part_of}
use Rattle.elab_nets.specs.Turns.{IsBegun, IsDue, IsMine, bits_of, members_of}
use Rattle.elab_model.specs.Numbered.{undriven}
use Rattle.elab_nets.specs.declared.rows.Rows.{Rows}
use Rattle.elab_nets.proofs.ChildRows.{refuses-more}
use Rattle.elab_nets.proofs.GivenRows.{outside-given}
use Rattle.elab_nets.proofs.HandedNets.{own-nets}
use Rattle.elab_nets.proofs.Placings.{is-there}

-- an instance lies in one with a lower number
pub own-due : (source : Source) (top : Module) (s : Instance) → In s (instances source top) → (count : ℕ) → s.step.number ≡ count → IsDue count s.above
own-due source top s there count e = by s.above (all-in Rises s (instances source top) (instances-rise source top) there)
  where
    by : (above : List Step) → AllByRecursion (λ a. a.number < s.step.number) above → IsDue count above
    by [] h = tt
    by (p ∷ above) h = let lt : p.number < s.step.number = h.0 in omega arith

pub front-is : {A : Type 0} (before after : List A) (s : A) → take (length before) (before ++ s ∷ after) ≡ before
front-is [] after s = refl
front-is (x ∷ xs) after s = ap (λ ys. x ∷ ys) (front-is xs after s)

pub front-next : {A : Type 0} (before after : List A) (s : A) → take (length before + 1) (before ++ s ∷ after) ≡ before ++ s ∷ []
front-next [] after s = refl
front-next (x ∷ xs) after s =
    let n : suc (length xs) + 1 ≡ suc (length xs + 1) = omega arith in
    ap (λ k. take k (x ∷ (xs ++ s ∷ after))) n ∙ ap (λ ys. x ∷ ys) (front-next xs after s)

module _ (source : Source) (top : Module) (corner : Corner) (sound : AreSound source top corner) (before after : List Instance) (s : Instance) (here : instances source top ≡ before ++ s ∷ after)
    (table : List Variable) (leaf : Bool) (outside : List (Option ℕ)) (count : ℕ) (table_is : table ≡ variables s.step.definition) (leaf_is : is_leaf source s ≡ leaf)
    (outside_is : outside ≡ map (outer_number (nets source top) source s.step s.above) (bits_of s)) (count_is : count ≡ length (flat_map (nets_of source) before)) where
  -- the bits are given what is handed down
  given-is : given_row leaf (all_bits table) outside ≡ map (given_at (nets source top) source s) (bits_of s)
  given-is =
      ap (λ b. given_row b (all_bits table) outside) (sym leaf_is) ∙ ap (λ vs. given_row (is_leaf source s) (all_bits vs) outside) table_is ∙ ap (given_row (is_leaf source s) (bits_of s)) outside_is
      ∙ sym (outside-given (nets source top) source top corner sound s (is-there source top before after s here))

  handed : IsHandedDown source top s (length (flat_map (nets_of source) before))
  handed = numbers-are_handed_down source top corner before after s sound here

  pub inner-is : numbered count (given_row leaf (all_bits table) outside) ≡ map (number_at (nets source top) source s) (bits_of s)
  inner-is = ap (numbered count) given-is ∙ ap (λ n. numbered n (map (given_at (nets source top) source s) (bits_of s))) count_is ∙ sym handed.numbers

  pub nets-made : (number : ℕ) → s.step.number ≡ number → new_nets number (all_bits table) (given_row leaf (all_bits table) outside) ≡ map undriven (variable_nets source s)
  nets-made number e =
      ap (new_nets number (all_bits table)) given-is ∙ ap (λ vs. new_nets number (all_bits vs) (map (given_at (nets source top) source s) (bits_of s))) table_is
      ∙ ap (λ n. new_nets n (bits_of s) (map (given_at (nets source top) source s) (bits_of s))) (sym e)
      ∙ sym (own-nets (nets source top) source s (all-in Rises s (instances source top) (instances-rise source top) (is-there source top before after s here)))

  pub own-refused : (r : Refused ElabKind) → RefusesCount (count + new_count (given_row leaf (all_bits table) outside)) r → RefusesCount (length (nets source top)) r
  own-refused r h =
      let n : new_count (given_row leaf (all_bits table) outside) ≡ length (variable_nets source s) = ap new_count given-is ∙ handed.count in
      let a = flat_map (nets_of source) before in
      let m = flat_map (member_nets source s) (members_of s) in
      let z = flat_map (nets_of source) after in
      let l1 : length (nets source top) ≡ length (a ++ ((variable_nets source s ++ m) ++ z)) = ap length (ap (flat_map (nets_of source)) here ∙ flat_map-append (nets_of source) before (s ∷ after)) in
      let l2 = length-append a ((variable_nets source s ++ m) ++ z) in
      let l3 = length-append (variable_nets source s ++ m) z in
      let l4 = length-append (variable_nets source s) m in
      refuses-more (count + new_count (given_row leaf (all_bits table) outside)) (length (nets source top)) r (omega arith) h

-- ---- the outer row is found

pub outer-row : (source : Source) (top : Module) (corner : Corner) (rows : Rows) (table : List Variable) (number : ℕ) (leaf : Bool) (mine : IsMine source top corner rows table number leaf) (starts : List ℕ) (numbers : List (Option ℕ)) (width : ℕ)
    (part : Option (List (Option ℕ))) → starts ≡ rows.outer_starts.items → numbers ≡ rows.outer.items → width ≡ length (all_bits table) → IsRow starts numbers number width part
    → part ≡ Some (map (outer_number (nets source top) source mine.s.step mine.s.above) (bits_of mine.s))
outer-row source top corner rows table number leaf mine starts numbers width part e f w h =
    let r = mine.outer_row in
    let wide : width ≡ length (bits_of mine.s) = w ∙ ap (λ vs. length (all_bits vs)) mine.table_is in
    let there : slice_get starts number ≡ Some r.start = ap (slice_get starts) (sym mine.number_is) ∙ ap (λ xs. slice_get xs mine.s.step.number) e ∙ r.there in
    let l : length numbers ≡ length rows.outer.items = ap length f in
    let n : r.start + length (bits_of mine.s) ≤ length rows.outer.items = r.within in
    h r.start there (omega arith) ∙ ap (λ xs. Some (part_of xs r.start width)) f ∙ ap (λ k. Some (part_of rows.outer.items r.start k)) wide ∙ ap (λ xs. Some xs) r.outer

pub outer-found : (source : Source) (top : Module) (corner : Corner) (rows : Rows) (table : List Variable) (number : ℕ) (leaf : Bool) (mine : IsMine source top corner rows table number leaf) (starts : List ℕ) (numbers : List (Option ℕ)) (width : ℕ)
    (part : Option (List (Option ℕ))) → starts ≡ rows.outer_starts.items → numbers ≡ rows.outer.items → width ≡ length (all_bits table) → IsRow starts numbers number width part → part ≡ None → ⊥
outer-found source top corner rows table number leaf mine starts numbers width part e f w h none =
    let g : None ≡ Some (map (outer_number (nets source top) source mine.s.step mine.s.above) (bits_of mine.s)) = sym none ∙ outer-row source top corner rows table number leaf mine starts numbers width part e f w h in
    cc

pub outside-is : (source : Source) (top : Module) (corner : Corner) (rows : Rows) (table : List Variable) (number : ℕ) (leaf : Bool) (mine : IsMine source top corner rows table number leaf) (starts : List ℕ) (numbers : List (Option ℕ)) (width : ℕ)
    (part : Option (List (Option ℕ))) (row : List (Option ℕ)) → starts ≡ rows.outer_starts.items → numbers ≡ rows.outer.items → width ≡ length (all_bits table) → IsRow starts numbers number width part → part ≡ Some row
    → row ≡ map (outer_number (nets source top) source mine.s.step mine.s.above) (bits_of mine.s)
outside-is source top corner rows table number leaf mine starts numbers width part row e f w h there =
    let g : Some row ≡ Some (map (outer_number (nets source top) source mine.s.step mine.s.above) (bits_of mine.s)) = sym there ∙ outer-row source top corner rows table number leaf mine starts numbers width part e f w h in
    cc

-- and with it the nets and the inner row are added
pub is-begun : (source : Source) (top : Module) (corner : Corner) (rows new : Rows) (table : List Variable) (number : ℕ) (leaf : Bool) (mine : IsMine source top corner rows table number leaf) (row : List (Option ℕ))
    → row ≡ map (outer_number (nets source top) source mine.s.step mine.s.above) (bits_of mine.s)
    → new.inner.items ≡ rows.inner.items ++ numbered (length rows.nets.items) (given_row leaf (all_bits table) row)
    → new.nets.items ≡ rows.nets.items ++ new_nets number (all_bits table) (given_row leaf (all_bits table) row)
    → new.starts.items ≡ rows.starts.items ++ length rows.inner.items ∷ []
    → (new.outer ≡ rows.outer) × ((new.outer_starts ≡ rows.outer_starts) × ((new.firsts ≡ rows.firsts) × ((new.member_starts ≡ rows.member_starts)
    × ((new.ends ≡ rows.ends) × (new.end_starts ≡ rows.end_starts))))) → IsBegun source top mine.s rows new
is-begun source top corner rows new table number leaf mine row r inner made start same = record {
  made = made ∙ ap (λ ns. rows.nets.items ++ ns)
      (nets-made source top corner mine.sound mine.before mine.after mine.s mine.here table leaf row (length rows.nets.items) mine.table_is mine.leaf_is r mine.nets_there number mine.number_is);
  start = start;
  row = inner ∙ ap (λ ns. rows.inner.items ++ ns) (inner-is source top corner mine.sound mine.before mine.after mine.s mine.here table leaf row (length rows.nets.items) mine.table_is mine.leaf_is r mine.nets_there);
  same = same;
}
