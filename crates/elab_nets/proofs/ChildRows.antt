-- What is added outside of a child.
use Rattle.std.specs.Prelude.{◌≡◌, ℕ, ◌+◌, ◌<◌, ◌≤◌, ◌==◌, List, [], ◌∷◌, ◌++◌, Bool, Option, Some, None, flat_map, length, map, refl, slice_get}
use Rattle.std.specs.List.{range_with_len}
use Rattle.std.proofs.Common.{sym, ◌∙◌, ap, arith, inl, subst, append-nil, length-append, set}
use Rattle.std.proofs.lemmas.List.{length-map, length-set}
use Rattle.std.proofs.lemmas.Option.{slice_get_within}
use Rattle.sg_delay.specs.declared.corners.Corner.{Corner}
use Rattle.sg_text.specs.declared.refusals.Refused.{Refused}
use Rattle.sg_text.specs.declared.refusals.Refused.TheVariants as refused
use Rattle.vl_tree.specs.Tree.{Named, Delay, Module, Source, a_module}
use Rattle.vl_tree.specs.Seen.{view_instance}
use Rattle.vl_tree.specs.declared.items.Instance as code_instance
use Rattle.elab_model.specs.declared.kinds.ElabKind.{ElabKind}
use Rattle.elab_model.specs.Definitions.{definition_of}
use Rattle.elab_model.specs.Ends.{first_ends}
use Rattle.elab_model.specs.Hierarchy.{Instance, child_of_member, children_from, children, instances, has_no_child}
use Rattle.elab_model.specs.HierarchyFaults.{count_limit}
use Rattle.elab_model.specs.Members.{Member, instance}
use Rattle.elab_model.specs.Names.{Variable}
use Rattle.elab_model.specs.Nets.{nets, nets_of, variable_nets, member_nets}
use Rattle.elab_laws.specs.Handing.{all_bits, number_at}
use Rattle.elab_laws.proofs.Lists.{In, in-right}
use Rattle.elab_model.specs.Delays.{tick_of}
use Rattle.elab_laws.specs.NumberLaws.{numbers_in, nets_before}
use Rattle.elab_laws.proofs.InOrder.{member-nets_have_places, nets-split}
use Rattle.elab_hierarchy.specs.declared.instances.Placed.{Placed}
use Rattle.elab_hierarchy.specs.Placing.{IsPlaced}
use Rattle.elab_modules.specs.declared.library.Library.{Library}
use Rattle.elab_modules.specs.declared.prepared.Prepared.{Prepared}
use Rattle.elab_modules.specs.Ready.{IsPrepared}
use Rattle.elab_numbering.specs.Refusals.{RefusesCount}
use Rattle.elab_ports.specs.Bound.{AreConnected}
use Rattle.elab_nets.specs.Outside.{outer_number, outside_nets, IsChild}
use Rattle.elab_nets.specs.Parts.{IsRow}
use Rattle.elab_nets.specs.Rows.{part_of}
use Rattle.elab_nets.specs.Turns.{HasTurn, IsNext, AddsOutside, IsSeenTo, children_among, end_number, members_of, bits_of}
use Rattle.elab_model.specs.Numbered.{undriven}
use Rattle.elab_nets.specs.declared.rows.Rows.{Rows}
use Rattle.elab_nets.proofs.Children.{the_child, child-next, no-child, child-nets, child-in, member-faultless, child-connected}
use Rattle.elab_nets.proofs.RowParts.{get-written, get-other, part-behind}
use Rattle.elab_hierarchy.proofs.FaultlessTree.{no-children_at_limit}
use Rattle.elab_nets.proofs.Placings.{at-number, is-there, lone-is, placed-at, placed-count}

-- ---- one outer row more

pub row-added : (source : Source) (top : Module) (old row new : List (Option ℕ)) (places later : List ℕ) (c : Instance) → new ≡ old ++ row → row ≡ map (outer_number (nets source top) source c.step c.above) (bits_of c)
    → c.step.number < length places → later ≡ set places c.step.number (length old) → AddsOutside source top old new places later (c ∷ [])
row-added source top old row new places later c n r lt l =
    let count : length row ≡ length (bits_of c) = ap length r ∙ length-map (bits_of c) (outer_number (nets source top) source c.step c.above) in
    let total : length new ≡ length old + length row = ap length n ∙ length-append old row in
    record {
      more = row;
      grown = n;
      same_count = ap length l ∙ length-set places c.step.number (length old);
      rows = (
        record {
          start = length old;
          there = ap (λ xs. slice_get xs c.step.number) l ∙ get-written places c.step.number (length old) lt;
          within = omega arith;
          outer = ap (λ xs. part_of xs (length old) (length (bits_of c))) n ∙ part-behind old row (length (bits_of c)) count ∙ r;
        },
        tt,
      );
      others = λ j other. ap (λ xs. slice_get xs j) l ∙ get-other places c.step.number j (length old) (λ e. other (inl e));
    }

-- and none
pub none-added : (source : Source) (top : Module) (old : List (Option ℕ)) (places : List ℕ) → AddsOutside source top old old places places []
none-added source top old places = record { more = []; grown = sym (append-nil old); same_count = refl; rows = tt; others = λ j other. refl }

-- what no member changes
abbrev pub AreSame : Rows → Rows → Type 0
AreSame old new = (new.inner ≡ old.inner) × ((new.starts ≡ old.starts) × ((new.firsts ≡ old.firsts) × ((new.member_starts ≡ old.member_starts) × (new.end_starts ≡ old.end_starts))))

-- a member that is no instance of a module
pub lone-seen : (source : Source) (top : Module) (s : Instance) (x : ℕ × Member) (levels next : ℕ) (behind : List (ℕ × Member)) (old new : Rows) → child_of_member source x.0 x.1 ≡ None
    → new.nets.items ≡ old.nets.items ++ map undriven (member_nets source s x) → new.ends.items ≡ old.ends.items ++ map (end_number source top s) (first_ends s.step.definition x)
    → new.outer ≡ old.outer → new.outer_starts ≡ old.outer_starts → AreSame old new → IsSeenTo source top s x levels next next behind old new
lone-seen source top s x levels next behind old new none made ends o p same = record {
  made = made;
  cs = [];
  split = ap (children_from source levels (s.step ∷ s.above) next) (none-among none);
  outside = subst (λ z. AddsOutside source top old.outer.items z.items old.outer_starts.items new.outer_starts.items []) (sym o)
      (subst (λ z. AddsOutside source top old.outer.items old.outer.items old.outer_starts.items z.items []) (sym p) (none-added source top old.outer.items old.outer_starts.items));
  ends = ends;
  same = same;
}
  where
    none-among : child_of_member source x.0 x.1 ≡ None → children_among source (x ∷ behind) ≡ children_among source behind
    none-among e = no-child source x behind e

-- ---- a member that is an instance of a module

-- the child is one of the instances
pub child-there : (source : Source) (top : Module) (s : Instance) (levels next k : ℕ) (n : Named) (d : Option Delay) (i : code_instance.Instance) (m : Module) (done : List Instance) (behind : List (ℕ × Member))
    → definition_of source n.text ≡ Some (a_module m) → children source s ≡ done ++ children_from source levels (s.step ∷ s.above) next (children_among source ((k, instance n d (view_instance i)) ∷ behind))
    → In (the_child s levels next k m (view_instance i)) (children source s)
child-there source top s levels next k n d i m done behind e h =
    let c = the_child s levels next k m (view_instance i) in
    subst (In c) (sym (h ∙ ap (λ cs. done ++ cs) (child-next source s levels next k n d (view_instance i) m behind e))) (in-right c done _ (inl refl))

-- so many nets there are in all
pub nets-within : (source : Source) (top : Module) (before after : List Instance) (s : Instance) (front behind : List (ℕ × Member)) (x : ℕ × Member) → instances source top ≡ before ++ s ∷ after → members_of s ≡ front ++ x ∷ behind
    → nets_before source before s front + length (member_nets source s x) ≤ length (nets source top)
nets-within source top before after s front behind x e g =
    let f = nets-split source top before after s front behind x e g in
    let a = flat_map (nets_of source) before in
    let b = variable_nets source s in
    let m = flat_map (member_nets source s) front in
    let y = member_nets source s x in
    let z = flat_map (member_nets source s) behind ++ flat_map (nets_of source) after in
    let l1 : length (nets source top) ≡ length ((a ++ (b ++ m)) ++ (y ++ z)) = ap length f in
    let l2 = length-append (a ++ (b ++ m)) (y ++ z) in
    let l3 = length-append a (b ++ m) in
    let l4 = length-append b m in
    let l5 = length-append y z in
    omega arith

pub refuses-more : (a b : ℕ) (r : Refused ElabKind) → a ≤ b → RefusesCount a r → RefusesCount b r
refuses-more a b (refused.Fault k p) le h = (h.0, h.1, (let lt : count_limit < a = h.2 in omega arith))
refuses-more a b refused.NoMemory le h = tt

-- too many nets at a member are too many in all
pub member-refused : (source : Source) (top : Module) (corner : Corner) (library : Library) (placed : List Placed) (rows : Rows) (table : List Variable) (number : ℕ) (turn : HasTurn source top corner library placed rows table number)
    (x : ℕ × Member) (next count : ℕ) → IsNext source turn.before turn.s x next count → (r : Refused ElabKind) → RefusesCount (count + length (member_nets source turn.s x)) r → RefusesCount (length (nets source top)) r
member-refused source top corner library placed rows table number turn x next count at r h =
    let le = nets-within source top turn.before turn.after turn.s at.front at.behind x turn.here at.split in
    let n : count ≡ nets_before source turn.before turn.s at.front = at.nets_there in
    refuses-more (count + length (member_nets source turn.s x)) (length (nets source top)) r (omega arith) h

module _ (source : Source) (top : Module) (corner : Corner) (library : Library) (placed : List Placed) (rows : Rows) (table : List Variable) (number : ℕ) (turn : HasTurn source top corner library placed rows table number)
    (k : ℕ) (n : Named) (d : Option Delay) (i : code_instance.Instance) (m : Module) (next count : ℕ) (at : IsNext source turn.before turn.s (k, instance n d (view_instance i)) next count)
    (defined : definition_of source n.text ≡ Some (a_module m)) where
  abbrev pub the : Instance
  the = the_child turn.s at.levels next k m (view_instance i)

  pub in-children : In the (children source turn.s)
  in-children = child-there source top turn.s at.levels next k n d i m at.done at.behind defined at.rest

  pub in-turn : In turn.s (instances source top)
  in-turn = is-there source top turn.before turn.after turn.s turn.here

  pub in-instances : In the (instances source top)
  in-instances = child-in source top turn.s the in-turn in-children

  pub stands-there : slice_get (instances source top) next ≡ Some the
  stands-there = at-number source top the in-instances

  pub nets-are : member_nets source turn.s (k, instance n d (view_instance i)) ≡ outside_nets source turn.s the
  nets-are = child-nets source turn.s the k n d (view_instance i) m in-children refl defined

  pub is-child : (child : Prepared) (row : List ℕ) (leaf : Bool) → IsPrepared child m → row ≡ map (number_at (nets source top) source turn.s) (all_bits table) → has_no_child source the.step ≡ leaf
      → IsChild (nets source top) source turn.s the table row child i leaf number count
  is-child child row leaf prepared r lone = record {
    numbers = record { table = turn.table_is; numbers = r };
    above = refl;
    prepared = prepared;
    connections = refl;
    connected = subst (λ vs. AreConnected vs m (view_instance i).place (view_instance i).connections) (sym turn.table_is)
        (child-connected source corner (tick_of source top) turn.s.step.definition m n d (view_instance i)
        (member-faultless source top corner turn.given.ready.sound turn.s in-turn at.front at.behind (k, instance n d (view_instance i)) at.split) defined prepared.declared);
    is_leaf = lone;
    number = turn.number_is;
    outside = subst (λ os. numbers_in (nets source top) os ≡ range_with_len count (length os)) nets-are
        (member-nets_have_places source top corner turn.before turn.after turn.s at.front at.behind (k, instance n d (view_instance i)) turn.given.ready.sound turn.here at.split
        ∙ ap (λ a. range_with_len a (length (member_nets source turn.s (k, instance n d (view_instance i))))) (sym at.nets_there));
  }

  pub leaf-is : (p : Placed) (leaf : Bool) → IsPlaced source p the → leaf ≡ (p.end == next + 1) → has_no_child source the.step ≡ leaf
  leaf-is p leaf is e = sym (lone-is source the.step p.end (no-children_at_limit source top the turn.given.tree in-instances) is.end) ∙ sym e

  pub child-seen : (child : Prepared) (p : Placed) (new : Rows) → IsPrepared child m → IsPlaced source p the → next < length rows.outer_starts.items
      → new.nets.items ≡ rows.nets.items ++ map undriven (outside_nets source turn.s the)
      → new.outer.items ≡ rows.outer.items ++ map (outer_number (nets source top) source the.step the.above) (all_bits child.table)
      → new.outer_starts.items ≡ set rows.outer_starts.items next (length rows.outer.items)
      → new.ends ≡ rows.ends → AreSame rows new → IsSeenTo source top turn.s (k, instance n d (view_instance i)) at.levels next p.end at.behind rows new
  child-seen child p new prepared is lt made outer starts ends same = record {
    made = made ∙ ap (λ os. rows.nets.items ++ map undriven os) (sym nets-are);
    cs = the ∷ [];
    split = child-next source turn.s at.levels next k n d (view_instance i) m at.behind defined
        ∙ ap (λ a. the ∷ children_from source at.levels (turn.s.step ∷ turn.s.above) a (children_among source at.behind)) (sym is.end);
    outside = row-added source top rows.outer.items (map (outer_number (nets source top) source the.step the.above) (all_bits child.table)) new.outer.items rows.outer_starts.items new.outer_starts.items the outer
        (ap (λ vs. map (outer_number (nets source top) source the.step the.above) (all_bits vs)) prepared.table) lt starts;
    ends = ap (λ v. v.items) ends ∙ sym (append-nil rows.ends.items);
    same = same;
  }

  pub child-refused : (r : Refused ElabKind) → RefusesCount (count + length (outside_nets source turn.s the)) r → RefusesCount (length (nets source top)) r
  child-refused r h =
      member-refused source top corner library placed rows table number turn (k, instance n d (view_instance i)) next count at r
      (subst (λ os. RefusesCount (count + length os) r) (sym nets-are) h)

  -- ---- the lookups of the code

  pub below-placed : next < length placed
  below-placed =
      let l : next < length (instances source top) = slice_get_within (instances source top) next the stands-there in
      let n : length placed ≡ length (instances source top) = placed-count source placed (instances source top) turn.given.instances_are in
      omega arith

  pub placed-is : (p : Placed) → slice_get placed next ≡ Some p → IsPlaced source p the
  placed-is p e =
      let r = placed-at source placed (instances source top) turn.given.instances_are next the stands-there in
      let f : Some r.0 ≡ Some p = sym r.1 ∙ e in
      let g : r.0 ≡ p = cc in
      subst (λ z. IsPlaced source z the) g r.2

  pub has-room : next < length rows.outer_starts.items
  has-room =
      let l : next < length (instances source top) = slice_get_within (instances source top) next the stands-there in
      let n = turn.outer_count in
      omega arith

  pub row-found : (starts numbers : List ℕ) (width : ℕ) (part : Option (List ℕ)) → starts ≡ rows.starts.items → numbers ≡ rows.inner.items → width ≡ length (all_bits table) → IsRow starts numbers number width part
      → part ≡ Some (map (number_at (nets source top) source turn.s) (all_bits table))
  row-found starts numbers width part e f w h =
      let r = turn.inner in
      let same : all_bits table ≡ bits_of turn.s = ap all_bits turn.table_is in
      let wide : width ≡ length (bits_of turn.s) = w ∙ ap length same in
      let there : slice_get starts number ≡ Some r.start = ap (slice_get starts) (sym turn.number_is) ∙ ap (λ xs. slice_get xs turn.s.step.number) e ∙ r.there in
      let l : length numbers ≡ length rows.inner.items = ap length f in
      let n : r.start + length (bits_of turn.s) ≤ length rows.inner.items = r.within in
      h r.start there (omega arith) ∙ ap (λ xs. Some (part_of xs r.start width)) f ∙ ap (λ k. Some (part_of rows.inner.items r.start k)) wide ∙ ap (λ xs. Some xs) r.inner
      ∙ ap (λ bs. Some (map (number_at (nets source top) source turn.s) bs)) (sym same)

  pub row-is : (part : Option (List ℕ)) (row : List ℕ) → part ≡ Some (map (number_at (nets source top) source turn.s) (all_bits table)) → part ≡ Some row → row ≡ map (number_at (nets source top) source turn.s) (all_bits table)
  row-is part row e f = let g : Some row ≡ Some (map (number_at (nets source top) source turn.s) (all_bits table)) = sym f ∙ e in cc
