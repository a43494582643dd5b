-- The members of an instance, one after another.
use Rattle.std.specs.Prelude.{◌≡◌, ℕ, suc, ◌+◌, ◌<◌, ◌≤◌, ◌^◌, List, [], ◌∷◌, ◌++◌, Some, flat_map, take, drop, map, length, slice_get, option_map, refl}
use Rattle.std.specs.List.{enumerate_from, range_with_len}
use Rattle.std.proofs.Common.{sym, ◌∙◌, ap, arith, subst, append_assoc, length-append}
use Rattle.std.proofs.lemmas.Grind.{flat_map-append}
use Rattle.std.proofs.lemmas.List.{append-nil, map-append, length-map, take_all, take-append-drop}
use Rattle.std.proofs.lemmas.Option.{slice_get_within}
use Rattle.sg_circuit.specs.declared.elements.UdpUse.{UdpUse}
use Rattle.sg_circuit.specs.Seen.{delays_at}
use Rattle.sg_delay.specs.declared.corners.Corner.{Corner}
use Rattle.sg_delay.specs.declared.gates.GateDelays.{GateDelays}
use Rattle.sg_text.specs.declared.refusals.Refused.{Refused}
use Rattle.vl_tree.specs.Tree.{Module, Source}
use Rattle.elab_model.specs.declared.kinds.ElabKind.{ElabKind}
use Rattle.elab_model.specs.Numbered.{element_of}
use Rattle.elab_model.specs.Delays.{tick_of}
use Rattle.elab_model.specs.Elements.{Component, member_elements}
use Rattle.elab_model.specs.Hierarchy.{Instance, instances}
use Rattle.elab_model.specs.HierarchyFaults.{count_limit}
use Rattle.elab_model.specs.Members.{Member, members}
use Rattle.elab_model.specs.Nets.{OwnNet, nets, member_nets}
use Rattle.elab_numbering.specs.Refusals.{RefusesCount}
use Rattle.elab_laws.specs.Handing.{all_bits}
use Rattle.elab_laws.proofs.Lists.{In, all-in, all-get}
use Rattle.elab_hierarchy.specs.declared.instances.Placed.{Placed}
use Rattle.elab_nets.specs.Library.{Library}
use Rattle.elab_nets.specs.Ready.TheVariants as ready
use Rattle.elab_nets.specs.Prepared.{Prepared}
use Rattle.elab_nets.specs.Reached.{IsReached, IsReadyAt}
use Rattle.elab_nets.specs.ReadyOfModules.{member_delays}
use Rattle.elab_variables.specs.declared.member_list.Member as code_member
use Rattle.elab_variables.specs.Seen.{view_member}
use Rattle.elab_nets.specs.declared.rows.Rows.{Rows}
use Rattle.elab_nets.specs.Rows.{first_of_member, part_of, HasRow}
use Rattle.elab_nets.specs.Turns.{members_of}
use Rattle.elab_nets.proofs.ChildRows.{nets-within, refuses-more}
use Rattle.elab_nets.proofs.MemberTurns.{get-map}
use Rattle.elab_nets.proofs.NumberedLists.{next-is, taken}
use Rattle.elab_elements.specs.declared.placing.Placing.{Placing}
use Rattle.elab_elements.specs.Adding.{Adds, HasDriven}
use Rattle.elab_elements.specs.Seen.{element_in}
use Rattle.elab_elements.specs.Next.{IsNext}
use Rattle.elab_elements.specs.Standing.{AreMembers, IsAt, IsMember}
use Rattle.elab_elements.proofs.Meaning.{adds, means-nil}
use Rattle.elab_elements.proofs.MemberLaws.{member-numbered}
use Rattle.elab_elements.proofs.NextChild.{starts}
use Rattle.elab_elements.proofs.Putting.{puts-none}
use Rattle.elab_elements.proofs.ReadHere.{row-is, here-is, placed-is, prepared-is}
use Rattle.elab_elements.proofs.StandingAt.{at-place, at-split, instance-number}

same-some : {A : Type 0} (x y : A) → Some x ≡ Some y → x ≡ y
same-some x y e = cc

-- ---- adding one thing after another

pub adds-none : (delays : List GateDelays) (udps : List UdpUse) (all : List OwnNet) (old : Placing) → Adds delays udps all old old []
adds-none delays udps all old = adds delays udps all old old [] [] (means-nil delays udps all) (puts-none old)

pub adds-both : (delays : List GateDelays) (udps : List UdpUse) (all : List OwnNet) (a b c : Placing) (cs ds : List Component) → Adds delays udps all a b cs → Adds delays udps all b c ds → Adds delays udps all a c (cs ++ ds)
adds-both delays udps all a b c cs ds h k =
    record {
      elements = k.elements ∙ ap (λ xs. xs ++ map (element_of all) ds) h.elements ∙ append_assoc (map (element_in delays udps) a.elements.items) (map (element_of all) cs) (map (element_of all) ds)
          ∙ ap (λ xs. map (element_in delays udps) a.elements.items ++ xs) (sym (map-append (element_of all) cs ds));
      places = k.places ∙ ap (λ xs. xs ++ map (λ c. c.place) ds) h.places ∙ append_assoc a.places.items (map (λ c. c.place) cs) (map (λ c. c.place) ds)
          ∙ ap (λ xs. a.places.items ++ xs) (sym (map-append (λ c. c.place) cs ds));
      named = λ before. k.named (h.named before);
    }

pub adds-count : (delays : List GateDelays) (udps : List UdpUse) (all : List OwnNet) (a b : Placing) (cs : List Component) → Adds delays udps all a b cs → length b.elements.items ≡ length a.elements.items + length cs
adds-count delays udps all a b cs h =
    sym (length-map b.elements.items (element_in delays udps)) ∙ ap length h.elements ∙ length-append (map (element_in delays udps) a.elements.items) (map (element_of all) cs)
    ∙ ap (λ n. n + length (map (element_of all) cs)) (length-map a.elements.items (element_in delays udps)) ∙ ap (λ n. length a.elements.items + n) (length-map cs (element_of all))

-- ---- all of an instance

pub are-members : (source : Source) (top : Module) (corner : Corner) (ps : List Placed) (library : Library) (rows : Rows) (i : ℕ) (s : Instance) (p : Placed) (q : Prepared) (width : ℕ) (row inside : List ℕ)
    → IsAt source top corner ps library rows i s → slice_get ps i ≡ Some p → slice_get library.parts.items p.definition ≡ Some (Some (ready.Module q)) → width ≡ length (all_bits q.table)
    → ((start : ℕ) → slice_get rows.starts.items i ≡ Some start → row ≡ part_of rows.inner.items start width)
    → HasDriven (nets source top) source s q.table inside → AreMembers source top corner ps library rows i p.definition q row inside (i + 1) s
are-members source top corner ps library rows i s p q width row inside h e g w f d =
    let k = prepared-is source top corner ps library rows i s p q h e g in
    record {
      at = h;
      here = here-is source top corner ps library rows i s q width row h k w f;
      drives = d;
      stands = (placed-is source top corner ps library rows i s p h e).definition;
      is_prepared = k;
      first_child = omega arith;
    }

pub front-refused : (old : Placing) (cs ds : List Component) (r : Refused ElabKind) → RefusesCount (length old.elements.items + length cs) r → RefusesCount (length old.elements.items + length (cs ++ ds)) r
front-refused old cs ds r h = let n = length-append cs ds in refuses-more _ _ r (omega arith) h

pub back-refused : (delays : List GateDelays) (udps : List UdpUse) (all : List OwnNet) (old new : Placing) (cs ds : List Component) (r : Refused ElabKind) → Adds delays udps all old new cs
    → RefusesCount (length new.elements.items + length ds) r → RefusesCount (length old.elements.items + length (cs ++ ds)) r
back-refused delays udps all old new cs ds r h k = let n = length-append cs ds in let m = adds-count delays udps all old new cs h in refuses-more _ _ r (omega arith) k

-- ---- the members so far

pub record AreAdded (delays : List GateDelays) (udps : List UdpUse) (source : Source) (top : Module) (corner : Corner) (s : Instance) (k next : ℕ) (old new : Placing) : Type 0 where
  pub adds : Adds delays udps (nets source top) old new (flat_map (member_elements source corner (tick_of source top) s) (take k (members_of s)))
  pub is_next : IsNext source s k next

enumerate-count : {A : Type 0} (a : ℕ) (xs : List A) → length (enumerate_from a xs) ≡ length xs
enumerate-count a [] = refl
enumerate-count a (x ∷ xs) = ap suc (enumerate-count (a + 1) xs)

module _ (source : Source) (top : Module) (corner : Corner) (ps : List Placed) (library : Library) (rows : Rows) (number definition : ℕ) (prepared : Prepared) (row inside : List ℕ) (initial : ℕ) (s : Instance)
    (h : AreMembers source top corner ps library rows number definition prepared row inside initial s) where
  there : In s (instances source top)
  there = at-place (instances source top) number s h.at.there

  pub none-added : (old : Placing) → AreAdded library.gate_delays.items library.udps.items source top corner s 0 initial old old
  none-added old = record {
    adds = adds-none library.gate_delays.items library.udps.items (nets source top) old;
    is_next = subst (IsNext source s 0) (ap suc (instance-number source top s number h.at.there) ∙ sym h.first_child) (starts source s);
  }

  pub member-is : (k : ℕ) (x : code_member.Member) → slice_get prepared.members.items k ≡ Some x → slice_get (members s.step.definition) k ≡ Some (view_member x)
  member-is k x e = ap (λ xs. slice_get xs k) (sym h.is_prepared.members) ∙ get-map view_member prepared.members.items k x e

  pub one-added : (k next after : ℕ) (x : Member) (old mid new : Placing) → slice_get (members s.step.definition) k ≡ Some x → AreAdded library.gate_delays.items library.udps.items source top corner s k next old mid
      → Adds library.gate_delays.items library.udps.items (nets source top) mid new (member_elements source corner (tick_of source top) s (k, x)) → IsNext source s (k + 1) after
      → AreAdded library.gate_delays.items library.udps.items source top corner s (k + 1) after old new
  one-added k next after x old mid new e a m n =
      let f = member_elements source corner (tick_of source top) s in
      let all : flat_map f (take k (members_of s)) ++ f (k, x) ≡ flat_map f (take (k + 1) (members_of s)) =
      sym (ap (flat_map f) (taken (members s.step.definition) k x e) ∙ flat_map-append f (take k (members_of s)) ((k, x) ∷ []) ∙ ap (λ ys. flat_map f (take k (members_of s)) ++ ys) (append-nil (f (k, x)))) in
      record {
        adds = subst (Adds library.gate_delays.items library.udps.items (nets source top) old new) all
            (adds-both library.gate_delays.items library.udps.items (nets source top) old mid new (flat_map f (take k (members_of s))) (f (k, x)) a.adds m);
        is_next = n;
      }

  pub all-added : (k next : ℕ) (old new : Placing) → length prepared.members.items ≤ k → AreAdded library.gate_delays.items library.udps.items source top corner s k next old new
      → Adds library.gate_delays.items library.udps.items (nets source top) old new (flat_map (member_elements source corner (tick_of source top) s) (enumerate_from 0 (members s.step.definition)))
  all-added k next old new le a =
      let n : length (members_of s) ≡ length prepared.members.items = enumerate-count 0 (members s.step.definition) ∙ ap length (sym h.is_prepared.members) ∙ length-map prepared.members.items view_member in
      subst (λ ms. Adds library.gate_delays.items library.udps.items (nets source top) old new (flat_map (member_elements source corner (tick_of source top) s) ms)) (take_all k (members_of s) (omega arith)) a.adds

  pub one-refused : (k next : ℕ) (x : Member) (old mid : Placing) (r : Refused ElabKind) → slice_get (members s.step.definition) k ≡ Some x
      → AreAdded library.gate_delays.items library.udps.items source top corner s k next old mid → RefusesCount (length mid.elements.items + length (member_elements source corner (tick_of source top) s (k, x))) r
      → RefusesCount (length old.elements.items + length (flat_map (member_elements source corner (tick_of source top) s) (enumerate_from 0 (members s.step.definition)))) r
  one-refused k next x old mid r e a refused =
      let f = member_elements source corner (tick_of source top) s in
      let c = adds-count library.gate_delays.items library.udps.items (nets source top) old mid (flat_map f (take k (members_of s))) a.adds in
      let w : length (flat_map f (members_of s)) ≡ length (flat_map f (take k (members_of s))) + length (f (k, x) ++ flat_map f (drop (k + 1) (members_of s))) =
      ap (λ ms. length (flat_map f ms)) (sym (take-append-drop k (members_of s))) ∙ ap length (flat_map-append f (take k (members_of s)) (drop k (members_of s)))
      ∙ length-append (flat_map f (take k (members_of s))) (flat_map f (drop k (members_of s))) ∙ ap (λ ms. length (flat_map f (take k (members_of s))) + length (flat_map f ms)) (next-is (members s.step.definition) k x e) in
      let v = length-append (f (k, x)) (flat_map f (drop (k + 1) (members_of s))) in
      refuses-more _ _ r (omega arith) refused

  -- ---- what is read of a member

  reads : IsReadyAt source corner top library s.step.definition definition
  reads = (all-in (IsReached source corner top library) s (instances source top) h.at.read.is_ready.reached there).stands definition h.stands

  delays-count : length reads.delays ≡ length prepared.members.items
  delays-count =
      sym (length-map reads.delays (delays_at library.gate_delays.items)) ∙ ap length reads.in_ticks.delays ∙ length-map (members s.step.definition) (member_delays corner (tick_of source top) s.step.definition)
      ∙ ap length (sym h.is_prepared.members) ∙ length-map prepared.members.items view_member

  pub delays-within : (k : ℕ) → k < length prepared.members.items
      → (list : List ℕ) × ((option_map (λ d. d.items) (slice_get library.delays.items definition) ≡ Some list) × (k < length list))
  delays-within k lt = let n = delays-count in (reads.delays, (reads.listed, omega arith))

  the-row : (before : List Instance) × (length before ≡ number) × HasRow source top rows before s
  the-row = row-is source top corner ps library rows number s h.at

  pub first-within : (k : ℕ) → k < length prepared.members.items → (start : ℕ) × ((slice_get rows.member_starts.items number ≡ Some start) × (start + k < length rows.firsts.items))
  first-within k lt =
      let n : length (members s.step.definition) ≡ length prepared.members.items = ap length (sym h.is_prepared.members) ∙ length-map prepared.members.items view_member in
      let r = the-row in
      (r.2.member, (subst (λ j. slice_get rows.member_starts.items j ≡ Some r.2.member) r.1 r.2.member_starts, slice_get_within rows.firsts.items (r.2.member + k) _ (r.2.firsts k (omega arith))))

  first-is : (k first : ℕ) (x : Member) → slice_get (members s.step.definition) k ≡ Some x → ((start : ℕ) → slice_get rows.member_starts.items number ≡ Some start → slice_get rows.firsts.items (start + k) ≡ Some first)
      → first ≡ first_of_member source (take number (instances source top)) s k
  first-is k first x e f =
      let split = at-split (instances source top) number s h.at.there in
      let r = h.at.read.have_rows.each (take number (instances source top)) (drop (suc number) (instances source top)) s split.0 in
      let lt = slice_get_within (members s.step.definition) k x e in
      let a : slice_get rows.firsts.items (r.member + k) ≡ Some first = f r.member (subst (λ j. slice_get rows.member_starts.items j ≡ Some r.member) split.1 r.member_starts) in
      let b : Some first ≡ Some (first_of_member source (take number (instances source top)) s k) = sym a ∙ r.firsts k (omega arith) in
      same-some first (first_of_member source (take number (instances source top)) s k) b

  pub first-few : (k first : ℕ) (x : Member) → slice_get (members s.step.definition) k ≡ Some x → ((start : ℕ) → slice_get rows.member_starts.items number ≡ Some start → slice_get rows.firsts.items (start + k) ≡ Some first)
      → first ≤ 2 ^ 22
  first-few k first x e f =
      let split = at-split (instances source top) number s h.at.there in
      let g = first-is k first x e f in
      let whole : members_of s ≡ take k (members_of s) ++ (k, x) ∷ drop (k + 1) (members_of s) = sym (take-append-drop k (members_of s)) ∙ ap (λ xs. take k (members_of s) ++ xs) (next-is (members s.step.definition) k x e) in
      let le = nets-within source top (take number (instances source top)) (drop (suc number) (instances source top)) s (take k (members_of s)) (drop (k + 1) (members_of s)) (k, x) split.0 whole in
      let few : length (nets source top) ≤ count_limit = h.at.read.have_rows.few in
      omega arith

  pub is-member : (k next delays first : ℕ) (x : Member) (old new : Placing) → slice_get (members s.step.definition) k ≡ Some x
      → ((list : List ℕ) → option_map (λ d. d.items) (slice_get library.delays.items definition) ≡ Some list → slice_get list k ≡ Some delays)
      → ((start : ℕ) → slice_get rows.member_starts.items number ≡ Some start → slice_get rows.firsts.items (start + k) ≡ Some first)
      → AreAdded library.gate_delays.items library.udps.items source top corner s k next old new
      → IsMember source top corner ps library rows number prepared.table row inside delays first next k x s
  is-member k next delays first x old new e d f a =
      let split = at-split (instances source top) number s h.at.there in
      let p : slice_get reads.delays k ≡ Some delays = d reads.delays reads.listed in
      let ticks : Some (delays_at library.gate_delays.items delays) ≡ Some (member_delays corner (tick_of source top) s.step.definition x) =
      sym (get-map (delays_at library.gate_delays.items) reads.delays k delays p) ∙ ap (λ xs. slice_get xs k) reads.in_ticks.delays
      ∙ get-map (member_delays corner (tick_of source top) s.step.definition) (members s.step.definition) k x e in
      record {
        at = h.at;
        here = h.here;
        drives = h.drives;
        member = e;
        ticks = same-some _ _ ticks;
        listed = all-get (λ i. i < length library.gate_delays.items) reads.delays k delays reads.in_ticks.below p;
        numbered = member-numbered source top corner (take number (instances source top)) (drop (suc number) (instances source top)) s k x h.at.read.is_ready.sound split.0 e
            ∙ ap (λ n. range_with_len n (length (member_nets source s (k, x)))) (sym (first-is k first x e f));
        is_next = a.is_next;
      }
