-- What stands ready of an instance is what the code finds.
use Rattle.std.specs.Prelude.{◌≡◌, ℕ, ◌+◌, ◌<◌, List, [], ◌∷◌, Option, Some, None, length, map, refl, slice_get, slice_index_or}
use Rattle.std.specs.List.{range_with_len}
use Rattle.std.proofs.Common.{sym, ◌∙◌, ap, subst, inl, arith}
use Rattle.std.proofs.lemmas.List.{get_or-map, get_or_at, length-append}
use Rattle.std.proofs.lemmas.List.FromFn.{get_or-range_with_len}
use Rattle.sg_delay.specs.declared.corners.Corner.{Corner}
use Rattle.vl_tree.specs.Tree.{Module, Source}
use Rattle.elab_model.specs.Hierarchy.{Instance, instances}
use Rattle.elab_model.specs.HierarchyFaults.{past_limit}
use Rattle.elab_model.specs.Names.{variables}
use Rattle.elab_model.specs.Nets.{OwnNet}
use Rattle.elab_laws.specs.Handing.{all_bits, number_at}
use Rattle.elab_laws.specs.Words.{In}
use Rattle.elab_laws.proofs.Lists.{in-right, all-in}
use Rattle.elab_laws.proofs.Stated.{instances-have_places}
use Rattle.elab_hierarchy.specs.declared.instances.Placed.{Placed}
use Rattle.elab_hierarchy.specs.Placing.{tree_faults}
use Rattle.elab_hierarchy.proofs.FaultlessTree.{none-past_limit}
use Rattle.elab_nets.specs.Library.{Library}
use Rattle.elab_nets.specs.Prepared.{Prepared}
use Rattle.elab_nets.specs.Finding.{module_at}
use Rattle.elab_nets.specs.ReadyOfModules.{IsPrepared}
use Rattle.elab_nets.specs.Reached.{IsReached}
use Rattle.elab_nets.proofs.FoundModules.{is-found, is-prepared}
use Rattle.elab_nets.specs.declared.rows.Rows.{Rows}
use Rattle.elab_nets.specs.Rows.{part_of}
use Rattle.elab_scopes.specs.declared.here.Here.{Here}
use Rattle.elab_scopes.specs.Here.{Stands, IsHere}
use Rattle.elab_scopes.proofs.PlacedAt.{PlacedAt}

-- ---- an element of the code's list

stands-there : (source : Source) (top : Module) (corner : Corner) (library : Library) (rows : Rows) (ss : List Instance) (all : List OwnNet) (number : ℕ) (p : Placed) (s : Instance)
    → Stands source top corner library rows ss all number p s → In s (instances source top)
stands-there source top corner library rows ss all number p s h = subst (In s) (sym h.there ∙ h.are_read.are_instances) (in-right s h.before (s ∷ h.after) (inl refl))

pub is-reached : (source : Source) (top : Module) (corner : Corner) (library : Library) (rows : Rows) (ss : List Instance) (all : List OwnNet) (number : ℕ) (p : Placed) (s : Instance)
    → Stands source top corner library rows ss all number p s → IsReached source corner top library s
is-reached source top corner library rows ss all number p s h =
    all-in (IsReached source corner top library) s (instances source top) h.are_read.is_ready.reached (stands-there source top corner library rows ss all number p s h)

pub number-is : (source : Source) (top : Module) (corner : Corner) (library : Library) (rows : Rows) (ss : List Instance) (all : List OwnNet) (number : ℕ) (p : Placed) (s : Instance)
    → Stands source top corner library rows ss all number p s → number ≡ s.step.number
number-is source top corner library rows ss all number p s h =
    let long : length ss ≡ length h.before + length (s ∷ h.after) = ap length h.there ∙ length-append h.before (s ∷ h.after) in
    let lt : number < length ss = let c : number ≡ length h.before = h.count in omega (arith, long, c) in
    let own : slice_index_or ss number s ≡ s = ap (λ xs. slice_index_or xs number s) h.there ∙ get_or_at h.before s h.after s number (sym h.count) in
    let at : slice_index_or (map (λ t. t.step.number) ss) number 0 ≡ s.step.number = get_or-map (λ t. t.step.number) ss number s 0 lt ∙ ap (λ t. t.step.number) own in
    let places : map (λ t. t.step.number) ss ≡ range_with_len 0 (length ss) =
    subst (λ xs. map (λ t. t.step.number) xs ≡ range_with_len 0 (length xs)) (sym h.are_read.are_instances) (instances-have_places source top) in
    let from : slice_index_or (map (λ t. t.step.number) ss) number 0 ≡ 0 + number = ap (λ ns. slice_index_or ns number 0) places ∙ get_or-range_with_len 0 (length ss) number 0 lt in
    omega (arith, at, from)

pub within-limit : (source : Source) (top : Module) (ss : List Instance) (i : ℕ) (p : Placed) (r : PlacedAt source p i ss)
    → ss ≡ instances source top → tree_faults source top ≡ [] → past_limit source r.own ≡ []
within-limit source top ss i p r e t =
    none-past_limit source top r.own t (subst (In r.own) (sym r.there ∙ e) (in-right r.own r.before (r.own ∷ r.after) (inl refl)))

-- a module stands ready at its place
pub module-missing : (source : Source) (top : Module) (corner : Corner) (library : Library) (rows : Rows) (ss : List Instance) (all : List OwnNet) (number : ℕ) (p : Placed) (s : Instance)
    → Stands source top corner library rows ss all number p s → module_at (slice_get library.parts.items p.definition) ≡ None → ⊥
module-missing source top corner library rows ss all number p s st e =
    let reached = is-reached source top corner library rows ss all number p s st in
    is-found source library.parts.items p.definition s.step.definition st.are_read.is_ready.ready st.is_placed.definition (reached.stands p.definition st.is_placed.definition).ready e

pub module-ready : (source : Source) (top : Module) (corner : Corner) (library : Library) (rows : Rows) (ss : List Instance) (all : List OwnNet) (number : ℕ) (p : Placed) (s : Instance) (q : Prepared)
    → Stands source top corner library rows ss all number p s → module_at (slice_get library.parts.items p.definition) ≡ Some q → IsPrepared q s.step.definition
module-ready source top corner library rows ss all number p s q st e =
    is-prepared source library.parts.items p.definition s.step.definition q st.are_read.is_ready.ready st.is_placed.definition e

-- the row that the code cuts out
pub row-found : (source : Source) (top : Module) (corner : Corner) (library : Library) (rows : Rows) (ss : List Instance) (all : List OwnNet) (number start count : ℕ) (p : Placed) (s : Instance)
    (h : Here) → Stands source top corner library rows ss all number p s → IsPrepared h.prepared.now s.step.definition → slice_get rows.starts.items number ≡ Some start
    → count ≡ length (all_bits h.prepared.now.table) → h.row.now ≡ part_of rows.inner.items start count → IsHere all source s h
row-found source top corner library rows ss all number start count p s h st prepared at c cut =
    let has = st.are_read.have_rows.each st.before st.after s (sym st.are_read.are_instances ∙ st.there) in
    let both : ◌≡◌ {A = Option _} (Some start) (Some has.start) = sym at ∙ ap (slice_get rows.starts.items) st.count ∙ has.starts in
    let same : start ≡ has.start = cc in
    let long : count ≡ length (all_bits (variables s.step.definition)) = c ∙ ap (λ vs. length (all_bits vs)) prepared.table in
    record {
      prepared = prepared;
      row = cut ∙ ap (λ k. part_of rows.inner.items k count) same ∙ ap (part_of rows.inner.items has.start) long ∙ has.inner
          ∙ ap (λ os. map (number_at os source s) (all_bits (variables s.step.definition))) (sym st.are_read.are_nets);
    }

pub row-there : (source : Source) (top : Module) (corner : Corner) (library : Library) (rows : Rows) (ss : List Instance) (all : List OwnNet) (number : ℕ) (p : Placed) (s : Instance)
    → Stands source top corner library rows ss all number p s → slice_get rows.starts.items number ≡ None → ⊥
row-there source top corner library rows ss all number p s st at =
    let has = st.are_read.have_rows.each st.before st.after s (sym st.are_read.are_instances ∙ st.there) in
    let both : ◌≡◌ {A = Option _} None (Some has.start) = sym at ∙ ap (slice_get rows.starts.items) st.count ∙ has.starts in
    cc
