-- The modules of instances stand ready one after the other.
use Rattle.std.specs.Prelude.{◌≡◌, ℕ, zero, suc, ◌+◌, ◌<◌, ◌^◌, List, [], ◌∷◌, ◌++◌, Bool, true, false, Option, Some, None, filter_map, flat_map, is_some, get_or}
use Rattle.std.specs.Prelude.{length, map, take, slice_get, slice_index_or, refl, replicate}
use Rattle.std.specs.List.{AllByRecursion, cons_option}
use Rattle.std.specs.Borrow.{Bor}
use Rattle.std.specs.Option.{option_and_then}
use Rattle.std.proofs.Common.{sym, ◌∙◌, ap, arith, inl, inr, subst, set}
use Rattle.std.proofs.Math.Seq.{take-length}
use Rattle.std.proofs.lemmas.Grind.{flat_map-append}
use Rattle.std.proofs.lemmas.List.{append-nil, append_assoc, map-append, take_more, length-replicate}
use Rattle.std.proofs.lemmas.List.Elements.{filter_map-append}
use Rattle.std.proofs.lemmas.Option.{slice_get-get_or}
use Rattle.sg_circuit.specs.declared.elements.UdpUse.{UdpUse}
use Rattle.sg_text.specs.declared.refusals.Refused.{Refused}
use Rattle.sg_text.specs.declared.refusals.Refused.TheVariants as refused
use Rattle.vl_tree.specs.declared.expressions.Delay.{Delay}
use Rattle.vl_tree.specs.declared.items.Instance.{Instance}
use Rattle.vl_tree.specs.declared.names.Name.{Name}
use Rattle.vl_tree.specs.Tree.{Module, Primitive, Part, Source, a_module, a_primitive}
use Rattle.elab_model.specs.declared.kinds.ElabKind.{ElabKind}
use Rattle.elab_model.specs.Definitions.{as_primitive}
use Rattle.elab_model.specs.Members.{Member, assignment, supply, gate, instance, path, check}
use Rattle.elab_model.specs.PrimitiveFaults.{member_primitive}
use Rattle.elab_laws.proofs.Lists.{In, in-left, in-right, in-either, in-flat, all-weaker, all-append}
use Rattle.elab_variables.specs.Seen.{view_member}
use Rattle.elab_variables.specs.declared.member_list.Member as code_member
use Rattle.elab_variables.specs.declared.member_list.Member.TheVariants as member
use Rattle.elab_hierarchy.specs.declared.instances.Placed.{Placed}
use Rattle.elab_hierarchy.specs.Named.{place_of}
use Rattle.elab_hierarchy.specs.Tops.{StandsAt}
use Rattle.elab_hierarchy.proofs.Found.{place-first}
use Rattle.elab_primitives.specs.Refusals.{RefusesPrimitive}
use Rattle.elab_modules.specs.declared.prepared.Prepared.{Prepared}
use Rattle.elab_modules.specs.declared.library.Ready as code_ready
use Rattle.elab_modules.specs.declared.library.Ready.TheVariants as ready
use Rattle.elab_modules.specs.Ready.{IsReady, IsPrepared, HasReady}
use Rattle.elab_modules.specs.Reaching.{AreFirst, IsStock, KeepsModules, IsNameReady, IsUdpReady, Stocked, HasMet, primitives_of, primitives_at, RefusesNamed, RefusesModule, RefusesMet}
use Rattle.elab_modules.proofs.Among.{in-mapped, some-is}
use Rattle.elab_modules.proofs.FirstUses.{first-none, first-again, first-module}
use Rattle.elab_modules.proofs.Replaced.{set-either}
use Rattle.elab_modules.proofs.Stocking.{Parts, put-ready, put-keeps, module-put, no-module}

-- ---- the primitive of a name

pub name-ready : (source : Source) (parts : Parts) (n : List ℕ) (place : ℕ) → place_of source n ≡ Some place → HasReady parts place → IsNameReady source parts n
name-ready source parts n place e h i p f there = subst (HasReady parts) (some-is (place_of source n) place i e f) h

pub nothing-named : (source : Source) (parts : Parts) (n : List ℕ) → place_of source n ≡ None → IsNameReady source parts n
nothing-named source parts n e i p f there = cc

pub module-named : (source : Source) (parts : Parts) (n : List ℕ) (place : ℕ) (m : Module) → place_of source n ≡ Some place → StandsAt source place m → IsNameReady source parts n
module-named source parts n place m e at i p f there =
    absurd (no-module source i m p (subst (λ j. StandsAt source j m) (some-is (place_of source n) place i e f) at) there)

pub name-refused : (source : Source) (n : List ℕ) (place : ℕ) (p : Primitive) (r : Refused ElabKind) → place_of source n ≡ Some place → slice_get source place ≡ Some (a_primitive p)
    → RefusesPrimitive p r → RefusesNamed source n r
name-refused source n place p refused.NoMemory e at h = tt
name-refused source n place p (refused.Fault k w) e at h =
    let f = place-first source n place e in
    record {
      primitive = p;
      named = ap (option_and_then as_primitive) (f.first ∙ ap Some (some-is (slice_get source place) f.element (a_primitive p) f.there at));
      stands = h;
    }

pub some-ready : (parts : Parts) (place : ℕ) (d : Option code_ready.Ready) (test : Bool) → place < length parts → test ≡ is_some (get_or parts place d) → test ≡ true → HasReady parts place
some-ready parts place d test lt e h = by (get_or parts place d) (slice_get-get_or parts place d lt) (sym e ∙ h)
  where
    by : (o : Option code_ready.Ready) → slice_get parts place ≡ Some o → is_some o ≡ true → HasReady parts place
    by None f g = cc
    by (Some r) f g = (r, f)

pub none-ready : (parts : Parts) (place : ℕ) (d : Option code_ready.Ready) (test : Bool) → place < length parts → test ≡ is_some (get_or parts place d) → test ≡ false → ¬ HasReady parts place
none-ready parts place d test lt e h has =
    let there : get_or parts place d ≡ Some has.0 = some-is (slice_get parts place) (get_or parts place d) (Some has.0) (slice_get-get_or parts place d lt) has.1 in
    differ (get_or parts place d) has.0 there (sym e ∙ h)
  where
    differ : (o : Option code_ready.Ready) (r : code_ready.Ready) → o ≡ Some r → ¬ (is_some o ≡ false)
    differ None r f g = cc
    differ (Some q) r f g = cc

pub keeps-same : (parts : Parts) → KeepsModules parts parts
keeps-same parts = record { kept = λ i h. h; same = λ i p h. h }

keeps-then : (before mid after : Parts) → KeepsModules before mid → KeepsModules mid after → KeepsModules before after
keeps-then before mid after h k = record { kept = λ i x. k.kept i (h.kept i x); same = λ i p x. h.same i p (k.same i p x) }

-- ---- what the members of a module name

pub udp-kept : (source : Source) (before after : Parts) → ((i : ℕ) → HasReady before i → HasReady after i) → (x : Member) → IsUdpReady source before x → IsUdpReady source after x
udp-kept source before after kept (assignment j) h = tt
udp-kept source before after kept (supply n v) h = tt
udp-kept source before after kept (gate g d i) h = tt
udp-kept source before after kept (path p) h = tt
udp-kept source before after kept (check c) h = tt
udp-kept source before after kept (instance n d i) h = λ j p e at. kept j (h j p e at)

udps-kept : (source : Source) (before after : Parts) → ((i : ℕ) → HasReady before i → HasReady after i) → (ms : List Member) → AllByRecursion (IsUdpReady source before) ms
    → AllByRecursion (IsUdpReady source after) ms
udps-kept source before after kept ms h = all-weaker (IsUdpReady source before) (IsUdpReady source after) ms (udp-kept source before after kept) h

pub stocked-first : (source : Source) (parts : Parts) (udps : List UdpUse) → IsStock source parts udps → Stocked source parts parts udps udps []
stocked-first source parts udps h = record { stock = h; keeps = keeps-same parts; named = tt; first = λ met k. subst (AreFirst source parts udps) (sym (append-nil met)) k }

-- what a member's primitive adds to the tables
abbrev pub AddsFirst : Source → Parts → Parts → List UdpUse → List UdpUse → Member → Type 0
AddsFirst source before after udps more x = (met : List Primitive) → AreFirst source before udps met → AreFirst source after more (met ++ filter_map (member_primitive source) (x ∷ []))

pub stocked-next : (source : Source) (d x : code_member.Member) (before mid after : Parts) (tables udps more : List UdpUse) (ms : List code_member.Member) (k : ℕ) → k < length ms → x ≡ slice_index_or ms k d
    → Stocked source before mid tables udps (map view_member (take k ms)) → IsStock source after more → KeepsModules mid after → IsUdpReady source after (view_member x)
    → AddsFirst source mid after udps more (view_member x) → Stocked source before after tables more (map view_member (take (k + 1) ms))
stocked-next source d x before mid after tables udps more ms k lt is h stock keeps named adds =
    let whole : map view_member (take k ms) ++ view_member x ∷ [] ≡ map view_member (take (k + 1) ms) =
    ap (λ y. map view_member (take k ms) ++ view_member y ∷ []) is ∙ sym (ap (map view_member) (take_more ms k d lt) ∙ map-append view_member (take k ms) (slice_index_or ms k d ∷ [])) in
    record {
      stock = stock;
      keeps = keeps-then before mid after h.keeps keeps;
      named = subst (AllByRecursion (IsUdpReady source after)) whole
          (all-append (IsUdpReady source after) (map view_member (take k ms)) (view_member x ∷ []) (udps-kept source mid after keeps.kept (map view_member (take k ms)) h.named) (named, tt));
      first = λ met f. subst (AreFirst source after more) (joined met (map view_member (take k ms)) (view_member x ∷ []) (map view_member (take (k + 1) ms)) whole)
          (adds (met ++ filter_map (member_primitive source) (map view_member (take k ms))) (h.first met f));
    }
  where
    joined : (met : List Primitive) (xs ys zs : List Member) → xs ++ ys ≡ zs
        → (met ++ filter_map (member_primitive source) xs) ++ filter_map (member_primitive source) ys ≡ met ++ filter_map (member_primitive source) zs
    joined met xs ys zs e =
        append_assoc met (filter_map (member_primitive source) xs) (filter_map (member_primitive source) ys)
        ∙ ap (λ ps. met ++ ps) (sym (filter_map-append (member_primitive source) xs ys) ∙ ap (filter_map (member_primitive source)) e)

-- a member that is no instance of a definition
abbrev pub IsOther : code_member.Member → Type 0
IsOther x = (n : Name) (d : Bor (Option Delay)) (i : Bor Instance) → x ≡ member.Instance n d i → ⊥

names-none : (source : Source) (parts : Parts) (x : code_member.Member) → IsOther x → IsUdpReady source parts (view_member x) × (member_primitive source (view_member x) ≡ None)
names-none source parts (member.Declared n e) h = (tt, refl)
names-none source parts (member.Assignment j) h = (tt, refl)
names-none source parts (member.Supply n v) h = (tt, refl)
names-none source parts (member.Gate g d i) h = (tt, refl)
names-none source parts (member.Instance n d i) h = absurd (h n d i refl)
names-none source parts (member.Path p) h = (tt, refl)
names-none source parts (member.Check w) h = (tt, refl)

pub stocked-other : (source : Source) (d x : code_member.Member) (before mid : Parts) (tables udps : List UdpUse) (ms : List code_member.Member) (k : ℕ) → k < length ms → x ≡ slice_index_or ms k d
    → IsOther x → Stocked source before mid tables udps (map view_member (take k ms)) → Stocked source before mid tables udps (map view_member (take (k + 1) ms))
stocked-other source d x before mid tables udps ms k lt is other h =
    let none = names-none source mid x other in
    stocked-next source d x before mid mid tables udps udps ms k lt is h h.stock (keeps-same mid) none.0
    (λ met f. subst (AreFirst source mid udps) (sym (ap (λ o. met ++ cons_option o []) none.1 ∙ append-nil met)) f)

pub stocked-all : (source : Source) (before after : Parts) (tables udps : List UdpUse) (ms : List code_member.Member) (k : ℕ) → k ≡ length ms
    → Stocked source before after tables udps (map view_member (take k ms)) → Stocked source before after tables udps (map view_member ms)
stocked-all source before after tables udps ms k e h = subst (λ xs. Stocked source before after tables udps (map view_member xs)) (ap (λ n. take n ms) e ∙ take-length ms) h

-- ---- one instance's module more

-- the primitives that are named at the places so far and at one more
places-more : (source : Source) (places : List ℕ) (place : ℕ) → flat_map (primitives_at source) places ++ primitives_at source place ≡ flat_map (primitives_at source) (places ++ place ∷ [])
places-more source places place =
    ap (λ ps. flat_map (primitives_at source) places ++ ps) (sym (append-nil (primitives_at source place))) ∙ sym (flat_map-append (primitives_at source) places (place ∷ []))

-- those of a module that was met were met
named-again : (source : Source) (parts : Parts) (udps : List UdpUse) (places : List ℕ) (place : ℕ) → ((m : Module) → StandsAt source place m → HasReady parts place) → HasMet source parts udps places
    → (p : Primitive) → In p (primitives_at source place) → In p (flat_map (primitives_at source) places)
named-again source parts udps places place has h p k = by (slice_get source place) refl k
  where
    met : (m : Module) → StandsAt source place m → (r : code_ready.Ready) → slice_get parts place ≡ Some (Some r) → In place places
    met m at (ready.Module q) e = h.only place q e
    met m at (ready.Primitive j) e = let r = h.stock.ready.1 place (Some (ready.Primitive j)) e in absurd (no-module source place m r.0 at r.1)

    by : (o : Option Part) → slice_get source place ≡ o → In p (primitives_of source o) → In p (flat_map (primitives_at source) places)
    by None e a = absurd a
    by (Some (a_primitive q)) e a = absurd a
    by (Some (a_module m)) e a =
        let r = has m e in
        in-flat (primitives_at source) place p places (met m e r.0 r.1) k

-- nothing was to be made ready
pub met-more : (source : Source) (parts : Parts) (udps : List UdpUse) (places : List ℕ) (place : ℕ) → ((m : Module) → StandsAt source place m → HasReady parts place)
    → HasMet source parts udps places → HasMet source parts udps (places ++ place ∷ [])
met-more source parts udps places place has h = record {
  stock = h.stock;
  named = h.named;
  only = λ i p e. in-left i places (place ∷ []) (h.only i p e);
  there = λ i m k at. elim (in-either i places (place ∷ []) k) [
    | inl a ↦ h.there i m a at
    | inr b ↦ elim b [ inl e ↦ subst (HasReady parts) (sym e) (has m (subst (λ j. StandsAt source j m) e at)) | inr c ↦ absurd c ]
  ];
  first = subst (AreFirst source parts udps) (places-more source places place)
      (first-again source parts udps (flat_map (primitives_at source) places) (primitives_at source place) (named-again source parts udps places place has h) h.first);
}

same-module : (p q : Prepared) → Some (ready.Module p) ≡ Some (ready.Module q) → p ≡ q
same-module p q e = cc

pub met-module : (source : Source) (before mid : Parts) (udps more : List UdpUse) (places : List ℕ) (place : ℕ) (p : Prepared) (m : Module) → StandsAt source place m → IsPrepared p m → place < length mid
    → Stocked source before mid udps more (map view_member p.members.items) → HasMet source before udps places
    → HasMet source (set mid place (Some (ready.Module p))) more (places ++ place ∷ [])
met-module source before mid udps more places place p m at prepared lt s h =
    let after = set mid place (Some (ready.Module p)) in
    let keeps = put-keeps mid place (ready.Module p) lt in
    record {
      stock = module-put source mid place p m more s.stock at prepared;
      named = λ i q e. elim (set-either mid place i (Some (ready.Module p)) (Some (ready.Module q)) e) [
        | inl x ↦ udps-kept source mid after keeps (map view_member q.members.items)
            (subst (λ y. AllByRecursion (IsUdpReady source mid) (map view_member y.members.items)) (sym (same-module q p x.1)) s.named)
        | inr k ↦ udps-kept source before after (λ j y. keeps j (s.keeps.kept j y)) (map view_member q.members.items) (h.named i q (s.keeps.same i q k))
      ];
      only = λ i q e. elim (set-either mid place i (Some (ready.Module p)) (Some (ready.Module q)) e) [
        | inl x ↦ in-right i places (place ∷ []) (inl x.0)
        | inr k ↦ in-left i places (place ∷ []) (h.only i q (s.keeps.same i q k))
      ];
      there = λ i n k stands. elim (in-either i places (place ∷ []) k) [
        | inl a ↦ keeps i (s.keeps.kept i (h.there i n a stands))
        | inr b ↦ elim b [ inl e ↦ subst (HasReady after) (sym e) (put-ready mid place (ready.Module p) lt) | inr c ↦ absurd c ]
      ];
      first = subst (AreFirst source after more)
          (ap (λ ps. flat_map (primitives_at source) places ++ ps) (ap (filter_map (member_primitive source)) prepared.members ∙ ap (primitives_of source) (sym at)) ∙ places-more source places place)
          (first-module source mid place p more (flat_map (primitives_at source) places ++ filter_map (member_primitive source) (map view_member p.members.items)) lt
          (s.first (flat_map (primitives_at source) places) h.first));
    }

-- ---- all instances

get-none : (n i : ℕ) (r : Option code_ready.Ready) → slice_get (replicate n None) i ≡ Some r → r ≡ None
get-none zero i r e = cc
get-none (suc n) zero r e = let s : None ≡ r = cc in sym s
get-none (suc n) (suc i) r e = get-none n i r e

pub met-none : (source : Source) (parts : Parts) (udps : List UdpUse) (n : ℕ) → n ≡ length source → parts ≡ replicate n None → udps ≡ [] → HasMet source parts udps []
met-none source parts udps n e is none =
    let nothing : (i : ℕ) (r : Option code_ready.Ready) → slice_get parts i ≡ Some r → r ≡ None = λ i r h. get-none n i r (subst (λ ps. slice_get ps i ≡ Some r) is h) in
    let empty : (i : ℕ) (x : code_ready.Ready) → slice_get parts i ≡ Some (Some x) → ⊥ = λ i x h. absurd (no-some x (nothing i (Some x) h)) in
    let few : length udps < 2 ^ 31 = subst (λ us. length us < 2 ^ 31) (sym none) (omega arith) in
    record {
      stock = record {
        ready = (ap length is ∙ length-replicate n None ∙ e, λ i r h. subst (λ o. IsReady source i o) (sym (nothing i r h)) tt);
        tables = λ i k p h at. absurd (empty i (ready.Primitive k) h);
        few = few;
      };
      named = λ i p h. absurd (empty i (ready.Module p) h);
      only = λ i p h. absurd (empty i (ready.Module p) h);
      there = λ i m h at. absurd h;
      first = first-none source parts udps none empty;
    }
  where
    no-some : (x : code_ready.Ready) → ¬ (Some x ≡ None)
    no-some x e = cc

abbrev pub places_of : List Placed → List ℕ
places_of ps = map (λ p. p.definition) ps

pub met-next : (source : Source) (d x : Placed) (parts : Parts) (udps : List UdpUse) (ps : List Placed) (k : ℕ) → k < length ps → x ≡ slice_index_or ps k d
    → HasMet source parts udps (places_of (take k ps) ++ x.definition ∷ []) → HasMet source parts udps (places_of (take (k + 1) ps))
met-next source d x parts udps ps k lt is h =
    subst (HasMet source parts udps)
    (ap (λ y. places_of (take k ps) ++ y.definition ∷ []) is ∙ sym (ap places_of (take_more ps k d lt) ∙ map-append (λ p. p.definition) (take k ps) (slice_index_or ps k d ∷ []))) h

pub met-all : (source : Source) (parts : Parts) (udps : List UdpUse) (ps : List Placed) (k : ℕ) → k ≡ length ps → HasMet source parts udps (places_of (take k ps))
    → HasMet source parts udps (places_of ps)
met-all source parts udps ps k e h = subst (λ xs. HasMet source parts udps (places_of xs)) (ap (λ n. take n ps) e ∙ take-length ps) h

pub met-refused : (source : Source) (d x : Placed) (ps : List Placed) (k : ℕ) (r : Refused ElabKind) → k < length ps → x ≡ slice_index_or ps k d
    → ((m : Module) → StandsAt source x.definition m → RefusesModule source m r) → RefusesMet source (places_of ps) r
met-refused source d x ps k refused.NoMemory lt is h = tt
met-refused source d x ps k (refused.Fault kind w) lt is h = record { at = x.definition; there = subst (λ y. In y.definition (places_of ps)) (sym is) (in-mapped (λ p. p.definition) d ps k lt); stands = h }
