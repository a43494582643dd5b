-- The Lates of a timing check are elements of the circuit, and copy the nets of its terminals.
use Rattle.std.specs.Prelude.{◌≡◌, ℕ, ◌&&◌, ◌==◌, ◌||◌, Bool, false, List, [], ◌∷◌, Some, None, cond, filter, find, map, refl, slice_get, slice_index_or, unwrap_or}
use Rattle.std.specs.List.{AllByRecursion, enumerate_from}
use Rattle.std.proofs.Common.{sym, ◌∙◌, ap, subst}
use Rattle.std.proofs.lemmas.Option.{slice_get_within}
use Rattle.sg_circuit.specs.Circuit.{Kind, Gate, Udp, Pass, Leg, Path, Late, element_at}
use Rattle.sg_circuit.specs.Closed.{IsLate, IsLateOf}
use Rattle.sg_delay.specs.declared.corners.Corner.{Corner}
use Rattle.sg_text.specs.declared.places.Place.{Place}
use Rattle.vl_tree.specs.Tree.{Module, Source}
use Rattle.elab_model.specs.Delays.{tick_of}
use Rattle.elab_model.specs.Drivers.{elements}
use Rattle.elab_model.specs.Elements.{Component, late_at}
use Rattle.elab_model.specs.Hierarchy.{Instance, instances}
use Rattle.elab_model.specs.Lates.{DelayedCopy, is_same_copy, module_copies}
use Rattle.elab_model.specs.Nets.{nets}
use Rattle.elab_model.specs.Numbered.{element_of}
use Rattle.specify_model.specs.Outputs.{PathOutput, path_outputs}
use Rattle.circuit_model.specs.Circuits.{circuit}
use Rattle.circuit_model.specs.CheckUses.{is_late, is_late_in, lates_in, late_number}
use Rattle.circuit_model.specs.PathUses.{PathUse, bit_number, circuit_elements, kind_by, path_use, path_uses_of, path_uses, reads, with_paths}
use Rattle.elab_laws.specs.LateLaws.{is_late as is_late_kind, is_late_of}
use Rattle.elab_laws.specs.Words.{In}
use Rattle.elab_laws.proofs.Copies.{copy_of, copies-decide, copy-same}
use Rattle.elab_laws.proofs.Filters.{all-filter, filter-same, filter-second}
use Rattle.elab_laws.proofs.LatesInOrder.{lates-are_in_order}
use Rattle.elab_laws.proofs.Lists.{all-anyway, all-flat, all-get, all-map}
use Rattle.elab_laws.proofs.PartsApart.{places-are}
use Rattle.elab_closed.proofs.Fits.{home-outer}
use Rattle.elab_closed.proofs.Places.{first-at, from-map, made-at, mapped-at, mapped-get}

-- ---- the numbers of Lates

late-tests : (k : Kind) → is_late k ≡ is_late_kind k
late-tests (Gate kind delays) = refl
late-tests (Udp primitive first delays) = refl
late-tests (Pass constant) = refl
late-tests (Leg timings) = refl
late-tests (Path paths style) = refl
late-tests (Late delay) = refl

-- of an instance, in order
lates-of : (cs : List Component) (scope : ℕ) → map (λ e. e.1) (filter (is_late_in scope) (enumerate_from 0 cs)) ≡ filter (is_late_of scope) cs
lates-of cs scope =
    ap (map (λ e. e.1))
    (filter-same (is_late_in scope) (λ e. is_late_of scope e.1) (enumerate_from 0 cs)
    (all-anyway (λ e. is_late_in scope e ≡ is_late_of scope e.1) (enumerate_from 0 cs) (λ e. ap (λ b. (e.1.scope == scope) && b) (late-tests e.1.kind))))
    ∙ filter-second (is_late_of scope) 0 cs

-- an element of this number is the Late of a copy
pub record IsLateAt (source : Source) (s : Instance) (cs : List Component) (d : DelayedCopy) (e : ℕ) : Type 0 where
  pub copy : Place × DelayedCopy
  pub same : copy.1 ≡ d
  pub at : slice_get cs e ≡ Some (late_at source s copy)

pub late-there : (source : Source) (top : Module) (corner : Corner) (s : Instance) (d : DelayedCopy) → In s (instances source top) → In d (map copy_of (module_copies s.step.definition))
    → IsLateAt source s (elements source top corner) d (late_number (elements source top corner) s d)
late-there source top corner s d there h =
    let scope = s.step.number in
    let cs = elements source top corner in
    let ds = module_copies s.step.definition in
    let same : Place × DelayedCopy → Bool = λ c. is_same_copy d c.1 in
    let x = from-map copy_of d ds h in
    let f = first-at same x.0 ds x.1 (ap (is_same_copy d) (sym x.2) ∙ copy-same d) in
    let ys = filter (is_late_in scope) (enumerate_from 0 cs) in
    let get : slice_get (map (λ e. e.1) ys) f.place ≡ Some (late_at source s f.element) =
    ap (λ l. slice_get l f.place) (lates-of cs scope ∙ lates-are_in_order source top corner s there) ∙ mapped-get (late_at source s) ds f.place f.element f.at in
    let r = made-at (λ e. e.1) ys f.place (late_at source s f.element) get in
    let placed : slice_get cs r.source.0 ≡ Some r.source.1 =
    all-get (λ e. slice_get cs e.0 ≡ Some e.1) ys f.place r.source (all-filter (λ e. slice_get cs e.0 ≡ Some e.1) (is_late_in scope) (enumerate_from 0 cs) (places-are cs)) r.at in
    let number : late_number cs s d ≡ r.source.0 =
    ap (λ o. slice_index_or (lates_in cs scope) (unwrap_or o 0) 0) f.position ∙ mapped-at (λ e. e.0) ys f.place 0 r.source r.at in
    subst (IsLateAt source s cs d) (sym number) (record { copy = f.element; same = sym (copies-decide d f.element.1 f.passes); at = placed ∙ ap (λ c. Some c) r.made })

-- ---- as elements of the circuit

find-none : {A : Type 0} (p : A → Bool) (xs : List A) → AllByRecursion (λ x. p x ≡ false) xs → find p xs ≡ None
find-none p [] h = refl
find-none p (x ∷ xs) h = ap (λ b. cond b (Some x) (find p xs)) h.0 ∙ find-none p xs h.1

-- a Late reads no inner net, so it has no paths
late-kind : (source : Source) (top : Module) (corner : Corner) (s : Instance) (c : Place × DelayedCopy) → (with_paths (path_uses source top corner) (late_at source s c)).kind ≡ Late 0
late-kind source top corner s c =
    ap (kind_by (Late 0))
    (find-none (reads (late_at source s c)) (path_uses source top corner)
    (all-flat Unread (path_uses_of (nets source top) source corner (tick_of source top)) (instances source top)
    (λ t. all-map Unread (path_use (nets source top) source t) (path_outputs corner (tick_of source top) t.step.definition)
    (all-anyway (λ o. Unread (path_use (nets source top) source t o)) (path_outputs corner (tick_of source top) t.step.definition) (unread t)))))
  where
    Unread : PathUse → Type 0
    Unread u = reads (late_at source s c) u ≡ false

    unread : (t : Instance) (o : PathOutput) → Unread (path_use (nets source top) source t o)
    unread t o = ap (λ b. b || false) (home-outer source s.step s.above c.1.signal.name c.1.signal.position t.step.number o.output.name o.output.position)

pub late-of : (source : Source) (top : Module) (corner : Corner) (s : Instance) (d : DelayedCopy) → In s (instances source top) → In d (map copy_of (module_copies s.step.definition))
    → IsLateOf (circuit source top corner) (bit_number (nets source top) source s d.signal) (late_number (elements source top corner) s d)
late-of source top corner s d there h =
    let cs = elements source top corner in
    let uses = path_uses source top corner in
    let all = nets source top in
    let e = late_number cs s d in
    let r = late-there source top corner s d there h in
    let made : Component → _ = λ c. element_of all (with_paths uses c) in
    let is : element_at (circuit source top corner) e ≡ made (late_at source s r.copy) = mapped-at made cs e _ (late_at source s r.copy) r.at in
    record {
      within = slice_get_within (circuit_elements source top corner) e (made (late_at source s r.copy)) (mapped-get made cs e (late_at source s r.copy) r.at);
      kind = subst (λ x. IsLate x.kind) (sym is) (subst IsLate (sym (late-kind source top corner s r.copy)) tt);
      input = ap (λ x. x.inputs) is ∙ ap (λ (c : DelayedCopy). bit_number all source s c.signal ∷ []) r.same;
    }
