-- The path uses so far, and one more.
use Rattle.std.specs.Prelude.{◌≡◌, ℕ, ◌+◌, ◌-◌, ◌<◌, ◌≤◌, All, List, [], ◌∷◌, ◌++◌, drop, flat_map, length, map, take, refl}
use Rattle.std.specs.List.{AllByRecursion}
use Rattle.std.proofs.Common.{sym, ◌∙◌, ap, arith, subst, length-append}
use Rattle.std.proofs.lemmas.Grind.{flat_map-append}
use Rattle.std.proofs.lemmas.List.{append-nil, length-map, map-append}
use Rattle.std.proofs.lemmas.List.Elements.{All-from_recursion, recursion_from_All}
use Rattle.cond_expr.specs.Condition.{Condition}
use Rattle.sg_circuit.specs.PathsSeen.{paths_seen, path_seen, spanned, IsIndexedPath, AreIndexedPaths}
use Rattle.sg_circuit.specs.declared.elements.LegTiming.{LegTiming}
use Rattle.sg_circuit.specs.declared.paths.Path.{Path}
use Rattle.sg_circuit.specs.declared.paths.Span.{Span}
use Rattle.vl_tree.specs.Tree.{Source}
use Rattle.elab_model.specs.Hierarchy.{Instance}
use Rattle.elab_model.specs.Names.{Variable}
use Rattle.elab_model.specs.Nets.{OwnNet}
use Rattle.specify_model.specs.Paths.{circuit_path}
use Rattle.circuit_model.specs.PathUses as def
use Rattle.elab_laws.specs.Handing.{all_bits}
use Rattle.elab_laws.proofs.Lists.{all-append, all-weaker}
use Rattle.elab_elements.proofs.RowParts.{part-grown, part-behind}
use Rattle.elab_elements.specs.Numbers.{HasNumbers}
use Rattle.elab_paths.specs.Ready.{path_ready, output_ready, IsReadyPath, IsReadyOutput}
use Rattle.elab_paths.specs.Uses.{IsRow, AddsUse, AreBeside, AreUses}
use Rattle.elab_paths.specs.declared.shelving.ReadyOutput.{ReadyOutput}
use Rattle.elab_paths.specs.declared.shelving.ReadyPath.{ReadyPath}
use Rattle.elab_paths.specs.declared.uses.PathUse.{PathUse}
use Rattle.elab_paths.specs.declared.uses.PathUses.{PathUses}
use Rattle.elab_paths.proofs.Beside.{beside-more}
use Rattle.elab_paths.proofs.PathEnds.{mapped-twice}

-- none yet
pub uses-none : (conditions : List Condition) (timings : List LegTiming) (made : PathUses) → made.uses.items ≡ [] → made.paths.items ≡ [] → AreUses conditions timings made []
uses-none conditions timings made u p =
    record {
      paths = ap (map (λ u. paths_seen conditions timings (spanned made.paths.items u.paths))) u;
      styles = ap (map (λ u. u.style)) u;
      spans = subst (AllByRecursion (λ u. AreIndexedPaths (length conditions) (length timings) made.paths.items u.paths)) (sym u) tt;
      beside = subst AreBeside (sym u) tt;
      count = ap length p;
    }

-- ---- parts of a list that has grown

grown : {A : Type 0} (xs ys : List A) (span : Span) → span.start ≤ span.end → span.end ≤ length xs → spanned (xs ++ ys) span ≡ spanned xs span
grown xs ys span le lt = part-grown xs ys span.start (span.end - span.start) (omega (arith, le, lt))

behind : {A : Type 0} (xs ys zs : List A) (span : Span) → zs ≡ xs ++ ys → span.start ≡ length xs → span.end ≡ length zs → spanned zs span ≡ ys
behind xs ys zs span e s t =
    let long : length zs ≡ length xs + length ys = ap length e ∙ length-append xs ys in
    let count : length ys ≡ span.end - span.start = omega (arith, s, t, long) in
    ap (λ ws. spanned ws span) e ∙ ap (λ n. take (span.end - span.start) (drop n (xs ++ ys))) s ∙ part-behind xs ys (span.end - span.start) count

indexed-grown : (n m : ℕ) (xs ys : List Path) (span : Span) → AreIndexedPaths n m xs span → AreIndexedPaths n m (xs ++ ys) span
indexed-grown n m xs ys span h =
    let long = length-append xs ys in
    record {
      ordered = h.ordered;
      within = (let w = h.within in omega (arith, w, long));
      each = subst (All (IsIndexedPath n m)) (sym (grown xs ys span h.ordered h.within)) h.each;
    }

same-paths : (conditions : List Condition) (timings : List LegTiming) (xs ys : List Path) (us : List PathUse) → AllByRecursion (λ u. AreIndexedPaths (length conditions) (length timings) xs u.paths) us
    → map (λ u. paths_seen conditions timings (spanned (xs ++ ys) u.paths)) us ≡ map (λ u. paths_seen conditions timings (spanned xs u.paths)) us
same-paths conditions timings xs ys [] h = refl
same-paths conditions timings xs ys (u ∷ us) h =
    ap (λ z. paths_seen conditions timings z ∷ map (λ u. paths_seen conditions timings (spanned (xs ++ ys) u.paths)) us) (grown xs ys u.paths h.0.ordered h.0.within)
    ∙ ap (λ zs. paths_seen conditions timings (spanned xs u.paths) ∷ zs) (same-paths conditions timings xs ys us h.1)

mapped-more : {A B C : Type 0} (f : A → C) (g : B → C) (xs zs : List A) (x : A) (ys : List B) (y : B) → zs ≡ xs ++ x ∷ [] → map f xs ≡ map g ys → f x ≡ g y → map f zs ≡ map g (ys ++ y ∷ [])
mapped-more f g xs zs x ys y e h k =
    ap (map f) e ∙ map-append f xs (x ∷ []) ∙ ap (λ ws. ws ++ f x ∷ []) h ∙ ap (λ w. map g ys ++ w ∷ []) k ∙ sym (map-append g ys (y ∷ []))

-- ---- one more

pub row-is : (all : List OwnNet) (source : Source) (s : Instance) (vs : List Variable) (row : List ℕ) → HasNumbers all source s vs row → IsRow vs row (def.bit_number all source s)
row-is all source s vs row h = h.numbers

pub one-more : (conditions : List Condition) (timings : List LegTiming) (all : List OwnNet) (source : Source) (s : Instance) (vs : List Variable) (row : List ℕ) (o : ReadyOutput) (old new : PathUses)
    (us : List def.PathUse) → HasNumbers all source s vs row → IsReadyOutput (length (all_bits vs)) (length timings) (length conditions) o → AreUses conditions timings old us → AddsUse conditions vs row o old new
    → AreUses conditions timings new (us ++ def.path_use all source s (output_ready timings conditions vs o) ∷ [])
one-more conditions timings all source s vs row o old new us here ready h k =
    let net = def.bit_number all source s in
    let made = def.path_use all source s (output_ready timings conditions vs o) in
    let r = row-is all source s vs row here in
    let more = k.paths.added in
    let seen : paths_seen conditions timings more ≡ made.paths = k.paths.seen net timings r ∙ sym (mapped-twice (path_ready timings conditions vs) (circuit_path net) o.paths.items) in
    let long : length new.paths.items ≡ length old.paths.items + length more = ap length k.paths.are ∙ length-append old.paths.items more in
    let count : length more ≡ length made.paths = sym (length-map more (path_seen conditions timings)) ∙ ap length seen in
    let F = λ (ps : List Path) (u : PathUse). paths_seen conditions timings (spanned ps u.paths) in
    let P = λ (ps : List Path) (u : PathUse). AreIndexedPaths (length conditions) (length timings) ps u.paths in
    let own : spanned new.paths.items k.added.paths ≡ more = behind old.paths.items more new.paths.items k.added.paths k.paths.are k.start_is k.end_is in
    let timed : AllByRecursion (λ (p : ReadyPath). p.timing < length timings) o.paths.items =
    all-weaker (IsReadyPath (length (all_bits vs)) (length timings) (length conditions)) (λ p. p.timing < length timings) o.paths.items (λ p q. q.timing)
    (recursion_from_All (IsReadyPath (length (all_bits vs)) (length timings) (length conditions)) o.paths.items ready.paths) in
    record {
      paths = mapped-more (F new.paths.items) (λ u. u.paths) old.uses.items new.uses.items k.added us made k.uses
          (ap (λ ps. map (F ps) old.uses.items) k.paths.are ∙ same-paths conditions timings old.paths.items more old.uses.items h.spans ∙ h.paths)
          (ap (paths_seen conditions timings) own ∙ seen);
      styles = mapped-more (λ u. u.style) (λ u. u.style) old.uses.items new.uses.items k.added us made k.uses h.styles k.style_is;
      spans = subst (AllByRecursion (P new.paths.items)) (sym k.uses)
          (all-append (P new.paths.items) old.uses.items (k.added ∷ [])
          (subst (λ ps. AllByRecursion (P ps) old.uses.items) (sym k.paths.are)
          (all-weaker (P old.paths.items) (P (old.paths.items ++ more)) old.uses.items (λ u q. indexed-grown (length conditions) (length timings) old.paths.items more u.paths q) h.spans)) (
            record {
              ordered = (let a = k.start_is in let b = k.end_is in omega (arith, a, b, long));
              within = (let b = k.end_is in omega (arith, b));
              each = subst (All (IsIndexedPath (length conditions) (length timings))) (sym own) (All-from_recursion (IsIndexedPath (length conditions) (length timings)) more (k.paths.indexed (length timings) timed));
            },
            tt,
          ));
      beside = subst AreBeside (sym k.uses)
          (beside-more old.uses.items k.added h.beside
          (all-weaker (P old.paths.items) (λ u. u.paths.end ≤ k.added.paths.start) old.uses.items (λ u q. (let w = q.within in let s = k.start_is in omega (arith, w, s))) h.spans));
      count = long ∙ ap (λ n. n + length more) h.count ∙ ap (λ n. length (flat_map (λ u. u.paths) us) + n) (count ∙ sym (ap length (append-nil made.paths)))
          ∙ sym (ap length (flat_map-append (λ u. u.paths) us (made ∷ [])) ∙ length-append (flat_map (λ u. u.paths) us) (made.paths ++ []));
    }
