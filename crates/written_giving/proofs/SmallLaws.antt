-- No entry of a circuit's tree is too large in the circuit, and a part's is for its check.
use Rattle.std.proofs.Common.{◌≡◌, ◌<◌, Bool, true, false, List, length, refl, sym, ◌∙◌, ap, arith, inl, inr}
use Rattle.std.specs.Prelude.{ℕ, ◌+◌, ◌*◌, ◌^◌, ◌==◌, ◌&&◌, ◌||◌, not, nat_lt, nat_le, ℤ, unsigned_abs, Option, Some, None, unwrap_or}
use Rattle.std.specs.List.{list_any}
use Rattle.std.proofs.lemmas.Bool.{or_parts, and_from, lt-ltb, leb-false}
use Rattle.late_limits.proofs.NumberLaws.{test_same}
use Rattle.sg_delay.specs.declared.corners.Corner.{Corner}
use Rattle.sg_circuit.specs.declared.checks.CheckKind.{CheckKind}
use Rattle.sg_circuit.specs.declared.checks.CheckKind.TheVariants as kind
use Rattle.sg_circuit.specs.Circuit.{Circuit, scope_at}
use Rattle.sg_circuit.specs.Closed.{IsClosed}
use Rattle.sg_circuit.specs.Signals.{takes_lates, signals}
use Rattle.sg_circuit.specs.Timings.{Timing}
use Rattle.sdf_tree.specs.declared.words.Divider.TheVariants.{Slash}
use Rattle.sdf_tree.specs.Meant.{Triple}
use Rattle.annotation_model.specs.Applied.{is_too_large, chosen_if, is_limit_large, are_limits_large}
use Rattle.annotation_model.specs.Given.{Given}
use Rattle.annotation_model.specs.Matching.{limits_for}
use Rattle.annotation_model.specs.Spots.{Spot, leg_spot, path_spot, scope_of, is_for_spot, Checked, all_checked, given_to, is_given, weight_of, bounds}
use Rattle.written_model.specs.declared.parts.Part.{Part}
use Rattle.written_model.specs.declared.parts.Part.TheVariants as part
use Rattle.written_model.specs.Entries.{CheckEntry, check_entries, limit_at}
use Rattle.written_model.specs.Faults.{AreFaultless, is_part_of, is_for_window, is_heavy}
use Rattle.written_model.specs.Tree.{event_terminal, datum_of}
use Rattle.written_reading.specs.Named.{IsNamed}
use Rattle.written_giving.proofs.CheckLaws.{check-entry, fits_key, triple, gives-own}
use Rattle.written_giving.proofs.PartLaws.{cell_check, first_part, second_part, part-of-kind, first-own, first-only, second-own, second-only, first-in, second-in}
use Rattle.written_giving.proofs.FaultLaws.{scope_grid, scale, size-read, check-size, path-read, path-twelve, leg-read, leg-twelve}
use Rattle.written_giving.proofs.GivenLaws.{IsGivenOf, a_leg, a_path, a_check, leg-given-for, path-given-for, leg-none, check-none}
use Rattle.written_giving.proofs.LimitLaws.{for-part, part-limit, no-second, key-own}
use Rattle.written_giving.proofs.MemberLaws.{Mem, any-in, any-none}
use Rattle.written_giving.proofs.TimingLaws.{changes-small}
use Rattle.written_giving.proofs.TreeLaws.{leg_given, path_given, check_given}

first-window : (k : CheckKind) → takes_lates k ≡ true → is_part_of (first_part k) k ≡ true
first-window kind.Setuphold e = refl
first-window kind.Recrem e = refl
first-window k e = absurd cc

second-window : (k : CheckKind) (p : Part) → second_part k ≡ Some p → is_part_of p k ≡ true
second-window kind.Setuphold part.Hold e = refl
second-window kind.Recrem part.Removal e = refl
second-window k p e = absurd cc

and-off : (a b : Bool) → (a && b) ≡ false → b ≡ true → a ≡ false
and-off a true e f = by a e
  where
    by : (x : Bool) → (x && true) ≡ false → x ≡ false
    by true e = e
    by false e = refl
and-off a false e f = absurd cc

module _ (c : Circuit) (closed : IsClosed c) (named : IsNamed c) (faultless : AreFaultless c) (corner : Corner) where
  -- at a leg or a path
  pub spot-small : (s : ℕ) → s < length c.scopes → (g : Given) → IsGivenOf c s g → (y : Spot) → scope_of y < length c.scopes → (ts : List Timing) → is_for_spot c Slash g y ≡ true → is_too_large (scope_grid c corner (scope_of y)) g.entry ts ≡ false
  spot-small s l g (a_leg e m) (leg_spot r is o us) k ts t =
      let same : s ≡ r = (leg-given-for c closed named s e r is o us l k m t).0 in
      ap (λ q. is_too_large (scope_grid c corner q) (leg_given c s e).entry ts) (sym same)
      ∙ changes-small (scope_grid c corner s) refl (scale c closed faultless corner s l) e.numbers ts (leg-read c closed faultless corner s l e m) (leg-twelve c closed faultless corner s l e m)
  spot-small s l g (a_leg e m) (path_spot r o p) k ts t = absurd (let z : false ≡ true = sym (leg-none c s e r o p) ∙ t in cc)
  spot-small s l g (a_path e m) (leg_spot r is o us) k ts t = absurd (let z : false ≡ true = t in cc)
  spot-small s l g (a_path e m) (path_spot r o p) k ts t =
      let fits = path-given-for c closed named s e r o p l k m t in
      ap (λ q. is_too_large (scope_grid c corner q) (path_given c s e).entry ts) (sym fits.scope)
      ∙ changes-small (scope_grid c corner s) refl (scale c closed faultless corner s l) e.numbers ts (path-read c closed faultless corner s l e m) (path-twelve c closed faultless corner s l e m)
  spot-small s l g (a_check e m) y k ts t = absurd (let z : false ≡ true = sym (check-none c s e y) ∙ t in cc)

  -- at a part of a timing check
  light : (s : ℕ) (e : CheckEntry) (k : Checked) → Mem e (check_entries c s) → Mem k (all_checked c) → s ≡ k.check.scope → fits_key e.key k ≡ true → (takes_lates k.timing.kind ≡ true → is_part_of e.key.part k.timing.kind ≡ true)
      → nat_lt (unsigned_abs e.limit * weight_of c (takes_lates k.timing.kind) s) (2 ^ 60) ≡ true
  light s e k m n same f window = by (takes_lates k.timing.kind) refl
    where
      by : (b : Bool) → takes_lates k.timing.kind ≡ b → nat_lt (unsigned_abs e.limit * weight_of c b s) (2 ^ 60) ≡ true
      by true t =
          let weight = length (signals c.checks c.check_timings s) + 1 in
          let fits : is_for_window s e.key k ≡ true =
          and_from (k.check.scope == s) (is_part_of e.key.part k.timing.kind && fits_key e.key k) (test_same k.check.scope s (sym same)) (and_from (is_part_of e.key.part k.timing.kind) (fits_key e.key k) (window t) f) in
          let heavy : is_heavy c s e ≡ false = any-none (is_heavy c s) (check_entries c s) e (or_parts _ _ (faultless.short s)).1 m in
          let less = leb-false (2 ^ 60) (unsigned_abs e.limit * weight) (and-off (nat_le (2 ^ 60) (unsigned_abs e.limit * weight)) (list_any (is_for_window s e.key) (all_checked c)) heavy (any-in (is_for_window s e.key) (all_checked c) k n fits)) in
          lt-ltb (unsigned_abs e.limit * weight) (2 ^ 60) less
      by false t =
          let short = (size-read c faultless s (unsigned_abs e.limit) (check-size c faultless s e m)).short in
          lt-ltb (unsigned_abs e.limit * 1) (2 ^ 60) (let z : unsigned_abs e.limit * 1 ≡ unsigned_abs e.limit = one (unsigned_abs e.limit) in omega (arith, short, z))
        where
          one : (n : ℕ) → n * 1 ≡ n
          one n = omega arith

  module _ (k : Checked) (n : Mem k (all_checked c)) where
    abbrev weight : ℕ
    weight = weight_of c (takes_lates k.timing.kind) k.check.scope

    part-small : (s : ℕ) (e : CheckEntry) → Mem e (check_entries c s) → s ≡ k.check.scope → fits_key e.key k ≡ true → (takes_lates k.timing.kind ≡ true → is_part_of e.key.part k.timing.kind ≡ true) → is_limit_large weight (Some e.limit) ≡ false
    part-small s e m same f window =
        ap (λ r. not (nat_lt (unsigned_abs e.limit * weight_of c (takes_lates k.timing.kind) r) (2 ^ 60))) (sym same) ∙ ap not (light s e k m n same f window)

    abbrev given_limit : (Option Triple × Option Triple → Option Triple) → Given → Option ℤ
    given_limit pick g = chosen_if (scope_grid c corner k.check.scope) (pick (given_to c Slash g k))

    first-small : (s : ℕ) → s < length c.scopes → (e : CheckEntry) → Mem e (check_entries c s) → is_limit_large weight (given_limit (λ l. l.0) (check_given c s e)) ≡ false
    first-small s l e m =
        let d = k.timing.kind in
        let x = limit_at k.timing.limits 0 in
        elim (for-part c closed named faultless corner k n (λ l. l.0) refl (first_part d) x (first-in d k.timing.limits) (λ q refer datum t f. first-only refer datum t q d f)
        (λ refer datum t. ap (λ (l : Option Triple × Option Triple). l.0) (first-own refer datum t d)) s l e m) [
          | inl none ↦ ap (λ o. is_limit_large weight (chosen_if (scope_grid c corner k.check.scope) o)) none
          | inr h ↦ ap (is_limit_large weight) (part-limit c closed named faultless corner k n (λ l. l.0) refl (first_part d) x (first-in d k.timing.limits) (λ q refer datum t f. first-only refer datum t q d f)
              (λ refer datum t. ap (λ (l : Option Triple × Option Triple). l.0) (first-own refer datum t d)) s e m h)
              ∙ part-small s e m h.scope h.key (λ t. ap (λ q. is_part_of q d) h.same_part ∙ first-window d t)
        ]

    second-small : (s : ℕ) → s < length c.scopes → (e : CheckEntry) → Mem e (check_entries c s) → is_limit_large weight (given_limit (λ l. l.1) (check_given c s e)) ≡ false
    second-small s l e m = by (second_part k.timing.kind) refl
      where
        by : (o : Option Part) → second_part k.timing.kind ≡ o → is_limit_large weight (given_limit (λ l. l.1) (check_given c s e)) ≡ false
        by None f = ap (λ o. is_limit_large weight (chosen_if (scope_grid c corner k.check.scope) o)) (no-second c closed named k n f s l (check_given c s e) (a_check e m))
        by (Some p) f =
            let d = k.timing.kind in
            let x = limit_at k.timing.limits 1 in
            elim (for-part c closed named faultless corner k n (λ l. l.1) refl p x (second-in d k.timing.limits p f) (λ q refer datum t h. ap (λ (o : Option Part). unwrap_or o q) (sym (second-only refer datum t q d h) ∙ f))
            (λ refer datum t. ap (λ (l : Option Triple × Option Triple). l.1) (second-own refer datum t d p f)) s l e m) [
              | inl none ↦ ap (λ o. is_limit_large weight (chosen_if (scope_grid c corner k.check.scope) o)) none
              | inr h ↦ ap (is_limit_large weight) (part-limit c closed named faultless corner k n (λ l. l.1) refl p x (second-in d k.timing.limits p f) (λ q refer datum t h. ap (λ (o : Option Part). unwrap_or o q) (sym (second-only refer datum t q d h) ∙ f))
                  (λ refer datum t. ap (λ (l : Option Triple × Option Triple). l.1) (second-own refer datum t d p f)) s e m h)
                  ∙ part-small s e m h.scope h.key (λ t. ap (λ q. is_part_of q d) h.same_part ∙ second-window d p f)
            ]

    pub limits-small : (s : ℕ) → s < length c.scopes → (g : Given) → IsGivenOf c s g → are_limits_large (bounds c k) (scope_grid c corner k.check.scope) (given_to c Slash g k) ≡ false
    limits-small s l g (a_leg e m) = refl
    limits-small s l g (a_path e m) = refl
    limits-small s l g (a_check e m) =
        ap (λ b. b || is_limit_large weight (given_limit (λ l. l.1) (check_given c s e))) (first-small s l e m) ∙ second-small s l e m

  -- ---- each entry is for what it is written of

  pub check-own : (s : ℕ) → s < length c.scopes → (e : CheckEntry) → (m : Mem e (check_entries c s)) → is_given (given_to c Slash (check_given c s e) (check-entry c s e m).of) ≡ true
  check-own s l e m =
      let i = check-entry c s e m in
      let k = i.of in
      let vs = (scope_at c s).variables in
      let key : fits_key e.key k ≡ true = ap (λ (x : CheckEntry). fits_key x.key k) i.is ∙ key-own k i.piece in
      let part : e.key.part ≡ i.piece.0 = ap (λ (x : CheckEntry). x.key.part) i.is in
      ap is_given (gives-own c closed named s l e k m i.scope key)
      ∙ (ap (λ p. is_given (limits_for (cell_check p (event_terminal vs e.key.refer) (event_terminal vs (datum_of e.key)) (triple e)) k.timing.kind)) part
      ∙ elim (part-of-kind k.timing.kind k.timing.limits i.piece i.in_kind) [
        | inl f ↦ ap (λ p. is_given (limits_for (cell_check p (event_terminal vs e.key.refer) (event_terminal vs (datum_of e.key)) (triple e)) k.timing.kind)) f.0
            ∙ ap is_given (first-own (event_terminal vs e.key.refer) (event_terminal vs (datum_of e.key)) (triple e) k.timing.kind)
        | inr f ↦ ap is_given (second-own (event_terminal vs e.key.refer) (event_terminal vs (datum_of e.key)) (triple e) k.timing.kind i.piece.0 f.0)
      ])
