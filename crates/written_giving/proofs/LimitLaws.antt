-- The entries of all scopes give each part of a timing check its own limit.
use Rattle.std.proofs.Common.{◌≡◌, ◌<◌, ◌≤◌, Bool, true, false, List, ◌++◌, length, refl, sym, ◌∙◌, ap, subst, arith, inl, inr}
use Rattle.std.specs.Prelude.{ℕ, ◌+◌, ◌==◌, ◌&&◌, ◌⊎◌, ℤ, unsigned_abs, map, Option, Some, None, is_some}
use Rattle.std.specs.List.{flat_map, range_with_len}
use Rattle.std.specs.Option.{option_map}
use Rattle.std.proofs.lemmas.Bool.{eqb-true, and_parts, and_from}
use Rattle.late_limits.proofs.NumberLaws.{test_same}
use Rattle.cond_expr.specs.Token.{Tok}
use Rattle.sg_delay.specs.declared.corners.Corner.{Corner}
use Rattle.sg_circuit.specs.declared.checks.Check.{Check}
use Rattle.sg_circuit.specs.declared.checks.Event.{Event}
use Rattle.sg_circuit.specs.Circuit.{Circuit, scope_at}
use Rattle.sg_circuit.specs.Closed.{IsClosed, IsCheckTiming}
use Rattle.sdf_tree.specs.declared.words.Divider.TheVariants.{Slash}
use Rattle.sdf_tree.specs.Written.{Terminal}
use Rattle.sdf_tree.specs.Meant.{Triple}
use Rattle.annotation_model.specs.Applied.{chosen_if, limit_or}
use Rattle.annotation_model.specs.Given.{Given}
use Rattle.annotation_model.specs.Matching.{limits_for, none_given}
use Rattle.annotation_model.specs.Same.{bare, fits_edge, fits_words}
use Rattle.annotation_model.specs.Spots.{after, Checked, all_checked, given_to}
use Rattle.written_model.specs.declared.parts.Part.{Part}
use Rattle.written_model.specs.Entries.{EventKey, CheckKey, CheckEntry, edge_of, one_if, event_key, event_rank, datum_rank, check_rank, check_entry, check_entries, parts_of, legs, paths, checks}
use Rattle.written_model.specs.Faults.{AreFaultless, is_for_event, is_for_datum}
use Rattle.written_model.specs.Tree.{event_terminal, datum_of}
use Rattle.written_reading.specs.Named.{IsNamed}
use Rattle.written_giving.proofs.CheckLaws.{check-among, check-entry, check-entry-in, fits_key, triple, check_cell, has-events, Gives, gives-check, gives-own}
use Rattle.written_giving.proofs.PartLaws.{cell_check, second_part, second-only, has_two, part-two}
use Rattle.written_giving.proofs.FaultLaws.{one-check-value, size-read, check-size, scope_grid, scale}
use Rattle.written_giving.proofs.GivenLaws.{IsGivenOf, a_leg, a_path, a_check, given-is, ranked-pieces}
use Rattle.written_giving.proofs.KeyLaws.{edge-own, edge-fits, words-own, words-fits, option-rank, option-equal}
use Rattle.written_giving.proofs.MemberLaws.{Mem, each-of-all}
use Rattle.written_giving.proofs.StepLaws.{Sets, Passes, Leads, Skips, stays-skips, skips-each, leads-behind, leads-range, leads-ranked}
use Rattle.written_giving.proofs.TickLaws.{limit-same}
use Rattle.written_giving.proofs.TreeLaws.{leg_given, path_given, check_given, given_of}

-- ---- keys of events

event-own : (e : Event) (w : Option (List Tok)) → is_for_event (event_key e w) e w ≡ true
event-own e w =
    and_from (e.net == e.net) (fits_edge (edge_of e.edge) e.edge && fits_words (option_map bare w) w) (test_same e.net e.net refl) (and_from (fits_edge (edge_of e.edge) e.edge) (fits_words (option_map bare w) w) (edge-own e.edge) (words-own w))

pub key-own : (k : Checked) (p : Part × ℤ) → fits_key (check_entry k p).key k ≡ true
key-own k p =
    and_from (is_for_event (event_key k.timing.refer k.written.refer) k.timing.refer k.written.refer) (is_for_datum (check_entry k p).key.datum k.timing.datum k.written.datum) (event-own k.timing.refer k.written.refer) (by k.timing.datum)
  where
    by : (d : Option Event) → is_for_datum (option_map (λ (e : Event). event_key e k.written.datum) d) d k.written.datum ≡ true
    by None = refl
    by (Some e) = event-own e k.written.datum

-- of a key that fits and an event's own
record Under {A : Type 0} (rank : A → ℕ) (a b : A) : Type 0 where
  pub rank_less : rank a ≤ rank b
  pub same : rank a ≡ rank b → a ≡ b

event-keys : (a b : EventKey) → a.net ≡ b.net → a.edge ≡ b.edge → a.condition ≡ b.condition → a ≡ b
event-keys a b e f g =
    ap {B = EventKey} (λ x. record { net = x; edge = a.edge; condition = a.condition }) e
    ∙ (ap {B = EventKey} (λ x. record { net = b.net; edge = x; condition = a.condition }) f ∙ ap {B = EventKey} (λ x. record { net = b.net; edge = b.edge; condition = x }) g)

event-under : (d e : Event) (v w : Option (List Tok)) → is_for_event (event_key d v) e w ≡ true → Under event_rank (event_key d v) (event_key e w)
event-under d e v w f =
    let p = and_parts (d.net == e.net) (fits_edge (edge_of d.edge) e.edge && fits_words (option_map bare v) w) f in
    let q = and_parts (fits_edge (edge_of d.edge) e.edge) (fits_words (option_map bare v) w) p.1 in
    let edge = edge-fits d.edge e.edge q.0 in
    let words = words-fits v w q.1 in
    let a = option-rank (edge_of d.edge) (edge_of e.edge) edge in
    let b = option-rank (option_map bare v) (option_map bare w) words in
    record {
      rank_less = omega (arith, a, b);
      same = λ r. event-keys (event_key d v) (event_key e w) (eqb-true d.net e.net p.0)
          (option-equal (edge_of d.edge) (edge_of e.edge) edge (omega (arith, a, b, r))) (option-equal (option_map bare v) (option_map bare w) words (omega (arith, a, b, r)));
    }

abbrev datum_key : Option Event → Option (List Tok) → Option EventKey
datum_key d w = option_map (λ (e : Event). event_key e w) d

datum-under : (d e : Option Event) (v w : Option (List Tok)) → is_for_datum (datum_key d v) e w ≡ true → is_some (datum_key d v) ≡ is_some e → Under datum_rank (datum_key d v) (datum_key e w)
datum-under None None v w f same = record { rank_less = omega arith; same = λ r. refl }
datum-under None (Some e) v w f same = absurd (let z : false ≡ true = same in cc)
datum-under (Some d) None v w f same = absurd (let z : true ≡ false = same in cc)
datum-under (Some d) (Some e) v w f same = let u = event-under d e v w f in record { rank_less = u.rank_less; same = λ r. ap Some (u.same r) }

check-keys : (a b : CheckKey) → a.part ≡ b.part → a.refer ≡ b.refer → a.datum ≡ b.datum → a ≡ b
check-keys a b e f g =
    ap {B = CheckKey} (λ x. record { part = x; refer = a.refer; datum = a.datum }) e
    ∙ (ap {B = CheckKey} (λ x. record { part = b.part; refer = x; datum = a.datum }) f ∙ ap {B = CheckKey} (λ x. record { part = b.part; refer = b.refer; datum = x }) g)

few-ranks : (k : CheckKey) → check_rank k < 5
few-ranks k = by k.datum
  where
    one : {A : Type 0} (o : Option A) → one_if o ≤ 1
    one None = omega arith
    one (Some a) = omega arith

    by : (d : Option EventKey) → event_rank k.refer + datum_rank d < 5
    by None = omega (arith, one k.refer.edge, one k.refer.condition)
    by (Some d) = omega (arith, one k.refer.edge, one k.refer.condition, one d.edge, one d.condition)

-- a check with one limit is given no second
pub no-second : (c : Circuit) (closed : IsClosed c) (named : IsNamed c) (k : Checked) → Mem k (all_checked c) → second_part k.timing.kind ≡ None → (r : ℕ) → r < length c.scopes → (g : Given) → IsGivenOf c r g → (given_to c Slash g k).1 ≡ None
no-second c closed named k m e r within g (a_leg x n) = refl
no-second c closed named k m e r within g (a_path x n) = refl
no-second c closed named k m e r within g (a_check x n) = elim (gives-check c closed named r within x k n scope) [
  | inl none ↦ ap (λ (l : Option Triple × Option Triple). l.1) none
  | inr h ↦ ap (λ (l : Option Triple × Option Triple). l.1) h.given ∙ by (limits_for (check_cell c r x) k.timing.kind).1 refl
]
  where
    scope : k.check.scope < length c.scopes
    scope = each-of-all (λ (x : Check). x.scope < length c.scopes) c.checks closed.check_scopes k.check (check-among c k m).0

    by : (o : Option Triple) → (limits_for (check_cell c r x) k.timing.kind).1 ≡ o → o ≡ None
    by None f = refl
    by (Some t) f =
        let vs = (scope_at c r).variables in
        let second = second-only (event_terminal vs x.key.refer) (event_terminal vs (datum_of x.key)) (triple x) x.key.part k.timing.kind (ap is_some f) in
        absurd (let z : ◌≡◌ {A = Option Part} None (Some x.key.part) = sym e ∙ second in cc)

-- ---- one part of a check

module _ (c : Circuit) (closed : IsClosed c) (named : IsNamed c) (faultless : AreFaultless c) (corner : Corner) (k : Checked) (m : Mem k (all_checked c)) where
  abbrev s : ℕ
  s = k.check.scope

  pub check-scope : s < length c.scopes
  check-scope = each-of-all (λ (x : Check). x.scope < length c.scopes) c.checks closed.check_scopes k.check (check-among c k m).0

  -- a part's place among an entry's limits, and the part and the limit that stand there
  module _ (pick : Option Triple × Option Triple → Option Triple) (nothing : pick none_given ≡ None) (p : Part) (l : ℤ) (in_kind : Mem (p, l) (parts_of k.timing.kind k.timing.limits))
      (only : (q : Part) (refer datum : Terminal) (t : Triple) → is_some (pick (limits_for (cell_check q refer datum t) k.timing.kind)) ≡ true → q ≡ p)
      (own : (refer datum : Terminal) (t : Triple) → pick (limits_for (cell_check p refer datum t) k.timing.kind) ≡ Some t) where
    abbrev pub given_part : Given → Option Triple
    given_part g = pick (given_to c Slash g k)

    -- an entry is for the part
    pub record IsForPart (r : ℕ) (e : CheckEntry) : Type 0 where
      pub scope : r ≡ s
      pub key : fits_key e.key k ≡ true
      pub same_part : e.key.part ≡ p
      pub given : given_part (check_given c r e) ≡ Some (triple e)

    pub for-part : (r : ℕ) → r < length c.scopes → (e : CheckEntry) → Mem e (check_entries c r) → (given_part (check_given c r e) ≡ None) ⊎ IsForPart r e
    for-part r within e n = elim (gives-check c closed named r within e k n check-scope) [
      | inl none ↦ inl (ap pick none ∙ nothing)
      | inr g ↦ by g (is_some (pick (limits_for (check_cell c r e) k.timing.kind))) refl
    ]
      where
        none-some : (o : Option Triple) → is_some o ≡ false → o ≡ None
        none-some None e = refl
        none-some (Some t) e = absurd cc

        by : Gives c closed named r within e k → (b : Bool) → is_some (pick (limits_for (check_cell c r e) k.timing.kind)) ≡ b → (given_part (check_given c r e) ≡ None) ⊎ IsForPart r e
        by g true h =
            let vs = (scope_at c r).variables in
            let same : e.key.part ≡ p = only e.key.part (event_terminal vs e.key.refer) (event_terminal vs (datum_of e.key)) (triple e) h in
            inr (record {
              scope = g.scope;
              key = g.key;
              same_part = same;
              given = ap pick g.given ∙ (ap (λ q. pick (limits_for (cell_check q (event_terminal vs e.key.refer) (event_terminal vs (datum_of e.key)) (triple e)) k.timing.kind)) same
                  ∙ own (event_terminal vs e.key.refer) (event_terminal vs (datum_of e.key)) (triple e));
            })
        by g false h = inl (ap pick g.given ∙ none-some (pick (limits_for (check_cell c r e) k.timing.kind)) h)

    -- and so has the entry's limit
    pub part-limit : (r : ℕ) (e : CheckEntry) → Mem e (check_entries c r) → IsForPart r e → chosen_if (scope_grid c corner s) (given_part (check_given c r e)) ≡ Some e.limit
    part-limit r e n h =
        let here : Mem e (check_entries c s) = subst (λ q. Mem e (check_entries c q)) h.scope n in
        ap (chosen_if (scope_grid c corner s)) h.given
        ∙ limit-same (scope_grid c corner s) refl (scale c closed faultless corner s check-scope) e.limit (size-read c faultless s (unsigned_abs e.limit) (check-size c faultless s e here))

    -- it asks for no more than the check's own entry
    abbrev own_entry : CheckEntry
    own_entry = check_entry k (p, l)

    own-in : Mem own_entry (check_entries c s)
    own-in = check-entry-in c s k (p, l) m refl in_kind

    own-two : has_two p ≡ is_some k.timing.datum
    own-two = part-two k.timing.kind k.timing.limits (p, l) k.timing.datum in_kind (each-of-all (IsCheckTiming (length c.nets)) c.check_timings closed.check_timings k.timing (check-among c k m).1).has_datum

    under-own : (e : CheckEntry) → Mem e (check_entries c s) → fits_key e.key k ≡ true → e.key.part ≡ p → Under check_rank e.key own_entry.key
    under-own e n f same = let i = check-entry c s e n in by i.of i.piece i.is (has-events c closed named s check-scope e n).two
      where
        by : (d : Checked) (q : Part × ℤ) → e ≡ check_entry d q → has_two e.key.part ≡ is_some e.key.datum → Under check_rank e.key own_entry.key
        by d q is two =
            let fits : fits_key (check_entry d q).key k ≡ true = subst (λ (x : CheckEntry). fits_key x.key k ≡ true) is f in
            let t = and_parts (is_for_event (event_key d.timing.refer d.written.refer) k.timing.refer k.written.refer) (is_for_datum (check_entry d q).key.datum k.timing.datum k.written.datum) fits in
            let some : is_some (check_entry d q).key.datum ≡ is_some k.timing.datum = sym (subst (λ (x : CheckEntry). has_two x.key.part ≡ is_some x.key.datum) is two) ∙ (ap has_two (sym (ap (λ (x : CheckEntry). x.key.part) is) ∙ same) ∙ own-two) in
            let u = event-under d.timing.refer k.timing.refer d.written.refer k.written.refer t.0 in
            let v = datum-under d.timing.datum k.timing.datum d.written.datum k.written.datum t.1 some in
            let a = u.rank_less in
            let b = v.rank_less in
            subst (λ (x : CheckEntry). Under check_rank x.key own_entry.key) (sym is) (record {
              rank_less = omega (arith, a, b);
              same = λ r. check-keys (check_entry d q).key own_entry.key (sym (ap (λ (x : CheckEntry). x.key.part) is) ∙ same) (u.same (omega (arith, a, b, r))) (v.same (omega (arith, a, b, r)));
            })

    -- ---- what entries make of its limit

    module _ (signed : Bool) (fits : (x : ℤ) → limit_or signed (Some l) x ≡ l) where
      abbrev pub limit_step : Given → ℤ → ℤ
      limit_step g x = limit_or signed (chosen_if (scope_grid c corner s) (given_part g)) x

      abbrev pub Any : ℤ → Type 0
      Any x = Unit {0}

      none-passes : (g : Given) → given_part g ≡ None → Passes limit_step Any l tt g
      none-passes g e x h = ap (λ o. limit_or signed (chosen_if (scope_grid c corner s) o) x) e

      part-sets : (e : CheckEntry) → Mem e (check_entries c s) → IsForPart s e → e.key ≡ own_entry.key → Sets limit_step Any l tt (check_given c s e)
      part-sets e n h same x t =
          ap (λ o. limit_or signed o x) (part-limit s e n h) ∙ (ap (λ y. limit_or signed (Some y) x) (one-check-value c faultless s e own_entry n own-in same) ∙ fits x)

      part-same : (e : CheckEntry) → Mem e (check_entries c s) → check_rank e.key ≡ check_rank own_entry.key → Sets limit_step Any l tt (check_given c s e) ⊎ Passes limit_step Any l tt (check_given c s e)
      part-same e n r = elim (for-part s check-scope e n) [
        | inl none ↦ inr (none-passes (check_given c s e) none)
        | inr h ↦ inl (part-sets e n h ((under-own e n h.key h.same_part).same r))
      ]

      part-above : (e : CheckEntry) → Mem e (check_entries c s) → check_rank own_entry.key < check_rank e.key → Passes limit_step Any l tt (check_given c s e)
      part-above e n r = elim (for-part s check-scope e n) [
        | inl none ↦ none-passes (check_given c s e) none
        | inr h ↦ absurd (let u = (under-own e n h.key h.same_part).rank_less in omega (arith, u, r))
      ]

      own-given : given_part (check_given c s own_entry) ≡ Some (triple own_entry)
      own-given =
          ap pick (gives-own c closed named s check-scope own_entry k own-in refl (key-own k (p, l)))
          ∙ own (event_terminal (scope_at c s).variables own_entry.key.refer) (event_terminal (scope_at c s).variables (datum_of own_entry.key)) (triple own_entry)

      checks-lead : Leads limit_step Any l tt (map (check_given c s) (checks c s))
      checks-lead =
          subst (Leads limit_step Any l tt) (sym (ranked-pieces (λ (e : CheckEntry). check_rank e.key) (check_given c s) (check_entries c s)))
          (leads-ranked limit_step Any l tt (check_given c s) (λ (e : CheckEntry). check_rank e.key) (check_entries c s) own_entry own-in (few-ranks own_entry.key)
          (part-sets own_entry own-in (record { scope = refl; key = key-own k (p, l); same_part = refl; given = own-given }) refl) (λ e n x t. tt) part-same part-above)

      scope-leads : Leads limit_step Any l tt (given_of c s)
      scope-leads =
          leads-behind limit_step Any l tt (map (leg_given c s) (legs c s)) (map (path_given c s) (paths c s) ++ map (check_given c s) (checks c s)) (λ x t. tt)
          (leads-behind limit_step Any l tt (map (path_given c s) (paths c s)) (map (check_given c s) (checks c s)) (λ x t. tt) checks-lead)

      other-scope : (r : ℕ) → r < length c.scopes → (r ≡ s → ⊥) → Skips limit_step Any l tt (given_of c r)
      other-scope r within ne = skips-each limit_step Any l tt (given_of c r) (λ g n. none-passes g (by g (given-is c r g n)))
        where
          by : (g : Given) → IsGivenOf c r g → given_part g ≡ None
          by g (a_leg e n) = nothing
          by g (a_path e n) = nothing
          by g (a_check e n) = elim (for-part r within e n) [
            | inl none ↦ none
            | inr h ↦ absurd (ne h.scope)
          ]

      pub part-leads : (x : ℤ) → after limit_step (flat_map (given_of c) (range_with_len 0 (length c.scopes))) x ≡ l
      part-leads x =
          leads-range limit_step Any l tt (given_of c) s 0 (length c.scopes) (omega arith) (omega (arith, check-scope)) (λ r h y t. tt) scope-leads
          (λ r h j. stays-skips limit_step Any l tt (given_of c r) (other-scope r (omega (arith, j)) (λ e. omega (arith, e, h)))) x tt
