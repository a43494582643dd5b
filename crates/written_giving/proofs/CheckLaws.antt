-- The timing checks of a circuit, their entries, and which checks these are for.
use Rattle.std.proofs.Common.{◌≡◌, ◌<◌, Bool, true, false, List, [], ◌∷◌, length, refl, sym, ◌∙◌, ap, subst, inl, inr}
use Rattle.std.specs.Prelude.{ℕ, ◌==◌, ◌&&◌, ◌⊎◌, ℤ, map, Option, Some, None, IfSome, is_some, unwrap_or, if◌then◌else◌}
use Rattle.std.specs.Fmt.{signed_decimal}
use Rattle.std.specs.Option.{option_map}
use Rattle.std.proofs.lemmas.Bool.{eqb-true}
use Rattle.late_limits.proofs.NumberLaws.{test_same}
use Rattle.cond_expr.specs.Token.{Tok}
use Rattle.sg_circuit.specs.declared.checks.Check.{Check}
use Rattle.sg_circuit.specs.declared.checks.CheckTiming.{CheckTiming}
use Rattle.sg_circuit.specs.declared.checks.Event.{Event}
use Rattle.sg_circuit.specs.Checks.{CheckConditions}
use Rattle.sg_circuit.specs.Circuit.{Circuit, scope_at}
use Rattle.sg_circuit.specs.Closed.{IsClosed, IsCheckTiming}
use Rattle.sdf_tree.specs.declared.words.Divider.TheVariants.{Slash}
use Rattle.sdf_tree.specs.Written.{Terminal}
use Rattle.sdf_tree.specs.Meant.{Triple, triple_of, CellCheck}
use Rattle.annotation_model.specs.Matching.{limits_for, fits_check, fits_datum, fits_event, given_by, none_given}
use Rattle.annotation_model.specs.Scopes.{is_of_cell}
use Rattle.annotation_model.specs.Spots.{Checked, checked, all_checked, given_to}
use Rattle.written_model.specs.declared.parts.Part.{Part}
use Rattle.written_model.specs.Entries.{EventKey, CheckKey, CheckEntry, parts_of, event_key, check_entry, checks_at, check_entries}
use Rattle.written_model.specs.Faults.{is_for_event, is_for_datum}
use Rattle.written_model.specs.Names.{names_to}
use Rattle.written_model.specs.Tree.{cell_type_of, instance_of, event_terminal, datum_of, lone}
use Rattle.written_reading.specs.Named.{IsNamed, IsNamedCheck, IsVariableOf}
use Rattle.written_giving.proofs.MatchLaws.{event-test}
use Rattle.written_giving.proofs.MemberLaws.{Mem, in-flat, flat-in, in-map, map-in, each-of-all}
use Rattle.written_giving.proofs.ScopeLaws.{cell-own, cell-one}
use Rattle.written_giving.proofs.TreeLaws.{check_given}
use Rattle.written_giving.proofs.PartLaws.{cell_check, kind-is, has_two, second_if, terminals-are, part-two}

checked-in : (ks : List Check) (ts : List CheckTiming) (ws : List CheckConditions) (k : Checked) → Mem k (checked ks ts ws) → Mem k.check ks × Mem k.timing ts
checked-in [] ts ws k m = absurd m
checked-in (x ∷ ks) [] ws k m = absurd m
checked-in (x ∷ ks) (t ∷ ts) [] k m = absurd m
checked-in (x ∷ ks) (t ∷ ts) (w ∷ ws) k m = elim m [
  | inl e ↦ (inl (ap (λ (y : Checked). y.check) e), inl (ap (λ (y : Checked). y.timing) e))
  | inr n ↦ (let r = checked-in ks ts ws k n in (inr r.0, inr r.1))
]

pub check-among : (c : Circuit) (k : Checked) → Mem k (all_checked c) → Mem k.check c.checks × Mem k.timing c.check_timings
check-among c k m = checked-in c.checks c.check_timings c.check_conditions k m

module _ (c : Circuit) (s : ℕ) where
  pub record IsCheckEntry (e : CheckEntry) : Type 0 where
    pub of : Checked
    pub piece : Part × ℤ
    pub among : Mem of (all_checked c)
    pub scope : of.check.scope ≡ s
    pub in_kind : Mem piece (parts_of of.timing.kind of.timing.limits)
    pub is : e ≡ check_entry of piece

  pub check-entry : (e : CheckEntry) → Mem e (check_entries c s) → IsCheckEntry e
  check-entry e m = let r = in-flat (checks_at s) (all_checked c) e m in by r.0 r.1 (r.0.check.scope == s) refl r.2
    where
      by : (k : Checked) → Mem k (all_checked c) → (b : Bool) → (k.check.scope == s) ≡ b → Mem e (if b then map (check_entry k) (parts_of k.timing.kind k.timing.limits) else []) → IsCheckEntry e
      by k m true f n =
          let r = in-map (check_entry k) (parts_of k.timing.kind k.timing.limits) e n in
          record { of = k; piece = r.0; among = m; scope = eqb-true k.check.scope s f; in_kind = r.1; is = r.2 }
      by k m false f n = absurd n

  pub check-entry-in : (k : Checked) (p : Part × ℤ) → Mem k (all_checked c) → k.check.scope ≡ s → Mem p (parts_of k.timing.kind k.timing.limits) → Mem (check_entry k p) (check_entries c s)
  check-entry-in k p m f n =
      flat-in (checks_at s) (all_checked c) k (check_entry k p) m
      (subst (λ b. Mem (check_entry k p) (if b then map (check_entry k) (parts_of k.timing.kind k.timing.limits) else [])) (sym (test_same k.check.scope s f)) (map-in (check_entry k) (parts_of k.timing.kind k.timing.limits) p n))

-- ---- what an entry gives to a check

-- whether a key asks for what a check has
abbrev pub fits_key : CheckKey → Checked → Bool
fits_key key k = is_for_event key.refer k.timing.refer k.written.refer && is_for_datum key.datum k.timing.datum k.written.datum

abbrev pub triple : CheckEntry → Triple
triple e = triple_of (lone (signed_decimal e.limit))

abbrev pub check_cell : Circuit → ℕ → CheckEntry → CellCheck
check_cell c s e = let vs = (scope_at c s).variables in cell_check e.key.part (event_terminal vs e.key.refer) (event_terminal vs (datum_of e.key)) (triple e)

module _ (c : Circuit) (closed : IsClosed c) (named : IsNamed c) (s : ℕ) (within : s < length c.scopes) where
  timing-of : (k : Checked) → Mem k (all_checked c) → IsCheckTiming (length c.nets) k.timing
  timing-of k m = each-of-all (IsCheckTiming (length c.nets)) c.check_timings closed.check_timings k.timing (check-among c k m).1

  -- the nets of an entry are of the scope, and its part has a data event where its key has one
  pub record HasEvents (key : CheckKey) : Type 0 where
    pub refer : IsVariableOf (scope_at c s).variables key.refer.net
    pub datum : IfSome key.datum (λ d. IsVariableOf (scope_at c s).variables d.net)
    pub two : has_two key.part ≡ is_some key.datum

  pub has-events : (e : CheckEntry) → Mem e (check_entries c s) → HasEvents e.key
  has-events e m =
      let i = check-entry c s e m in
      let k = i.of in
      let n : IsNamedCheck c k = each-of-all (IsNamedCheck c) (all_checked c) named.checks k i.among in
      subst (λ (x : CheckEntry). HasEvents x.key) (sym i.is) (record {
        refer = subst (λ r. IsVariableOf (scope_at c r).variables k.timing.refer.net) i.scope n.refer;
        datum = datum-net k k.timing.datum i.scope n.datum;
        two = part-two k.timing.kind k.timing.limits i.piece k.timing.datum i.in_kind (timing-of k i.among).has_datum ∙ same-some k k.timing.datum;
      })
    where
      datum-net : (k : Checked) (d : Option Event) → k.check.scope ≡ s → IfSome d (λ e. IsVariableOf (scope_at c k.check.scope).variables e.net)
          → IfSome (option_map (λ (e : Event). event_key e k.written.datum) d) (λ x. IsVariableOf (scope_at c s).variables x.net)
      datum-net k None f h = tt
      datum-net k (Some e) f h = subst (λ r. IsVariableOf (scope_at c r).variables e.net) f h

      same-some : (k : Checked) (d : Option Event) → is_some d ≡ is_some (option_map (λ (e : Event). event_key e k.written.datum) d)
      same-some k None = refl
      same-some k (Some e) = refl

  datum-test : (key : CheckKey) (d : Option Event) (w : Option (List Tok)) → HasEvents key
      → fits_datum c Slash s (second_if (has_two key.part) (event_terminal (scope_at c s).variables (datum_of key))) d w ≡ is_for_datum key.datum d w
  datum-test key d w h = by (has_two key.part) key.datum h.two h.datum d
    where
      by : (b : Bool) (o : Option EventKey) → b ≡ is_some o → IfSome o (λ x. IsVariableOf (scope_at c s).variables x.net) → (d : Option Event)
          → fits_datum c Slash s (second_if b (event_terminal (scope_at c s).variables (unwrap_or o key.refer))) d w ≡ is_for_datum o d w
      by true None e h d = absurd (let z : true ≡ false = e in cc)
      by true (Some x) e h None = refl
      by true (Some x) e h (Some y) = event-test c closed named s x y w within h
      by false None e h d = refl
      by false (Some x) e h d = absurd (let z : false ≡ true = e in cc)

  check-test : (e : CheckEntry) (k : Checked) → Mem e (check_entries c s) → fits_check c Slash (check_cell c s e) s k.timing k.written ≡ fits_key e.key k
  check-test e k m =
      let h = has-events e m in
      let vs = (scope_at c s).variables in
      ap (λ (x : Terminal × Option Terminal). fits_event c Slash s x.0 k.timing.refer k.written.refer && fits_datum c Slash s x.1 k.timing.datum k.written.datum)
      (terminals-are e.key.part (event_terminal vs e.key.refer) (event_terminal vs (datum_of e.key)) (triple e))
      ∙ (ap (λ t. t && fits_datum c Slash s (second_if (has_two e.key.part) (event_terminal vs (datum_of e.key))) k.timing.datum k.written.datum) (event-test c closed named s e.key.refer k.timing.refer k.written.refer within h.refer)
      ∙ ap (λ t. is_for_event e.key.refer k.timing.refer k.written.refer && t) (datum-test e.key k.timing.datum k.written.datum h))

  abbrev in_cell : ℕ → Bool
  in_cell r = is_of_cell c Slash (cell_type_of (scope_at c s).module_name) (instance_of (names_to c s)) r

  given-is : (e : CheckEntry) (k : Checked)
      → given_to c Slash (check_given c s e) k ≡ (if in_cell k.check.scope && fits_check c Slash (check_cell c s e) k.check.scope k.timing k.written then limits_for (check_cell c s e) k.timing.kind else none_given)
  given-is e k = let vs = (scope_at c s).variables in
      ap (λ x. given_by c Slash (check_given c s e) x k.check.scope k.timing k.written) (kind-is e.key.part (event_terminal vs e.key.refer) (event_terminal vs (datum_of e.key)) (lone (signed_decimal e.limit)))

  pub record Gives (e : CheckEntry) (k : Checked) : Type 0 where
    pub scope : s ≡ k.check.scope
    pub key : fits_key e.key k ≡ true
    pub given : given_to c Slash (check_given c s e) k ≡ limits_for (check_cell c s e) k.timing.kind

  -- an entry gives nothing to a check, or is for it
  pub gives-check : (e : CheckEntry) (k : Checked) → Mem e (check_entries c s) → k.check.scope < length c.scopes → (given_to c Slash (check_given c s e) k ≡ none_given) ⊎ Gives e k
  gives-check e k m l = by (in_cell k.check.scope) refl
    where
      fits : (b : Bool) → fits_check c Slash (check_cell c s e) k.check.scope k.timing k.written ≡ b → in_cell k.check.scope ≡ true → s ≡ k.check.scope → (given_to c Slash (check_given c s e) k ≡ none_given) ⊎ Gives e k
      fits true f g same = inr (record {
        scope = same;
        key = sym (check-test e k m) ∙ (ap (λ r. fits_check c Slash (check_cell c s e) r k.timing k.written) same ∙ f);
        given = given-is e k ∙ ap (λ t. if t then limits_for (check_cell c s e) k.timing.kind else none_given) (ap (λ t. t && fits_check c Slash (check_cell c s e) k.check.scope k.timing k.written) g ∙ f);
      })
      fits false f g same = inl (given-is e k ∙ ap (λ t. if t then limits_for (check_cell c s e) k.timing.kind else none_given) (ap (λ t. t && fits_check c Slash (check_cell c s e) k.check.scope k.timing k.written) g ∙ f))

      by : (b : Bool) → in_cell k.check.scope ≡ b → (given_to c Slash (check_given c s e) k ≡ none_given) ⊎ Gives e k
      by true g = fits (fits_check c Slash (check_cell c s e) k.check.scope k.timing k.written) refl g (cell-one c closed named (cell_type_of (scope_at c s).module_name) s k.check.scope within l g)
      by false g = inl (given-is e k ∙ ap (λ t. if t && fits_check c Slash (check_cell c s e) k.check.scope k.timing k.written then limits_for (check_cell c s e) k.timing.kind else none_given) g)

  -- where its key fits, it gives
  pub gives-own : (e : CheckEntry) (k : Checked) → Mem e (check_entries c s) → k.check.scope ≡ s → fits_key e.key k ≡ true → given_to c Slash (check_given c s e) k ≡ limits_for (check_cell c s e) k.timing.kind
  gives-own e k m same f =
      given-is e k
      ∙ ap (λ t. if t then limits_for (check_cell c s e) k.timing.kind else none_given)
      (ap (λ r. in_cell r && fits_check c Slash (check_cell c s e) r k.timing k.written) same
      ∙ (ap (λ t. t && fits_check c Slash (check_cell c s e) s k.timing k.written) (cell-own c closed named (cell_type_of (scope_at c s).module_name) s within) ∙ (check-test e k m ∙ f)))
