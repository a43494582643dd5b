-- The lines of a moment, and the moments whose lines begin so.
use Rattle.std.proofs.Common.{◌≡◌, ℕ, ℤ, pos, zero, suc, ◌+◌, ◌<◌, inl, inr, List, [], ◌∷◌, ◌++◌, length, map, refl, sym, ◌∙◌, ap, subst, arith}
use Rattle.std.specs.Prelude.{◌^◌, All}
use Rattle.std.specs.declared.option.Option.{Option}
use Rattle.std.specs.declared.option.Option.TheVariants.{Some, None}
use Rattle.std.proofs.lemmas.List.{append_assoc}
use Rattle.std.proofs.lemmas.List.Elements.{All-cons, All-head, All-nil, All-tail}
use Rattle.sg_logic.specs.declared.values.Value.{Value}
use Rattle.sg_logic.specs.declared.values.Value.TheVariants.{X}
use Rattle.sg_model.specs.Machine.{Stamp}
use Rattle.time_checks.specs.declared.latest.Latest.{Latest}
use Rattle.sim_rounds.specs.Moments.{Moment, Pending}
use Rattle.sim_save.specs.Faults.{AreChanges, AreNumbers, BeginBody}
use Rattle.sim_save.specs.Lines.{check_line, end_line, head_line, last_line, net_line, net_lines, pending_line, save_lines, udp_line}
use Rattle.sim_save.specs.Steps.{AreCounts, Counts, End, Head, IsChange, IsCheck, IsCounters, IsHead, IsLatest, IsNet, IsPending, IsTransition, IsUdp, Leads, Need, Nets, Nothing, Udps, counters_line, counts_line, more, none}
use Rattle.sim_save.proofs.StepLaws.{leads_append, leads_nil, leads_split, uncons}

-- ---- a moment's lines lead from its head to nothing

pub change_of : (v : Value) (vs : List Value) (s : Option Stamp) (ss : List (Option Stamp)) → AreChanges (v ∷ vs) (s ∷ ss) → IsChange v s × AreChanges vs ss
change_of v vs None ss h = (tt, h)
change_of v vs (Some s) ss h = ((h.0, h.1), h.2)

pub changes_cons : (v : Value) (vs : List Value) (s : Option Stamp) (ss : List (Option Stamp)) → IsChange v s → AreChanges vs ss → AreChanges (v ∷ vs) (s ∷ ss)
changes_cons v vs None ss h k = k
changes_cons v vs (Some s) ss h k = (h.0, h.1, k)

pub leads_nets : (vs : List Value) (ss : List (Option Stamp)) (n k udps checks : ℕ) → length vs + k ≡ n → AreChanges vs ss → Leads (Nets n udps checks) (net_lines vs ss) (Nets k udps checks)
leads_nets [] [] n k udps checks e h = let same : k ≡ n = omega (arith, e) in subst (λ m. Leads (Nets m udps checks) [] (Nets k udps checks)) same none
leads_nets [] (s ∷ ss) n k udps checks e h = absurd h
leads_nets (v ∷ vs) [] n k udps checks e h = absurd h
leads_nets (v ∷ vs) (s ∷ ss) n k udps checks e h =
    let parts = change_of v vs s ss h in
    let same : suc (length vs + k) ≡ n = omega (arith, e) in
    let net : IsNet (net_line v s) = record { value = v; change = s; is = refl; fit = parts.0 } in
    subst (λ m. Leads (Nets m udps checks) (net_line v s ∷ net_lines vs ss) (Nets k udps checks)) same
    (more {a = Nets (suc (length vs + k)) udps checks} {b = Nets (length vs + k) udps checks} (net, refl) (leads_nets vs ss (length vs + k) k udps checks refl parts.1))

pub leads_pending : (ps : List Pending) (udps checks : ℕ) → All IsPending ps → Leads (Nets zero udps checks) (map pending_line ps) (Nets zero udps checks)
leads_pending [] udps checks h = none
leads_pending (p ∷ ps) udps checks h =
    let one : IsTransition (pending_line p) = record { pending = p; is = refl; fit = All-head IsPending p ps h } in
    more {a = Nets zero udps checks} {b = Nets zero udps checks} (inl (one, refl)) (leads_pending ps udps checks (All-tail IsPending p ps h))

pub leads_udps : (vs : List Value) (n k checks : ℕ) → length vs + k ≡ n → Leads (Udps n checks) (map udp_line vs) (Udps k checks)
leads_udps [] n k checks e = let same : k ≡ n = omega (arith, e) in subst (λ m. Leads (Udps m checks) [] (Udps k checks)) same none
leads_udps (v ∷ vs) n k checks e =
    let same : suc (length vs + k) ≡ n = omega (arith, e) in
    let udp : IsUdp (udp_line v) = record { state = v; is = refl } in
    subst (λ m. Leads (Udps m checks) (udp_line v ∷ map udp_line vs) (Udps k checks)) same
    (more {a = Udps (suc (length vs + k)) checks} {b = Udps (length vs + k) checks} (udp, refl) (leads_udps vs (length vs + k) k checks refl))

pub leads_checks : (ls : List Latest) (n k : ℕ) → length ls + k ≡ n → All IsLatest ls → Leads (Udps zero n) (map check_line ls) (Udps zero k)
leads_checks [] n k e h = let same : k ≡ n = omega (arith, e) in subst (λ m. Leads (Udps zero m) [] (Udps zero k)) same none
leads_checks (l ∷ ls) n k e h =
    let same : suc (length ls + k) ≡ n = omega (arith, e) in
    let check : IsCheck (check_line l) = record { latest = l; is = refl; fit = All-head IsLatest l ls h } in
    subst (λ m. Leads (Udps zero m) (check_line l ∷ map check_line ls) (Udps zero k)) same
    (more {a = Udps zero (suc (length ls + k))} {b = Udps zero (length ls + k)} (check, refl) (leads_checks ls (length ls + k) k refl (All-tail IsLatest l ls h)))

pub leads_counters : (last evaluations : ℕ) → last < 2 ^ 64 → evaluations < 2 ^ 64 → Leads (Udps zero zero) (counters_line last evaluations ∷ []) End
leads_counters last evaluations h k =
    let one : IsCounters (counters_line last evaluations) = record { last = last; evaluations = evaluations; is = refl; last_fits = h; evaluations_fit = k } in
    more {a = Udps zero zero} {b = End} (one, refl) none

pub leads_end : Leads End (end_line ∷ []) Nothing
leads_end = more {a = End} {b = Nothing} (refl, refl) none

-- no more transitions come
pub enter_later : (udps checks : ℕ) (lines : List (List ℕ)) → Leads (Udps udps checks) lines Nothing → Leads (Nets zero udps checks) lines Nothing
enter_later udps checks [] p = let e : Udps udps checks ≡ Nothing = leads_nil p in absurd (cc)
enter_later udps checks (x ∷ xs) p = let u = uncons p in more {a = Nets zero udps checks} {b = u.0} (inr u.1) u.2

abbrev pub counts_of : ℤ → ℕ → Moment → Counts
counts_of tick elements m = record { time = m.time; tick = tick; nets = length m.nets; elements = elements; udps = length m.udps; checks = length m.latest }

pub five : (n p u k e : List (List ℕ)) → n ++ p ++ u ++ k ++ e ≡ n ++ (p ++ (u ++ (k ++ e)))
five n p u k e = simp append_assoc

pub leads_moment : (tick : ℤ) (elements : ℕ) (m : Moment) → AreNumbers tick elements m → Leads Head (save_lines tick elements m) Nothing
leads_moment tick elements m h =
    let nets = net_lines m.nets m.stamps in
    let pending = map pending_line m.pending in
    let udps = map udp_line m.udps in
    let checks = map check_line m.latest in
    let ending = last_line m ∷ end_line ∷ [] in
    let u = length m.udps in
    let k = length m.latest in
    let from_last = leads_append (leads_counters m.last m.evaluations h.last h.evaluations) leads_end in
    let from_checks = leads_append (leads_checks m.latest k zero (omega arith) h.latest) from_last in
    let from_udps = leads_append (leads_udps m.udps u zero k (omega arith)) from_checks in
    let from_pending = leads_append (leads_pending m.pending u k h.pending) (enter_later u k (udps ++ (checks ++ ending)) from_udps) in
    let from_nets = leads_append (leads_nets m.nets m.stamps (length m.nets) zero u k (omega arith) h.changes) from_pending in
    let fit : AreCounts (counts_of tick elements m) = record { time = h.time; tick = h.tick; nets = h.nets; elements = h.elements; udps = h.udps; checks = h.checks } in
    let head : IsHead (head_line tick elements m) = record { counts = counts_of tick elements m; is = refl; fit = fit } in
    subst (λ ls. Leads Head (head_line tick elements m ∷ ls) Nothing) (sym (five nets pending udps checks ending))
    (more {a = Head} {b = Nets (length m.nets) u k} (head, refl) from_nets)

-- ---- what leads to nothing are a moment's lines

-- the lines behind nets and transitions
pub record IsLater (udps checks : ℕ) (lines : List (List ℕ)) : Type 0 where
  pub states : List Value
  pub latest : List Latest
  pub last : ℕ
  pub evaluations : ℕ
  pub is : lines ≡ map udp_line states ++ (map check_line latest ++ counters_line last evaluations ∷ end_line ∷ [])
  pub many_states : length states ≡ udps
  pub many_latest : length latest ≡ checks
  pub fit : All IsLatest latest
  pub last_fits : last < 2 ^ 64
  pub evaluations_fit : evaluations < 2 ^ 64

nothing_more : (lines : List (List ℕ)) → Leads Nothing lines Nothing → lines ≡ []
nothing_more [] p = refl
nothing_more (x ∷ xs) p = let u = uncons p in absurd u.1

end_alone : (lines : List (List ℕ)) → Leads End lines Nothing → lines ≡ end_line ∷ []
end_alone [] p = let e : End ≡ Nothing = leads_nil p in absurd (cc)
end_alone (x ∷ xs) p =
    let u = uncons p in
    let rest = nothing_more xs (subst (λ n. Leads n xs Nothing) u.1.1 u.2) in
    ap (λ t. t ∷ xs) u.1.0 ∙ ap (λ ts. end_line ∷ ts) rest

no_states_are : (vs : List Value) → length vs ≡ zero → vs ≡ []
no_states_are [] e = refl
no_states_are (v ∷ vs) e = absurd (omega (arith, e))

-- one check more, where no states are left
no_states : (lines : List (List ℕ)) (checks : ℕ) (text : List ℕ) → IsCheck text → IsLater zero checks lines → IsLater zero (suc checks) (text ∷ lines)
no_states lines checks text t r =
    let none_left = no_states_are r.states r.many_states in
    let rest = map check_line r.latest ++ counters_line r.last r.evaluations ∷ end_line ∷ [] in
    let is : lines ≡ rest = r.is ∙ ap (λ vs. map udp_line vs ++ rest) none_left in
    record {
      states = [];
      latest = t.latest ∷ r.latest;
      last = r.last;
      evaluations = r.evaluations;
      is = ap (λ l. l ∷ lines) t.is ∙ ap (λ ls. check_line t.latest ∷ ls) is;
      many_states = refl;
      many_latest = ap suc r.many_latest;
      fit = All-cons IsLatest t.latest r.latest t.fit r.fit;
      last_fits = r.last_fits;
      evaluations_fit = r.evaluations_fit;
    }

pub later_of : (lines : List (List ℕ)) (udps checks : ℕ) → Leads (Udps udps checks) lines Nothing → IsLater udps checks lines
later_of [] udps checks p = let e : Udps udps checks ≡ Nothing = leads_nil p in absurd (cc)
later_of (x ∷ xs) (suc udps) checks p =
    let u = uncons p in
    let r = later_of xs udps checks (subst (λ n. Leads n xs Nothing) u.1.1 u.2) in
    record {
      states = u.1.0.state ∷ r.states;
      latest = r.latest;
      last = r.last;
      evaluations = r.evaluations;
      is = ap (λ t. t ∷ xs) u.1.0.is ∙ ap (λ ts. udp_line u.1.0.state ∷ ts) r.is;
      many_states = ap suc r.many_states;
      many_latest = r.many_latest;
      fit = r.fit;
      last_fits = r.last_fits;
      evaluations_fit = r.evaluations_fit;
    }
later_of (x ∷ xs) zero (suc checks) p =
    let u = uncons p in
    let r = later_of xs zero checks (subst (λ n. Leads n xs Nothing) u.1.1 u.2) in
    no_states xs checks x u.1.0 r
later_of (x ∷ xs) zero zero p =
    let u = uncons p in
    let rest = end_alone xs (subst (λ n. Leads n xs Nothing) u.1.1 u.2) in
    record {
      states = [];
      latest = [];
      last = u.1.0.last;
      evaluations = u.1.0.evaluations;
      is = ap (λ t. t ∷ xs) u.1.0.is ∙ ap (λ ts. counters_line u.1.0.last u.1.0.evaluations ∷ ts) rest;
      many_states = refl;
      many_latest = refl;
      fit = All-nil IsLatest;
      last_fits = u.1.0.last_fits;
      evaluations_fit = u.1.0.evaluations_fit;
    }

-- the lines behind nets
pub record IsPendingOn (udps checks : ℕ) (lines : List (List ℕ)) : Type 0 where
  pub pending : List Pending
  pub rest : List (List ℕ)
  pub is : lines ≡ map pending_line pending ++ rest
  pub fit : All IsPending pending
  pub later : IsLater udps checks rest

later_alone : (udps checks : ℕ) (lines : List (List ℕ)) → IsLater udps checks lines → IsPendingOn udps checks lines
later_alone udps checks lines h = record { pending = []; rest = lines; is = refl; fit = All-nil IsPending; later = h }

pending_more : (udps checks : ℕ) (text : List ℕ) (lines : List (List ℕ)) → IsTransition text → IsPendingOn udps checks lines → IsPendingOn udps checks (text ∷ lines)
pending_more udps checks text lines t r = record {
  pending = t.pending ∷ r.pending;
  rest = r.rest;
  is = ap (λ l. l ∷ lines) t.is ∙ ap (λ ls. pending_line t.pending ∷ ls) r.is;
  fit = All-cons IsPending t.pending r.pending t.fit r.fit;
  later = r.later;
}

pub pending_of : (lines : List (List ℕ)) (udps checks : ℕ) → Leads (Nets zero udps checks) lines Nothing → IsPendingOn udps checks lines
pending_of [] udps checks p = let e : Nets zero udps checks ≡ Nothing = leads_nil p in absurd (cc)
pending_of (x ∷ xs) udps checks p =
    let u = uncons p in
    elim u.1 [
      | inl t ↦ pending_more udps checks x xs t.0 (pending_of xs udps checks (subst (λ n. Leads n xs Nothing) t.1 u.2))
      | inr t ↦ later_alone udps checks (x ∷ xs) (later_of (x ∷ xs) udps checks (more {a = Udps udps checks} {b = u.0} t u.2))
    ]

-- the lines behind a head
pub record IsNetsOn (nets udps checks : ℕ) (lines : List (List ℕ)) : Type 0 where
  pub values : List Value
  pub changes : List (Option Stamp)
  pub rest : List (List ℕ)
  pub is : lines ≡ net_lines values changes ++ rest
  pub many : length values ≡ nets
  pub fit : AreChanges values changes
  pub pending : IsPendingOn udps checks rest

pub nets_of : (lines : List (List ℕ)) (nets udps checks : ℕ) → Leads (Nets nets udps checks) lines Nothing → IsNetsOn nets udps checks lines
nets_of lines zero udps checks p = record { values = []; changes = []; rest = lines; is = refl; many = refl; fit = tt; pending = pending_of lines udps checks p }
nets_of [] (suc nets) udps checks p = let e : Nets (suc nets) udps checks ≡ Nothing = leads_nil p in absurd (cc)
nets_of (x ∷ xs) (suc nets) udps checks p =
    let u = uncons p in
    let r = nets_of xs nets udps checks (subst (λ n. Leads n xs Nothing) u.1.1 u.2) in
    record {
      values = u.1.0.value ∷ r.values;
      changes = u.1.0.change ∷ r.changes;
      rest = r.rest;
      is = ap (λ l. l ∷ xs) u.1.0.is ∙ ap (λ ls. net_line u.1.0.value u.1.0.change ∷ ls) r.is;
      many = ap suc r.many;
      fit = changes_cons u.1.0.value r.values u.1.0.change r.changes u.1.0.fit r.fit;
      pending = r.pending;
    }

pub record IsSaved (lines : List (List ℕ)) : Type 0 where
  pub tick : ℤ
  pub elements : ℕ
  pub moment : Moment
  pub numbers : AreNumbers tick elements moment
  pub is : save_lines tick elements moment ≡ lines

pub counted : (time then : ℕ) (tick : ℤ) (nets many elements udps many_udps checks many_checks : ℕ) → time ≡ then → nets ≡ many → udps ≡ many_udps → checks ≡ many_checks
    → counts_line (record { time = time; tick = tick; nets = nets; elements = elements; udps = udps; checks = checks })
    ≡ counts_line (record { time = then; tick = tick; nets = many; elements = elements; udps = many_udps; checks = many_checks })
counted time then tick nets many elements udps many_udps checks many_checks t a b c = λ i. counts_line (record { time = t i; tick = tick; nets = a i; elements = elements; udps = b i; checks = c i })

saved_behind : (text : List ℕ) (lines : List (List ℕ)) (h : IsHead text) → IsNetsOn h.counts.nets h.counts.udps h.counts.checks lines → IsSaved (text ∷ lines)
saved_behind text lines h n =
    let c = h.counts in
    let p = n.pending in
    let l = p.later in
    let m : Moment = record { time = c.time; nets = n.values; stamps = n.changes; pending = p.pending; udps = l.states; latest = l.latest; last = l.last; evaluations = l.evaluations } in
    let nets = net_lines n.values n.changes in
    let pending = map pending_line p.pending in
    let udps = map udp_line l.states in
    let checks = map check_line l.latest in
    let ending = counters_line l.last l.evaluations ∷ end_line ∷ [] in
    let behind : nets ++ pending ++ udps ++ checks ++ ending ≡ lines = five nets pending udps checks ending ∙ sym (n.is ∙ ap (λ ls. nets ++ ls) (p.is ∙ ap (λ ls. pending ++ ls) l.is)) in
    let same : head_line c.tick c.elements m ≡ counts_line c =
    counted c.time c.time c.tick (length n.values) c.nets c.elements (length l.states) c.udps (length l.latest) c.checks refl n.many l.many_states l.many_latest in
    record {
      tick = c.tick;
      elements = c.elements;
      moment = m;
      numbers = record {
        tick = h.fit.tick;
        elements = h.fit.elements;
        nets = omega (arith, h.fit.nets, n.many);
        udps = omega (arith, h.fit.udps, l.many_states);
        checks = omega (arith, h.fit.checks, l.many_latest);
        time = h.fit.time;
        changes = n.fit;
        pending = p.fit;
        latest = l.fit;
        last = l.last_fits;
        evaluations = l.evaluations_fit;
      };
      is = ap (λ t. t ∷ (nets ++ pending ++ udps ++ checks ++ ending)) (same ∙ sym h.is) ∙ ap (λ ls. text ∷ ls) behind;
    }

pub saved_of : (lines : List (List ℕ)) → Leads Head lines Nothing → IsSaved lines
saved_of [] p = let e : Head ≡ Nothing = leads_nil p in absurd (cc)
saved_of (x ∷ xs) p =
    let u = uncons p in
    let c = u.1.0.counts in
    saved_behind x xs u.1.0 (nets_of xs c.nets c.udps c.checks (subst (λ n. Leads n xs Nothing) u.1.1 u.2))

-- ---- what is begun can be ended

checks_left : (checks : ℕ) → (lines : List (List ℕ)) × Leads (Udps zero checks) lines Nothing
checks_left zero = (counters_line 0 0 ∷ end_line ∷ [], leads_append (leads_counters 0 0 (omega arith) (omega arith)) leads_end)
checks_left (suc checks) =
    let r = checks_left checks in
    let blank : Latest = record { refer = None; datum = None } in
    let one : IsCheck (check_line blank) = record { latest = blank; is = refl; fit = (tt, tt) } in
    (check_line blank ∷ r.0, more {a = Udps zero (suc checks)} {b = Udps zero checks} (one, refl) r.1)

udps_left : (udps checks : ℕ) → (lines : List (List ℕ)) × Leads (Udps udps checks) lines Nothing
udps_left zero checks = checks_left checks
udps_left (suc udps) checks =
    let r = udps_left udps checks in
    let one : IsUdp (udp_line X) = record { state = X; is = refl } in
    (udp_line X ∷ r.0, more {a = Udps (suc udps) checks} {b = Udps udps checks} (one, refl) r.1)

nets_left : (nets udps checks : ℕ) → (lines : List (List ℕ)) × Leads (Nets nets udps checks) lines Nothing
nets_left zero udps checks = let r = udps_left udps checks in (r.0, enter_later udps checks r.0 r.1)
nets_left (suc nets) udps checks =
    let r = nets_left nets udps checks in
    let one : IsNet (net_line X None) = record { value = X; change = None; is = refl; fit = tt } in
    (net_line X None ∷ r.0, more {a = Nets (suc nets) udps checks} {b = Nets nets udps checks} (one, refl) r.1)

head_left : (lines : List (List ℕ)) × Leads Head lines Nothing
head_left =
    let r = nets_left 0 0 0 in
    let c : Counts = record { time = 0; tick = pos 0; nets = 0; elements = 0; udps = 0; checks = 0 } in
    let fit : AreCounts c = record { time = omega arith; tick = omega arith; nets = omega arith; elements = omega arith; udps = omega arith; checks = omega arith } in
    let one : IsHead (counts_line c) = record { counts = c; is = refl; fit = fit } in
    (counts_line c ∷ r.0, more {a = Head} {b = Nets 0 0 0} (one, refl) r.1)

left : (a : Need) → (lines : List (List ℕ)) × Leads a lines Nothing
left Head = head_left
left (Nets nets udps checks) = nets_left nets udps checks
left (Udps udps checks) = udps_left udps checks
left End = (end_line ∷ [], leads_end)
left Nothing = ([], none)

pub begins : (lines : List (List ℕ)) (a : Need) → Leads Head lines a → BeginBody lines
begins lines a p =
    let r = left a in
    let s = saved_of (lines ++ r.0) (leads_append p r.1) in
    record { tick = s.tick; elements = s.elements; moment = s.moment; numbers = s.numbers; rest = r.0; is = s.is }

pub leads_begun : (lines : List (List ℕ)) → BeginBody lines → (a : Need) × Leads Head lines a
leads_begun lines b =
    let whole = subst (λ ls. Leads Head ls Nothing) b.is (leads_moment b.tick b.elements b.moment b.numbers) in
    let r = leads_split lines b.rest whole in
    (r.0, r.1)
