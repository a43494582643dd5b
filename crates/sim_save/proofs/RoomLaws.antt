-- Where memory may run out: behind a line that isn't the head.
use Rattle.std.proofs.Common.{◌≡◌, ℕ, ℤ, zero, suc, ◌+◌, ◌-◌, ◌<◌, ◌≤◌, inl, inr, List, [], ◌∷◌, ◌++◌, length, map, refl, sym, ◌∙◌, ap, subst, arith}
use Rattle.std.specs.declared.option.Option.{Option}
use Rattle.std.proofs.lemmas.List.{append-nil, append_assoc}
use Rattle.std.proofs.lemmas.List.Concat.{flat_map-append}
use Rattle.sg_logic.specs.declared.values.Value.{Value}
use Rattle.sg_text.specs.declared.refusals.Refused.{Refused}
use Rattle.sg_text.specs.declared.refusals.Refused.TheVariants as refused
use Rattle.time_checks.specs.declared.latest.Latest.{Latest}
use Rattle.sim_rounds.specs.Moments.{Moment}
use Rattle.sim_rounds.specs.MomentsSeen.{change_seen, pending_seen}
use Rattle.sim_rounds.specs.declared.moments.LastChange.{LastChange}
use Rattle.sim_rounds.specs.declared.moments.Pending as code_pending
use Rattle.sim_save.specs.Faults.{IsBodyOf, most_bytes}
use Rattle.sim_save.specs.Lines.{check_line, joined, net_line, net_lines, pending_line, save_lines, udp_line}
use Rattle.sim_save.specs.Refusing.{RefusesHalf, Wants}
use Rattle.sim_save.specs.Sections.{AreChecks, AreNets, AreTransitions, AreUdps}
use Rattle.sim_save.specs.Steps.{Head, IsChange, IsCheck, IsLatest, IsNet, IsPending, IsTransition, IsUdp, Leads, Need, Nets, Nothing, RunsOut, Takes, Udps, more, none}
use Rattle.sim_save.specs.declared.kinds.SaveKind.{SaveKind}
use Rattle.sg_text.specs.declared.places.Place.{Place}
use Rattle.sim_save.proofs.MomentLaws.{leads_checks, leads_moment, leads_nets, leads_pending, leads_udps}
use Rattle.sim_save.proofs.StepLaws.{leads_append, leads_nil, uncons}

-- ---- behind one line more of some kind

runs_out : (a need next : Need) (lines : List (List ℕ)) (last text left behind : List ℕ) → Leads a lines need → text ≡ joined lines ++ left → left ≡ last ++ behind → Takes need last next → (need ≡ Head → ⊥) → RunsOut a text
runs_out a need next lines last text left behind p e f t other = record {
  lines = lines;
  need = need;
  last = last;
  next = next;
  rest = behind;
  is = e ∙ (ap (λ t. joined lines ++ t) f ∙ sym (append_assoc (joined lines) last behind));
  leads = p;
  takes = t;
  not_head = other;
}

pub net_runs_out : (nets : List Value) (changes : List (Option LastChange)) (v : Value) (s : Option LastChange) (text left behind : List ℕ) (count udps checks : ℕ) → AreNets nets changes text left → length nets < count
    → IsChange v (change_seen s) × (left ≡ net_line v (change_seen s) ++ behind) → RunsOut (Nets count udps checks) text
net_runs_out nets changes v s text left behind count udps checks h less k =
    let beyond = count - (length nets + 1) in
    let net : IsNet (net_line v (change_seen s)) = record { value = v; change = change_seen s; is = refl; fit = k.0 } in
    runs_out (Nets count udps checks) (Nets (suc beyond) udps checks) (Nets beyond udps checks) (net_lines nets (map change_seen changes)) (net_line v (change_seen s)) text left behind
    (leads_nets nets (map change_seen changes) count (suc beyond) udps checks (omega (arith, less)) h.fit) h.is k.1 (net, refl) (λ e. absurd (cc))

pub pending_runs_out : (pending : List code_pending.Pending) (p : code_pending.Pending) (text left behind : List ℕ) (udps checks : ℕ) → AreTransitions pending text left → IsPending (pending_seen p) × (left ≡ pending_line (pending_seen p) ++ behind)
    → RunsOut (Nets zero udps checks) text
pending_runs_out pending p text left behind udps checks h k =
    let seen = map (λ p. pending_seen p) pending in
    let one : IsTransition (pending_line (pending_seen p)) = record { pending = pending_seen p; is = refl; fit = k.0 } in
    runs_out (Nets zero udps checks) (Nets zero udps checks) (Nets zero udps checks) (map pending_line seen) (pending_line (pending_seen p)) text left behind (leads_pending seen udps checks h.fit) h.is k.1 (inl (one, refl)) (λ e. absurd (cc))

pub udp_runs_out : (udps : List Value) (v : Value) (text left behind : List ℕ) (count checks : ℕ) → AreUdps udps text left → length udps < count → left ≡ udp_line v ++ behind → RunsOut (Udps count checks) text
udp_runs_out udps v text left behind count checks h less k =
    let beyond = count - (length udps + 1) in
    let udp : IsUdp (udp_line v) = record { state = v; is = refl } in
    runs_out (Udps count checks) (Udps (suc beyond) checks) (Udps beyond checks) (map udp_line udps) (udp_line v) text left behind (leads_udps udps count (suc beyond) checks (omega (arith, less))) h.is k (udp, refl) (λ e. absurd (cc))

pub check_runs_out : (latest : List Latest) (l : Latest) (text left behind : List ℕ) (count : ℕ) → AreChecks latest text left → length latest < count → IsLatest l × (left ≡ check_line l ++ behind) → RunsOut (Udps zero count) text
check_runs_out latest l text left behind count h less k =
    let beyond = count - (length latest + 1) in
    let check : IsCheck (check_line l) = record { latest = l; is = refl; fit = k.0 } in
    runs_out (Udps zero count) (Udps zero (suc beyond)) (Udps zero beyond) (map check_line latest) (check_line l) text left behind (leads_checks latest count (suc beyond) (omega (arith, less)) h.fit) h.is k.1 (check, refl) (λ e. absurd (cc))

-- ---- behind other lines

pub runs_behind : (a b : Need) (lines : List (List ℕ)) (text rest : List ℕ) → Leads a lines b → text ≡ joined lines ++ rest → RunsOut b rest → RunsOut a text
runs_behind a b lines text rest p e h = record {
  lines = lines ++ h.lines;
  need = h.need;
  last = h.last;
  next = h.next;
  rest = h.rest;
  is = e
      ∙ (ap (λ t. joined lines ++ t) h.is ∙ (sym (append_assoc (joined lines) (joined h.lines ++ h.last) h.rest)
      ∙ (ap (λ t. t ++ h.rest) (sym (append_assoc (joined lines) (joined h.lines) h.last)) ∙ ap (λ t. (t ++ h.last) ++ h.rest) (sym (flat_map-append (λ (l : List ℕ). l) lines h.lines)))));
  leads = leads_append p h.leads;
  takes = h.takes;
  not_head = h.not_head;
}

later_runs_out : (udps checks : ℕ) (lines : List (List ℕ)) (need next : Need) (text last rest : List ℕ) → text ≡ joined lines ++ last ++ rest → Leads (Udps udps checks) lines need → Takes need last next → (need ≡ Head → ⊥) → RunsOut (Nets zero udps checks) text
later_runs_out udps checks [] need next text last rest is p t other = record {
  lines = [];
  need = Nets zero udps checks;
  last = last;
  next = next;
  rest = rest;
  is = is;
  leads = none;
  takes = inr (subst (λ n. Takes n last next) (sym (leads_nil p)) t);
  not_head = λ e. absurd (cc);
}
later_runs_out udps checks (x ∷ xs) need next text last rest is p t other =
    let u = uncons p in
    record { lines = x ∷ xs; need = need; last = last; next = next; rest = rest; is = is; leads = more {a = Nets zero udps checks} {b = u.0} (inr u.1) u.2; takes = t; not_head = other }

-- where no transition comes
pub no_transition_runs_out : (udps checks : ℕ) (text : List ℕ) → RunsOut (Udps udps checks) text → RunsOut (Nets zero udps checks) text
no_transition_runs_out udps checks text h = later_runs_out udps checks h.lines h.need h.next text h.last h.rest h.is h.leads h.takes h.not_head

-- ---- a body that was read has a line behind its head

two_lines : (half x : List ℕ) (xs : List (List ℕ)) → half ≡ joined (x ∷ xs) → Leads Head (x ∷ xs) Nothing → RunsOut Head half
two_lines half x [] e p =
    let u = uncons p in
    let h = u.1.0 in
    let f : Nets h.counts.nets h.counts.udps h.counts.checks ≡ Nothing = sym u.1.1 ∙ leads_nil u.2 in absurd (cc)
two_lines half x (y ∷ ys) e p =
    let u = uncons p in
    let h = u.1.0 in
    let v = uncons u.2 in
    record {
      lines = x ∷ [];
      need = u.0;
      last = y;
      next = v.0;
      rest = joined ys;
      is = e ∙ (sym (append_assoc x y (joined ys)) ∙ ap (λ t. (t ++ y) ++ joined ys) (sym (append-nil x)));
      leads = more {a = Head} {b = u.0} u.1 none;
      takes = v.1;
      not_head = λ f. let g : Nets h.counts.nets h.counts.udps h.counts.checks ≡ Head = sym u.1.1 ∙ f in absurd (cc);
    }

lines_run_out : (half : List ℕ) (lines : List (List ℕ)) → half ≡ joined lines → Leads Head lines Nothing → RunsOut Head half
lines_run_out half [] e p = let f : Head ≡ Nothing = leads_nil p in absurd (cc)
lines_run_out half (x ∷ xs) e p = two_lines half x xs e p

pub body_wants : (bytes half : List ℕ) (tick : ℤ) (elements : ℕ) (m : Moment) → length bytes ≤ most_bytes → bytes ≡ half ++ half → IsBodyOf half tick elements m → Wants bytes refused.NoMemory
body_wants bytes half tick elements m small twice h = record { small = small; half = half; twice = twice; behind = lines_run_out half (save_lines tick elements m) h.text (leads_moment tick elements m h.numbers) }

pub half_wants : (bytes half : List ℕ) (r : Refused SaveKind) → length bytes ≤ most_bytes → bytes ≡ half ++ half → RefusesHalf half r → Wants bytes r
half_wants bytes half (refused.Fault kind place) small twice h = tt
half_wants bytes half refused.NoMemory small twice h = record { small = small; half = half; twice = twice; behind = h }

pub no_want : (bytes : List ℕ) (r : Refused SaveKind) (kind : SaveKind) (place : Place) → r ≡ refused.Fault kind place → Wants bytes r
no_want bytes r kind place e = subst (Wants bytes) (sym e) tt
