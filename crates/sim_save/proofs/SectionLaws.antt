-- Lines read one after another, and where reading ends too early.
use Rattle.std.proofs.Common.{◌≡◌, ℕ, zero, suc, ◌+◌, ◌-◌, ◌<◌, ◌≤◌, false, inl, inr, List, [], ◌∷◌, ◌++◌, length, map, refl, sym, ◌∙◌, ap, subst, arith}
use Rattle.std.specs.Prelude.{All, ◌==◌}
use Rattle.std.proofs.lemmas.Bool.{eqb-false}
use Rattle.std.specs.declared.option.Option.{Option}
use Rattle.std.specs.declared.option.Option.TheVariants.{Some, None}
use Rattle.std.proofs.lemmas.List.{append-nil, append_assoc, length-append, length_push, map_push}
use Rattle.std.proofs.lemmas.List.Concat.{flat_map-append}
use Rattle.std.proofs.lemmas.List.Elements.{All-nil, All-push}
use Rattle.sg_logic.specs.declared.values.Value.{Value}
use Rattle.sg_model.specs.Machine.{Stamp}
use Rattle.time_checks.specs.declared.latest.Latest.{Latest}
use Rattle.sim_rounds.specs.Moments.{Pending}
use Rattle.sim_rounds.specs.MomentsSeen.{change_seen, moment_seen, pending_seen}
use Rattle.sim_rounds.specs.declared.moments.Moment as code_moment
use Rattle.sim_rounds.specs.declared.moments.LastChange.{LastChange}
use Rattle.sim_rounds.specs.declared.moments.Pending as code_pending
use Rattle.sim_save.specs.Faults.{AreChanges, IsBodyOf}
use Rattle.sim_save.specs.Lines.{check_line, end_line, head_line, joined, last_line, net_line, net_lines, pending_line, udp_line}
use Rattle.sim_save.specs.Sections.{AreChecks, AreNets, AreTransitions, AreUdps}
use Rattle.sim_save.specs.Steps.{AreCounts, Counts, End, EndsEarly, Head, IsChange, IsCheck, IsCounters, IsHead, IsLatest, IsNet, IsPending, IsTransition, IsUdp, Leads, Need, Nets, Nothing, Stops, Takes, Udps, counters_line, counts_line, more, none}
use Rattle.sim_save.specs.declared.kinds.Stop.{Stop}
use Rattle.sim_save.specs.declared.kinds.Stop.TheVariants as stop
use Rattle.sim_save.specs.Taking.{Is64, NoLine, NotBehind}
use Rattle.sim_save.proofs.MomentLaws.{counted, leads_checks, leads_counters, leads_end, leads_nets, leads_pending, leads_udps}
use Rattle.sim_save.proofs.PushLaws.{body_parts}
use Rattle.sim_save.proofs.RoomLaws.{no_transition_runs_out, runs_behind}
use Rattle.sim_save.proofs.StepLaws.{leads_append, leads_nil, uncons}

joined_push : (lines : List (List ℕ)) (line : List ℕ) → joined (lines ++ line ∷ []) ≡ joined lines ++ line
joined_push lines line = flat_map-append (λ (l : List ℕ). l) lines (line ∷ []) ∙ ap (λ t. joined lines ++ t) (append-nil line)

-- a line moves from what is left to what was read
pushed : (lines all : List (List ℕ)) (line text left behind : List ℕ) → text ≡ joined lines ++ left → left ≡ line ++ behind → all ≡ lines ++ line ∷ [] → text ≡ joined all ++ behind
pushed lines all line text left behind e f g =
    e ∙ (ap (λ t. joined lines ++ t) f ∙ (sym (append_assoc (joined lines) line behind) ∙ (ap (λ t. t ++ behind) (sym (joined_push lines line)) ∙ ap (λ ls. joined ls ++ behind) (sym g))))

pub one_more : {A : Type 0} (xs new : List A) (x : A) (count : ℕ) → new ≡ xs ++ x ∷ [] → length xs < count → length new ≤ count
one_more xs new x count e less = let n = ap length e in let m = length_push xs x in omega (arith, n, m, less)

pub not_empty : (text : List ℕ) → (length text == 0) ≡ false → text ≡ [] → ⊥
not_empty text h e = eqb-false (length text) 0 h (ap length e)

-- ---- nets

net_lines_push : (vs : List Value) (ss : List (Option Stamp)) (v : Value) (s : Option Stamp) → AreChanges vs ss → net_lines (vs ++ v ∷ []) (ss ++ s ∷ []) ≡ net_lines vs ss ++ net_line v s ∷ []
net_lines_push [] [] v s h = refl
net_lines_push [] (t ∷ ss) v s h = absurd h
net_lines_push (w ∷ vs) [] v s h = absurd h
net_lines_push (w ∷ vs) (None ∷ ss) v s h = ap (λ ls. net_line w None ∷ ls) (net_lines_push vs ss v s h)
net_lines_push (w ∷ vs) (Some t ∷ ss) v s h = ap (λ ls. net_line w (Some t) ∷ ls) (net_lines_push vs ss v s h.2)

changes_push : (vs : List Value) (ss : List (Option Stamp)) (v : Value) (s : Option Stamp) → AreChanges vs ss → IsChange v s → AreChanges (vs ++ v ∷ []) (ss ++ s ∷ [])
changes_push [] [] v None h k = tt
changes_push [] [] v (Some s) h k = (k.0, k.1, tt)
changes_push [] (t ∷ ss) v s h k = absurd h
changes_push (w ∷ vs) [] v s h k = absurd h
changes_push (w ∷ vs) (None ∷ ss) v s h k = changes_push vs ss v s h k
changes_push (w ∷ vs) (Some t ∷ ss) v s h k = (h.0, h.1, changes_push vs ss v s h.2 k)

pub no_nets_yet : (nets : List Value) (changes : List (Option LastChange)) (text : List ℕ) → nets ≡ [] → changes ≡ [] → AreNets nets changes text text
no_nets_yet nets changes text e f =
    subst (λ vs. AreNets vs changes text text) (sym e) (subst (λ cs. AreNets [] cs text text) (sym f) (record { fit = tt; is = refl }))

pub net_more : (nets new : List Value) (changes later : List (Option LastChange)) (v : Value) (s : Option LastChange) (text left behind : List ℕ) → AreNets nets changes text left
    → IsChange v (change_seen s) × (left ≡ net_line v (change_seen s) ++ behind) → new ≡ nets ++ v ∷ [] → later ≡ changes ++ s ∷ [] → AreNets new later text behind
net_more nets new changes later v s text left behind h k e f =
    let cs = map change_seen changes in
    let seen : map change_seen later ≡ cs ++ change_seen s ∷ [] = ap (map change_seen) f ∙ map_push change_seen changes s in
    let fit = subst (λ vs. AreChanges vs (map change_seen later)) (sym e) (subst (λ ts. AreChanges (nets ++ v ∷ []) ts) (sym seen) (changes_push nets cs v (change_seen s) h.fit k.0)) in
    let same : net_lines new (map change_seen later) ≡ net_lines nets cs ++ net_line v (change_seen s) ∷ [] =
    ap (λ vs. net_lines vs (map change_seen later)) e ∙ (ap (λ ts. net_lines (nets ++ v ∷ []) ts) seen ∙ net_lines_push nets cs v (change_seen s) h.fit) in
    record { fit = fit; is = pushed (net_lines nets cs) (net_lines new (map change_seen later)) (net_line v (change_seen s)) text left behind h.is k.1 same }

pub net_ends : (nets : List Value) (changes : List (Option LastChange)) (text left : List ℕ) (count udps checks : ℕ) → AreNets nets changes text left → length nets < count → NoLine IsNet left → EndsEarly (Nets count udps checks) text (length left)
net_ends nets changes text left count udps checks h less no_net =
    let k = count - (length nets + 1) in
    record {
      lines = net_lines nets (map change_seen changes);
      need = Nets (suc k) udps checks;
      rest = left;
      is = h.is;
      leads = leads_nets nets (map change_seen changes) count (suc k) udps checks (omega (arith, less)) h.fit;
      ends = λ line behind b e t. no_net line behind e t.0;
      early = λ e n. absurd (cc);
      many = refl;
    }

-- ---- transitions

pub no_pending_yet : (pending : List code_pending.Pending) (text : List ℕ) → pending ≡ [] → AreTransitions pending text text
no_pending_yet pending text e = subst (λ ps. AreTransitions ps text text) (sym e) (record { fit = All-nil IsPending; is = refl })

pub pending_more : (pending new : List code_pending.Pending) (p : code_pending.Pending) (text left behind : List ℕ) → AreTransitions pending text left → IsPending (pending_seen p) × (left ≡ pending_line (pending_seen p) ++ behind) → new ≡ pending ++ p ∷ []
    → AreTransitions new text behind
pending_more pending new p text left behind h k e =
    let seen = λ (q : code_pending.Pending). pending_seen q in
    let ps = map seen pending in
    let same : map seen new ≡ ps ++ pending_seen p ∷ [] = ap (map seen) e ∙ map_push seen pending p in
    let lines : map pending_line (map seen new) ≡ map pending_line ps ++ pending_line (pending_seen p) ∷ [] = ap (map pending_line) same ∙ map_push pending_line ps (pending_seen p) in
    record {
      fit = subst (λ qs. All IsPending qs) (sym same) (All-push IsPending ps (pending_seen p) h.fit k.0);
      is = pushed (map pending_line ps) (map pending_line (map seen new)) (pending_line (pending_seen p)) text left behind h.is k.1 lines;
    }

-- a line isn't empty
pub pending_less : (p : Pending) (left behind : List ℕ) → left ≡ pending_line p ++ behind → length behind < length left
pending_less p left behind e = let n = length-append (pending_line p) behind in let m = ap length e in let one : 0 < length (pending_line p) = omega arith in omega (arith, n, m, one)

-- ---- primitives' states

pub no_udps_yet : (udps : List Value) (text : List ℕ) → udps ≡ [] → AreUdps udps text text
no_udps_yet udps text e = subst (λ vs. AreUdps vs text text) (sym e) (record { is = refl })

pub udp_more : (udps new : List Value) (v : Value) (text left behind : List ℕ) → AreUdps udps text left → left ≡ udp_line v ++ behind → new ≡ udps ++ v ∷ [] → AreUdps new text behind
udp_more udps new v text left behind h k e = record { is = pushed (map udp_line udps) (map udp_line new) (udp_line v) text left behind h.is k (ap (map udp_line) e ∙ map_push udp_line udps v) }

pub udp_ends : (udps : List Value) (text left : List ℕ) (count checks : ℕ) → AreUdps udps text left → length udps < count → NoLine IsUdp left → EndsEarly (Udps count checks) text (length left)
udp_ends udps text left count checks h less no_udp =
    let k = count - (length udps + 1) in
    record {
      lines = map udp_line udps;
      need = Udps (suc k) checks;
      rest = left;
      is = h.is;
      leads = leads_udps udps count (suc k) checks (omega (arith, less));
      ends = λ line behind b e t. no_udp line behind e t.0;
      early = λ e n. absurd (cc);
      many = refl;
    }

-- ---- timing checks

pub no_checks_yet : (latest : List Latest) (text : List ℕ) → latest ≡ [] → AreChecks latest text text
no_checks_yet latest text e = subst (λ ls. AreChecks ls text text) (sym e) (record { fit = All-nil IsLatest; is = refl })

pub check_more : (latest new : List Latest) (l : Latest) (text left behind : List ℕ) → AreChecks latest text left → IsLatest l × (left ≡ check_line l ++ behind) → new ≡ latest ++ l ∷ [] → AreChecks new text behind
check_more latest new l text left behind h k e = record {
  fit = subst (λ ls. All IsLatest ls) (sym e) (All-push IsLatest latest l h.fit k.0);
  is = pushed (map check_line latest) (map check_line new) (check_line l) text left behind h.is k.1 (ap (map check_line) e ∙ map_push check_line latest l);
}

pub check_ends : (latest : List Latest) (text left : List ℕ) (count : ℕ) → AreChecks latest text left → length latest < count → NoLine IsCheck left → EndsEarly (Udps zero count) text (length left)
check_ends latest text left count h less no_check =
    let k = count - (length latest + 1) in
    record {
      lines = map check_line latest;
      need = Udps zero (suc k);
      rest = left;
      is = h.is;
      leads = leads_checks latest count (suc k) (omega (arith, less)) h.fit;
      ends = λ line behind b e t. no_check line behind e t.0;
      early = λ e n. absurd (cc);
      many = refl;
    }

-- ---- the ending

pub counters_end : (text : List ℕ) → NoLine IsCounters text → EndsEarly (Udps zero zero) text (length text)
counters_end text h = record { lines = []; need = Udps zero zero; rest = text; is = refl; leads = none; ends = λ line behind b e t. h line behind e t.0; early = λ e n. absurd (cc); many = refl }

pub end_ends : (last evaluations : ℕ) (text at_end : List ℕ) → Is64 last × Is64 evaluations × (text ≡ counters_line last evaluations ++ at_end) → NotBehind end_line at_end → EndsEarly (Udps zero zero) text (length at_end)
end_ends last evaluations text at_end h no_end = record {
  lines = counters_line last evaluations ∷ [];
  need = End;
  rest = at_end;
  is = h.2 ∙ ap (λ t. t ++ at_end) (sym (append-nil (counters_line last evaluations)));
  leads = leads_counters last evaluations h.0 h.1;
  ends = λ line behind b e t. no_end behind (e ∙ ap (λ l. l ++ behind) t.0);
  early = λ e n. absurd (cc);
  many = refl;
}

pub nothing_ends : (last evaluations : ℕ) (text at_end behind : List ℕ) → Is64 last × Is64 evaluations × (text ≡ counters_line last evaluations ++ at_end) → at_end ≡ end_line ++ behind → (behind ≡ [] → ⊥) → EndsEarly (Udps zero zero) text (length behind)
nothing_ends last evaluations text at_end behind h e some =
    let c = counters_line last evaluations in
    record {
      lines = c ∷ end_line ∷ [];
      need = Nothing;
      rest = behind;
      is = h.2 ∙ (ap (λ t. c ++ t) e ∙ (sym (append_assoc c end_line behind) ∙ ap (λ t. (c ++ t) ++ behind) (sym (append-nil end_line))));
      leads = leads_append (leads_counters last evaluations h.0 h.1) leads_end;
      ends = λ line more b f t. t;
      early = λ f n. some n;
      many = refl;
    }

-- ---- behind other lines

pub ends_behind : (a b : Need) (lines : List (List ℕ)) (text rest : List ℕ) (left : ℕ) → Leads a lines b → text ≡ joined lines ++ rest → EndsEarly b rest left → EndsEarly a text left
ends_behind a b lines text rest left p e h = record {
  lines = lines ++ h.lines;
  need = h.need;
  rest = h.rest;
  is = e ∙ (ap (λ t. joined lines ++ t) h.is ∙ (sym (append_assoc (joined lines) (joined h.lines) h.rest) ∙ ap (λ t. t ++ h.rest) (sym (flat_map-append (λ (l : List ℕ). l) lines h.lines))));
  leads = leads_append p h.leads;
  ends = h.ends;
  early = h.early;
  many = h.many;
}

transition_ends : (udps checks : ℕ) (need : Need) (text rest line behind : List ℕ) (b : Need) → NoLine IsTransition text → text ≡ rest → Udps udps checks ≡ need
    → ((l m : List ℕ) (c : Need) → rest ≡ l ++ m → Takes need l c → ⊥) → rest ≡ line ++ behind → Takes (Nets zero udps checks) line b → ⊥
transition_ends udps checks need text rest line behind b no_transition is same ends e (inl t) = no_transition line behind (is ∙ e) t.0
transition_ends udps checks need text rest line behind b no_transition is same ends e (inr t) = ends line behind b e (subst (λ n. Takes n line b) same t)

-- where no transition comes
later_ends : (udps checks : ℕ) (lines : List (List ℕ)) (need : Need) (text rest : List ℕ) (left : ℕ) → NoLine IsTransition text → text ≡ joined lines ++ rest → Leads (Udps udps checks) lines need
    → ((line more : List ℕ) (b : Need) → rest ≡ line ++ more → Takes need line b → ⊥) → (need ≡ Nothing → rest ≡ [] → ⊥) → left ≡ length rest → EndsEarly (Nets zero udps checks) text left
later_ends udps checks [] need text rest left no_transition is p ends early many = record {
  lines = [];
  need = Nets zero udps checks;
  rest = rest;
  is = is;
  leads = none;
  ends = λ line behind b e t. transition_ends udps checks need text rest line behind b no_transition is (leads_nil p) ends e t;
  early = λ e n. absurd (cc);
  many = many;
}
later_ends udps checks (x ∷ xs) need text rest left no_transition is p ends early many =
    let u = uncons p in
    record { lines = x ∷ xs; need = need; rest = rest; is = is; leads = more {a = Nets zero udps checks} {b = u.0} (inr u.1) u.2; ends = ends; early = early; many = many }

pub no_transition_ends : (udps checks : ℕ) (text : List ℕ) (left : ℕ) → NoLine IsTransition text → EndsEarly (Udps udps checks) text left → EndsEarly (Nets zero udps checks) text left
no_transition_ends udps checks text left h e = later_ends udps checks e.lines e.need text e.rest left h e.is e.leads e.ends e.early e.many

pub head_ends : (half : List ℕ) → NoLine IsHead half → EndsEarly Head half (length half)
head_ends half h = record { lines = []; need = Head; rest = half; is = refl; leads = none; ends = λ line behind b e t. h line behind e t.0; early = λ e n. absurd (cc); many = refl }

pub stops_behind : (a b : Need) (lines : List (List ℕ)) (text rest : List ℕ) → Leads a lines b → text ≡ joined lines ++ rest → (e : Stop) → Stops b rest e → Stops a text e
stops_behind a b lines text rest p e (stop.Line left) h = ends_behind a b lines text rest left p e h
stops_behind a b lines text rest p e stop.NoMemory h = runs_behind a b lines text rest p e h

no_transition_stops : (udps checks : ℕ) (text : List ℕ) → NoLine IsTransition text → (e : Stop) → Stops (Udps udps checks) text e → Stops (Nets zero udps checks) text e
no_transition_stops udps checks text no_more (stop.Line left) h = no_transition_ends udps checks text left no_more h
no_transition_stops udps checks text no_more stop.NoMemory h = no_transition_runs_out udps checks text h

-- ---- through the parts of a half

pub through_head : (h : Counts) (half left : List ℕ) → AreCounts h × (half ≡ counts_line h ++ left) → (e : Stop) → Stops (Nets h.nets h.udps h.checks) left e → Stops Head half e
through_head h half left (fit, is) e s =
    let head : IsHead (counts_line h) = record { counts = h; is = refl; fit = fit } in
    stops_behind Head (Nets h.nets h.udps h.checks) (counts_line h ∷ []) half left (more {a = Head} {b = Nets h.nets h.udps h.checks} (head, refl) none) (is ∙ ap (λ t. t ++ left) (sym (append-nil (counts_line h)))) e s

pub through_nets : (nets : List Value) (changes : List (Option LastChange)) (text left : List ℕ) (count udps checks : ℕ) → AreNets nets changes text left × (length nets ≡ count) → (e : Stop) → Stops (Nets zero udps checks) left e → Stops (Nets count udps checks) text e
through_nets nets changes text left count udps checks (h, many) e s =
    let seen = map change_seen changes in
    stops_behind (Nets count udps checks) (Nets zero udps checks) (net_lines nets seen) text left (leads_nets nets seen count zero udps checks (omega (arith, many)) h.fit) h.is e s

pub through_pending : (pending : List code_pending.Pending) (text left : List ℕ) (udps checks : ℕ) → AreTransitions pending text left × NoLine IsTransition left → (e : Stop) → Stops (Udps udps checks) left e → Stops (Nets zero udps checks) text e
through_pending pending text left udps checks (h, no_more) e s =
    let seen = map (λ p. pending_seen p) pending in
    stops_behind (Nets zero udps checks) (Nets zero udps checks) (map pending_line seen) text left (leads_pending seen udps checks h.fit) h.is e (no_transition_stops udps checks left no_more e s)

pub through_udps : (udps : List Value) (text left : List ℕ) (count checks : ℕ) → AreUdps udps text left × (length udps ≡ count) → (e : Stop) → Stops (Udps zero checks) left e → Stops (Udps count checks) text e
through_udps udps text left count checks (h, many) e s = stops_behind (Udps count checks) (Udps zero checks) (map udp_line udps) text left (leads_udps udps count zero checks (omega (arith, many))) h.is e s

pub through_checks : (latest : List Latest) (text left : List ℕ) (count : ℕ) → AreChecks latest text left × (length latest ≡ count) → (e : Stop) → Stops (Udps zero zero) left e → Stops (Udps zero count) text e
through_checks latest text left count (h, many) e s = stops_behind (Udps zero count) (Udps zero zero) (map check_line latest) text left (leads_checks latest count zero (omega (arith, many)) h.fit) h.is e s

-- ---- a whole half

pub body_read : (h : Counts) (m : code_moment.Moment) (half a b c d e : List ℕ) → AreCounts h × (half ≡ counts_line h ++ a) → AreNets m.nets.items m.stamps.items a b × (length m.nets.items ≡ h.nets) → AreTransitions m.pending.items b c × NoLine IsTransition c
    → AreUdps m.udps.items c d × (length m.udps.items ≡ h.udps) → AreChecks m.latest.items d e × (length m.latest.items ≡ h.checks) → Is64 m.last × Is64 m.evaluations × (e ≡ counters_line m.last m.evaluations ++ end_line) → m.time ≡ h.time
    → IsBodyOf half h.tick h.elements (moment_seen m)
body_read h m half a b c d e head nets pending udps checks ending time =
    let seen = moment_seen m in
    let last : e ≡ last_line seen ++ end_line = ending.2 in
    let from_checks : d ≡ joined (map check_line seen.latest) ++ (last_line seen ++ end_line) = checks.0.is ∙ ap (λ t. joined (map check_line seen.latest) ++ t) last in
    let from_udps : c ≡ joined (map udp_line seen.udps) ++ (joined (map check_line seen.latest) ++ (last_line seen ++ end_line)) = udps.0.is ∙ ap (λ t. joined (map udp_line seen.udps) ++ t) from_checks in
    let from_pending = pending.0.is ∙ ap (λ t. joined (map pending_line seen.pending) ++ t) from_udps in
    let from_nets = nets.0.is ∙ ap (λ t. joined (net_lines seen.nets seen.stamps) ++ t) from_pending in
    let same : counts_line h ≡ head_line h.tick h.elements seen =
    counted h.time m.time h.tick h.nets (length seen.nets) h.elements h.udps (length seen.udps) h.checks (length seen.latest) (sym time) (sym nets.1) (sym udps.1) (sym checks.1) in
    record {
      text = head.1 ∙ (ap (λ t. t ++ a) same ∙ (ap (λ t. head_line h.tick h.elements seen ++ t) from_nets ∙ body_parts h.tick h.elements seen));
      numbers = record {
        tick = head.0.tick;
        elements = head.0.elements;
        nets = omega (arith, head.0.nets, nets.1);
        udps = omega (arith, head.0.udps, udps.1);
        checks = omega (arith, head.0.checks, checks.1);
        time = omega (arith, head.0.time, time);
        changes = nets.0.fit;
        pending = pending.0.fit;
        latest = checks.0.fit;
        last = ending.0;
        evaluations = ending.1;
      };
    }
