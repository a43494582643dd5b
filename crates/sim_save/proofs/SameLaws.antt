-- A moment is told by its text.
use Rattle.std.proofs.Common.{◌≡◌, ℕ, ℤ, zero, ◌<◌, List, [], ◌∷◌, ◌++◌, length, map, refl, sym, ◌∙◌, ap, subst, arith}
use Rattle.std.specs.Prelude.{◌^◌, All, codes}
use Rattle.std.specs.declared.option.Option.{Option}
use Rattle.std.specs.declared.option.Option.TheVariants.{Some, None}
use Rattle.std.proofs.lemmas.List.{append-nil, append_assoc, append_cancel_left}
use Rattle.std.proofs.lemmas.List.Elements.{All-head, All-tail}
use Rattle.sg_logic.specs.declared.values.Value.{Value}
use Rattle.sg_model.specs.Machine.{Stamp}
use Rattle.time_checks.specs.declared.latest.Latest.{Latest}
use Rattle.sim_rounds.specs.Moments.{Moment, Pending}
use Rattle.sim_save.specs.Faults.{AreChanges, AreNumbers, lines_in}
use Rattle.sim_save.specs.Lines.{body, change_words, check_line, end_line, event_word, last_line, letter, net_line, net_lines, number, pending_line, save_lines, udp_line}
use Rattle.sim_save.specs.Steps.{AreCounts, Counts, IsChange, IsLatest, IsPending, IsTransition, Leads, Nothing, Udps, counters_line}
use Rattle.sim_save.proofs.BodyLaws.{lines_of_body}
use Rattle.sim_save.proofs.ConsLaws.{first_byte, head_of, other_bytes, tail_of}
use Rattle.sim_save.proofs.MomentLaws.{change_of, counts_of, five, leads_checks, leads_counters, leads_end, leads_udps}
use Rattle.sim_save.proofs.StepLaws.{counts_apart, leads_append, no_transition_later, uncons}
use Rattle.sim_save.proofs.WordLaws.{event_apart, event_ends, letter_apart, number_apart}

-- ---- the parts of a line are told by it

-- a letter, and a text of two or three words with its LF, word after word
two : (s a b : List ℕ) → (s ++ a ++ b) ++ 10 ∷ [] ≡ s ++ (a ++ (b ++ 10 ∷ []))
two s a b = simp append_assoc

three : (s a b c : List ℕ) → (s ++ a ++ b ++ c) ++ 10 ∷ [] ≡ s ++ (a ++ (b ++ (c ++ 10 ∷ [])))
three s a b c = simp append_assoc

same_stamp : (s t : Stamp) → s.time ≡ t.time → s.before ≡ t.before → s.after ≡ t.after → s ≡ t
same_stamp s t a b c = λ i. record { time = a i; before = b i; after = c i }

same_change : (v w : Value) (s t : Option Stamp) → v ≡ w → IsChange v s → IsChange w t → change_words s ++ 10 ∷ [] ≡ change_words t ++ 10 ∷ [] → s ≡ t
same_change v w None None same hs ht e = refl
same_change v w None (Some t) same hs ht e = let n : 10 ≡ 32 = first_byte 10 32 _ _ e in absurd (omega (arith, n))
same_change v w (Some s) None same hs ht e = let n : 32 ≡ 10 = first_byte 32 10 _ _ e in absurd (omega (arith, n))
same_change v w (Some s) (Some t) same hs ht e =
    let right = λ (u : Stamp). append_assoc (number u.time) (letter u.before) (10 ∷ []) in
    let a = number_apart s.time t.time (letter s.before ++ 10 ∷ []) (letter t.before ++ 10 ∷ []) hs.0 ht.0 refl refl (sym (right s) ∙ (e ∙ right t)) in
    let b = letter_apart s.before t.before (10 ∷ []) (10 ∷ []) a.1 in
    ap Some (same_stamp s t a.0 b.0 (hs.1 ∙ (same ∙ sym ht.1)))

same_net : (v w : Value) (s t : Option Stamp) → IsChange v s → IsChange w t → net_line v s ≡ net_line w t → (v ≡ w) × (s ≡ t)
same_net v w s t hs ht e =
    let right = λ (u : Value) (o : Option Stamp). two (codes "n") (letter u) (change_words o) in
    let whole = append_cancel_left (codes "n") (letter v ++ (change_words s ++ 10 ∷ [])) (letter w ++ (change_words t ++ 10 ∷ [])) (sym (right v s) ∙ (e ∙ right w t)) in
    let a = letter_apart v w (change_words s ++ 10 ∷ []) (change_words t ++ 10 ∷ []) whole in
    (a.0, same_change v w s t a.0 hs ht a.1)

same_pending : (p q : Pending) → IsPending p → IsPending q → pending_line p ≡ pending_line q → p ≡ q
same_pending p q hp hq e =
    let right = λ (r : Pending). three (codes "p") (number r.driver) (number r.time) (letter r.value) in
    let last = λ (r : Pending). letter r.value ++ 10 ∷ [] in
    let time = λ (r : Pending). number r.time ++ last r in
    let whole = append_cancel_left (codes "p") (number p.driver ++ time p) (number q.driver ++ time q) (sym (right p) ∙ (e ∙ right q)) in
    let a = number_apart p.driver q.driver (time p) (time q) (omega (arith, hp.0)) (omega (arith, hq.0)) refl refl whole in
    let b = number_apart p.time q.time (last p) (last q) hp.1 hq.1 refl refl a.1 in
    let c = letter_apart p.value q.value (10 ∷ []) (10 ∷ []) b.1 in
    λ i. record { driver = a.0 i; time = b.0 i; value = c.0 i }

same_udp : (v w : Value) → udp_line v ≡ udp_line w → v ≡ w
same_udp v w e = (letter_apart v w (10 ∷ []) (10 ∷ []) (other_bytes 117 117 _ _ e)).0

same_check : (k l : Latest) → IsLatest k → IsLatest l → check_line k ≡ check_line l → k ≡ l
same_check k l hk hl e =
    let right = λ (r : Latest). two (codes "c") (event_word r.refer) (event_word r.datum) in
    let last = λ (r : Latest). event_word r.datum ++ 10 ∷ [] in
    let whole = append_cancel_left (codes "c") (event_word k.refer ++ last k) (event_word l.refer ++ last l) (sym (right k) ∙ (e ∙ right l)) in
    let a = event_apart k.refer l.refer (last k) (last l) hk.0 hl.0 (event_ends k.datum (10 ∷ [])) (event_ends l.datum (10 ∷ [])) whole in
    let b = event_apart k.datum l.datum (10 ∷ []) (10 ∷ []) hk.1 hl.1 refl refl a.1 in
    λ i. record { refer = a.0 i; datum = b.0 i }

same_counters : (l m e f : ℕ) → l < 2 ^ 64 → m < 2 ^ 64 → e < 2 ^ 64 → f < 2 ^ 64 → counters_line l e ≡ counters_line m f → (l ≡ m) × (e ≡ f)
same_counters l m e f hl hm he hf same =
    let right = λ (a b : ℕ). two (codes "l") (number a) (number b) in
    let last = λ (a : ℕ). number a ++ 10 ∷ [] in
    let whole = append_cancel_left (codes "l") (number l ++ last e) (number m ++ last f) (sym (right l e) ∙ (same ∙ right m f)) in
    let a = number_apart l m (last e) (last f) hl hm refl refl whole in
    let b = number_apart e f (10 ∷ []) (10 ∷ []) he hf refl refl a.1 in
    (a.0, b.0)

-- ---- lists are told by their lines

nets_apart : (vs ws : List Value) (ss ts : List (Option Stamp)) (r q : List (List ℕ)) → length vs ≡ length ws → AreChanges vs ss → AreChanges ws ts
    → net_lines vs ss ++ r ≡ net_lines ws ts ++ q → (vs ≡ ws) × (ss ≡ ts) × (r ≡ q)
nets_apart [] [] [] [] r q n hs ht e = (refl, refl, e)
nets_apart [] [] (s ∷ ss) ts r q n hs ht e = absurd hs
nets_apart [] [] [] (t ∷ ts) r q n hs ht e = absurd ht
nets_apart [] (w ∷ ws) ss ts r q n hs ht e = absurd (omega (arith, n))
nets_apart (v ∷ vs) [] ss ts r q n hs ht e = absurd (omega (arith, n))
nets_apart (v ∷ vs) (w ∷ ws) [] ts r q n hs ht e = absurd hs
nets_apart (v ∷ vs) (w ∷ ws) (s ∷ ss) [] r q n hs ht e = absurd ht
nets_apart (v ∷ vs) (w ∷ ws) (s ∷ ss) (t ∷ ts) r q n hs ht e =
    let ps = change_of v vs s ss hs in
    let pt = change_of w ws t ts ht in
    let one = same_net v w s t ps.0 pt.0 (head_of (net_line v s) (net_line w t) _ _ e) in
    let rest = nets_apart vs ws ss ts r q (omega (arith, n)) ps.1 pt.1 (tail_of (net_line v s) (net_line w t) _ _ e) in
    (ap (λ x. x ∷ vs) one.0 ∙ ap (λ xs. w ∷ xs) rest.0, ap (λ x. x ∷ ss) one.1 ∙ ap (λ xs. t ∷ xs) rest.1, rest.2)

-- what follows the transitions begins with none
pending_apart : (ps qs : List Pending) (udps checks : ℕ) (r q : List (List ℕ)) → All IsPending ps → All IsPending qs → Leads (Udps udps checks) r Nothing → Leads (Udps udps checks) q Nothing
    → map pending_line ps ++ r ≡ map pending_line qs ++ q → (ps ≡ qs) × (r ≡ q)
pending_apart [] [] udps checks r q hp hq lr lq e = (refl, e)
pending_apart [] (p ∷ qs) udps checks r q hp hq lr lq e =
    let one : IsTransition (pending_line p) = record { pending = p; is = refl; fit = All-head IsPending p qs hq } in
    let u = uncons (subst (λ ls. Leads (Udps udps checks) ls Nothing) e lr) in
    absurd (no_transition_later udps checks (pending_line p) u.0 one u.1)
pending_apart (p ∷ ps) [] udps checks r q hp hq lr lq e =
    let one : IsTransition (pending_line p) = record { pending = p; is = refl; fit = All-head IsPending p ps hp } in
    let u = uncons (subst (λ ls. Leads (Udps udps checks) ls Nothing) (sym e) lq) in
    absurd (no_transition_later udps checks (pending_line p) u.0 one u.1)
pending_apart (p ∷ ps) (o ∷ qs) udps checks r q hp hq lr lq e =
    let one = same_pending p o (All-head IsPending p ps hp) (All-head IsPending o qs hq) (head_of (pending_line p) (pending_line o) _ _ e) in
    let rest = pending_apart ps qs udps checks r q (All-tail IsPending p ps hp) (All-tail IsPending o qs hq) lr lq (tail_of (pending_line p) (pending_line o) _ _ e) in
    (ap (λ x. x ∷ ps) one ∙ ap (λ xs. o ∷ xs) rest.0, rest.1)

udps_apart : (vs ws : List Value) (r q : List (List ℕ)) → length vs ≡ length ws → map udp_line vs ++ r ≡ map udp_line ws ++ q → (vs ≡ ws) × (r ≡ q)
udps_apart [] [] r q n e = (refl, e)
udps_apart [] (w ∷ ws) r q n e = absurd (omega (arith, n))
udps_apart (v ∷ vs) [] r q n e = absurd (omega (arith, n))
udps_apart (v ∷ vs) (w ∷ ws) r q n e =
    let one = same_udp v w (head_of (udp_line v) (udp_line w) _ _ e) in
    let rest = udps_apart vs ws r q (omega (arith, n)) (tail_of (udp_line v) (udp_line w) _ _ e) in
    (ap (λ x. x ∷ vs) one ∙ ap (λ xs. w ∷ xs) rest.0, rest.1)

checks_apart : (ks ls : List Latest) (r q : List (List ℕ)) → length ks ≡ length ls → All IsLatest ks → All IsLatest ls → map check_line ks ++ r ≡ map check_line ls ++ q → (ks ≡ ls) × (r ≡ q)
checks_apart [] [] r q n hk hl e = (refl, e)
checks_apart [] (l ∷ ls) r q n hk hl e = absurd (omega (arith, n))
checks_apart (k ∷ ks) [] r q n hk hl e = absurd (omega (arith, n))
checks_apart (k ∷ ks) (l ∷ ls) r q n hk hl e =
    let one = same_check k l (All-head IsLatest k ks hk) (All-head IsLatest l ls hl) (head_of (check_line k) (check_line l) _ _ e) in
    let rest = checks_apart ks ls r q (omega (arith, n)) (All-tail IsLatest k ks hk) (All-tail IsLatest l ls hl) (tail_of (check_line k) (check_line l) _ _ e) in
    (ap (λ x. x ∷ ks) one ∙ ap (λ xs. l ∷ xs) rest.0, rest.1)

-- ---- a moment

same_fields : (m n : Moment) → m.time ≡ n.time → m.nets ≡ n.nets → m.stamps ≡ n.stamps → m.pending ≡ n.pending → m.udps ≡ n.udps → m.latest ≡ n.latest → m.last ≡ n.last → m.evaluations ≡ n.evaluations → m ≡ n
same_fields m n a b c d e f g h = λ i. record { time = a i; nets = b i; stamps = c i; pending = d i; udps = e i; latest = f i; last = g i; evaluations = h i }

fit_of : (tick : ℤ) (elements : ℕ) (m : Moment) → AreNumbers tick elements m → AreCounts (counts_of tick elements m)
fit_of tick elements m h = record { time = h.time; tick = h.tick; nets = h.nets; elements = h.elements; udps = h.udps; checks = h.checks }

ending : Moment → List (List ℕ)
ending m = last_line m ∷ end_line ∷ []

-- what a moment's lines are behind its transitions
leads_behind : (tick : ℤ) (elements : ℕ) (m : Moment) → AreNumbers tick elements m → Leads (Udps (length m.udps) (length m.latest)) (map udp_line m.udps ++ (map check_line m.latest ++ ending m)) Nothing
unfolding ending
leads_behind tick elements m h =
    let last = leads_append (leads_counters m.last m.evaluations h.last h.evaluations) leads_end in
    let checks = leads_append (leads_checks m.latest (length m.latest) zero (omega arith) h.latest) last in
    leads_append (leads_udps m.udps (length m.udps) zero (length m.latest) (omega arith)) checks

same_lines : (tick power : ℤ) (elements count : ℕ) (m n : Moment) → AreNumbers tick elements m → AreNumbers power count n → save_lines tick elements m ≡ save_lines power count n → (tick ≡ power) × (elements ≡ count) × (m ≡ n)
unfolding ending
same_lines tick power elements count m n hm hn e =
    let udps = λ (k : Moment). map udp_line k.udps in
    let checks = λ (k : Moment). map check_line k.latest in
    let later = λ (k : Moment). udps k ++ (checks k ++ ending k) in
    let pending = λ (k : Moment). map pending_line k.pending ++ later k in
    let nets = λ (k : Moment). net_lines k.nets k.stamps ++ pending k in
    let right = λ (k : Moment). five (net_lines k.nets k.stamps) (map pending_line k.pending) (udps k) (checks k) (ending k) in
    let head = counts_apart (counts_of tick elements m) (counts_of power count n) (fit_of tick elements m hm) (fit_of power count n hn) (head_of _ _ _ _ e) in
    let u : length m.udps ≡ length n.udps = ap (λ (c : Counts). c.udps) head in
    let k : length m.latest ≡ length n.latest = ap (λ (c : Counts). c.checks) head in
    let behind : nets m ≡ nets n = sym (right m) ∙ (tail_of _ _ _ _ e ∙ right n) in
    let a = nets_apart m.nets n.nets m.stamps n.stamps (pending m) (pending n) (ap (λ (c : Counts). c.nets) head) hm.changes hn.changes behind in
    let other = subst (λ x. Leads (Udps x (length m.latest)) (later n) Nothing) (sym u) (subst (λ x. Leads (Udps (length n.udps) x) (later n) Nothing) (sym k) (leads_behind power count n hn)) in
    let b = pending_apart m.pending n.pending (length m.udps) (length m.latest) (later m) (later n) hm.pending hn.pending (leads_behind tick elements m hm) other a.2 in
    let c = udps_apart m.udps n.udps (checks m ++ ending m) (checks n ++ ending n) u b.1 in
    let d = checks_apart m.latest n.latest (ending m) (ending n) k hm.latest hn.latest c.1 in
    let l = same_counters m.last n.last m.evaluations n.evaluations hm.last hn.last hm.evaluations hn.evaluations (head_of (last_line m) (last_line n) _ _ d.1) in
    (ap (λ (c : Counts). c.tick) head, ap (λ (c : Counts). c.elements) head, same_fields m n (ap (λ (c : Counts). c.time) head) a.0 a.1 b.0 c.0 d.0 l.0 l.1)

pub same_body : (tick power : ℤ) (elements count : ℕ) (m n : Moment) → AreNumbers tick elements m → AreNumbers power count n → body tick elements m ≡ body power count n → (tick ≡ power) × (elements ≡ count) × (m ≡ n)
same_body tick power elements count m n hm hn e =
    let all = λ (t : ℤ) (c : ℕ) (k : Moment). lines_of_body t c k [] ∙ append-nil (save_lines t c k) in
    same_lines tick power elements count m n hm hn (sym (all tick elements m) ∙ (ap (λ t. lines_in (t ++ [])) e ∙ all power count n))
