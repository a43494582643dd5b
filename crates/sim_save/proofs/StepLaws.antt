-- Lines that follow one another.
use Rattle.std.proofs.Common.{◌≡◌, ℕ, zero, suc, inl, inr, List, [], ◌∷◌, ◌++◌, refl, sym, ◌∙◌, ap, subst, arith}
use Rattle.std.specs.Prelude.{codes}
use Rattle.std.specs.Fmt.{signed_decimal}
use Rattle.std.proofs.lemmas.List.{append_assoc, append_cancel_left}
use Rattle.sim_save.specs.Lines.{number, word}
use Rattle.sim_save.specs.Steps.{AreCounts, Counts, End, Head, IsTransition, Leads, Need, Nets, Nothing, Takes, TakesLater, Udps, counts_line, more, none}
use Rattle.sim_save.proofs.ConsLaws.{first_byte}
use Rattle.sim_save.proofs.LineLaws.{AreLines, IsLine, check_is_line, counters_is_line, counts_is_line, end_is_line, net_is_line, pending_is_line, udp_is_line}
use Rattle.sim_save.proofs.WordLaws.{number_apart, power_apart}

-- ---- the numbers of a head are told by its line

seven : (s a b c d e f rest : List ℕ) → ((s ++ a ++ b ++ c ++ d ++ e ++ f) ++ 10 ∷ []) ++ rest ≡ s ++ (a ++ (b ++ (c ++ (d ++ (e ++ (f ++ 10 ∷ rest))))))
seven s a b c d e f rest = simp append_assoc

-- the line and what follows it, word after word
pub counts_right : (h : Counts) (rest : List ℕ)
    → counts_line h ++ rest ≡ codes "save" ++ (number h.time ++ (word (signed_decimal h.tick) ++ (number h.nets ++ (number h.elements ++ (number h.udps ++ (number h.checks ++ 10 ∷ rest))))))
counts_right h rest = seven (codes "save") (number h.time) (word (signed_decimal h.tick)) (number h.nets) (number h.elements) (number h.udps) (number h.checks) rest

same_counts : (g h : Counts) → g.time ≡ h.time → g.tick ≡ h.tick → g.nets ≡ h.nets → g.elements ≡ h.elements → g.udps ≡ h.udps → g.checks ≡ h.checks → g ≡ h
same_counts g h a b c d e f = λ i. record { time = a i; tick = b i; nets = c i; elements = d i; udps = e i; checks = f i }

pub counts_apart : (g h : Counts) → AreCounts g → AreCounts h → counts_line g ≡ counts_line h → g ≡ h
counts_apart g h fg fh e =
    let tail = λ (k : Counts). number k.checks ++ 10 ∷ [] in
    let udps = λ (k : Counts). number k.udps ++ tail k in
    let elements = λ (k : Counts). number k.elements ++ udps k in
    let nets = λ (k : Counts). number k.nets ++ elements k in
    let tick = λ (k : Counts). word (signed_decimal k.tick) ++ nets k in
    let time = λ (k : Counts). number k.time ++ tick k in
    let whole : codes "save" ++ time g ≡ codes "save" ++ time h = sym (counts_right g []) ∙ (ap (λ t. t ++ []) e ∙ counts_right h []) in
    let a = number_apart g.time h.time (tick g) (tick h) fg.time fh.time refl refl (append_cancel_left (codes "save") (time g) (time h) whole) in
    let b = power_apart g.tick h.tick (nets g) (nets h) fg.tick fh.tick refl refl a.1 in
    let c = number_apart g.nets h.nets (elements g) (elements h) (omega (arith, fg.nets)) (omega (arith, fh.nets)) refl refl b.1 in
    let d = number_apart g.elements h.elements (udps g) (udps h) (omega (arith, fg.elements)) (omega (arith, fh.elements)) refl refl c.1 in
    let u = number_apart g.udps h.udps (tail g) (tail h) (omega (arith, fg.udps)) (omega (arith, fh.udps)) refl refl d.1 in
    let k = number_apart g.checks h.checks (10 ∷ []) (10 ∷ []) (omega (arith, fg.checks)) (omega (arith, fh.checks)) refl refl u.1 in
    same_counts g h a.0 b.0 c.0 d.0 u.0 k.0

-- ---- a line leads to one need

pub no_transition_later : (udps checks : ℕ) (text : List ℕ) (b : Need) → IsTransition text → TakesLater udps checks text b → ⊥
no_transition_later (suc udps) checks text b t k =
    let e : 112 ≡ 117 = first_byte 112 117 _ _ (sym t.is ∙ k.0.is) in omega (arith, e)
no_transition_later zero (suc checks) text b t k =
    let e : 112 ≡ 99 = first_byte 112 99 _ _ (sym t.is ∙ k.0.is) in omega (arith, e)
no_transition_later zero zero text b t k =
    let e : 112 ≡ 108 = first_byte 112 108 _ _ (sym t.is ∙ k.0.is) in omega (arith, e)

later_one : (udps checks : ℕ) (text : List ℕ) (b c : Need) → TakesLater udps checks text b → TakesLater udps checks text c → b ≡ c
later_one (suc udps) checks text b c p q = p.1 ∙ sym q.1
later_one zero (suc checks) text b c p q = p.1 ∙ sym q.1
later_one zero zero text b c p q = p.1 ∙ sym q.1

transition_one : (udps checks : ℕ) (text : List ℕ) (b c : Need) → Takes (Nets zero udps checks) text b → Takes (Nets zero udps checks) text c → b ≡ c
transition_one udps checks text b c (inl p) (inl q) = p.1 ∙ sym q.1
transition_one udps checks text b c (inl p) (inr q) = absurd (no_transition_later udps checks text c p.0 q)
transition_one udps checks text b c (inr p) (inl q) = absurd (no_transition_later udps checks text b q.0 p)
transition_one udps checks text b c (inr p) (inr q) = later_one udps checks text b c p q

head_one : (text : List ℕ) (b c : Need) → Takes Head text b → Takes Head text c → b ≡ c
head_one text b c p q =
    let same = counts_apart p.0.counts q.0.counts p.0.fit q.0.fit (sym p.0.is ∙ q.0.is) in
    p.1 ∙ (ap (λ k. Nets k.nets k.udps k.checks) same ∙ sym q.1)

pub takes_one : (a : Need) (text : List ℕ) (b c : Need) → Takes a text b → Takes a text c → b ≡ c
takes_one Head text b c p q = head_one text b c p q
takes_one (Nets (suc nets) udps checks) text b c p q = p.1 ∙ sym q.1
takes_one (Nets zero udps checks) text b c p q = transition_one udps checks text b c p q
takes_one (Udps udps checks) text b c p q = later_one udps checks text b c p q
takes_one End text b c p q = p.1 ∙ sym q.1
takes_one Nothing text b c p q = absurd p

-- ---- what is taken is a line

later_line : (udps checks : ℕ) (text : List ℕ) (b : Need) → TakesLater udps checks text b → IsLine text
later_line (suc udps) checks text b t = subst IsLine (sym t.0.is) (udp_is_line t.0.state)
later_line zero (suc checks) text b t = subst IsLine (sym t.0.is) (check_is_line t.0.latest)
later_line zero zero text b t = subst IsLine (sym t.0.is) (counters_is_line t.0.last t.0.evaluations)

transition_line : (udps checks : ℕ) (text : List ℕ) (b : Need) → Takes (Nets zero udps checks) text b → IsLine text
transition_line udps checks text b (inl t) = subst IsLine (sym t.0.is) (pending_is_line t.0.pending)
transition_line udps checks text b (inr t) = later_line udps checks text b t

pub takes_line : (a : Need) (text : List ℕ) (b : Need) → Takes a text b → IsLine text
takes_line Head text b t = subst IsLine (sym t.0.is) (counts_is_line t.0.counts)
takes_line (Nets (suc nets) udps checks) text b t = subst IsLine (sym t.0.is) (net_is_line t.0.value t.0.change)
takes_line (Nets zero udps checks) text b t = transition_line udps checks text b t
takes_line (Udps udps checks) text b t = later_line udps checks text b t
takes_line End text b t = subst IsLine (sym t.0) end_is_line
takes_line Nothing text b t = absurd t

-- ---- lines one after another

pub leads_append : {a b c : Need} {xs ys : List (List ℕ)} → Leads a xs b → Leads b ys c → Leads a (xs ++ ys) c
leads_append none q = q
leads_append (more t p) q = more t (leads_append p q)

pub uncons : {a c : Need} {text : List ℕ} {lines : List (List ℕ)} → Leads a (text ∷ lines) c → (b : Need) × Takes a text b × Leads b lines c
uncons (more {b = b} t p) = (b, t, p)

pub leads_nil : {a b : Need} → Leads a [] b → a ≡ b
leads_nil none = refl

pub leads_split : (xs ys : List (List ℕ)) → {a c : Need} → Leads a (xs ++ ys) c → (b : Need) × Leads a xs b × Leads b ys c
leads_split [] ys {a = a} p = (a, none, p)
leads_split (x ∷ xs) ys p = let u = uncons p in let r = leads_split xs ys u.2 in (r.0, more u.1 r.1, r.2)

pub leads_one : (xs : List (List ℕ)) → {a b c : Need} → Leads a xs b → Leads a xs c → b ≡ c
leads_one [] p q = sym (leads_nil p) ∙ leads_nil q
leads_one (x ∷ xs) {a = a} {b = b} p q =
    let u = uncons p in
    let v = uncons q in
    let e = takes_one a x u.0 v.0 u.1 v.1 in
    leads_one xs (subst (λ n. Leads n xs b) e u.2) v.2

pub leads_lines : (xs : List (List ℕ)) → {a b : Need} → Leads a xs b → AreLines xs
leads_lines [] p = tt
leads_lines (x ∷ xs) {a = a} p = let u = uncons p in (takes_line a x u.0 u.1, leads_lines xs u.2)
