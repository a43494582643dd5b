-- A chain of causes, one event more at a time; and there is one chain.
use Rattle.std.specs.Prelude.{◌≡◌, ℕ, zero, suc, ◌<◌, ◌==◌, ◌||◌, Bool, true, false, cond, List, [], ◌∷◌, ◌++◌, length, replicate, Some, None, slice_index_or, slice_set, refl}
use Rattle.std.proofs.Common.{sym, ◌∙◌, ap, subst, arith, append_assoc, append-nil, get_or-set_same, get_or-set_other, length-set, eqb-true, unwrap_or}
use Rattle.std.proofs.lemmas.Bool.Decides.{nat_tests}
use Rattle.sg_circuit.specs.Circuit.{Circuit}
use Rattle.sg_circuit.specs.FanOut.{has}
use Rattle.why_causes.specs.declared.links.Link.{Link}
use Rattle.why_causes.specs.declared.links.Cause.{Cause}
use Rattle.why_causes.specs.declared.links.Cause.TheVariants.{Nothing, NeverSet, Linked}
use Rattle.why_causes.specs.Waveform.{Waveform}
use Rattle.why_causes.specs.Causes.{cause}
use Rattle.why_causes.specs.Chains.{EndsWith, GoesOn, IsChain}
use Rattle.why_causes.specs.Links.{new_link, IsWithin}

-- these links lead from an event to the last so far, and the events before that are marked
pub record Going (circuit : Circuit) (w : Waveform) (event : ℕ) (links : List Link) (seen : List Bool) (last : ℕ) : Type 0 where
  pub before : List ℕ
  pub within : last < length w.events
  pub many : length seen ≡ length w.events
  pub marked : (k : ℕ) → k < length w.events → slice_index_or seen k false ≡ has k before
  pub fresh : has last before ≡ false
  pub rest : (more : List Link) (end : Cause) → GoesOn circuit w before last more end → IsChain circuit w event (links ++ more) end

-- how many aren't marked
abbrev pub unmarked : List Bool → ℕ
unmarked [] = 0
unmarked (b ∷ bs) = cond b (unmarked bs) (suc (unmarked bs))

unmarked-set : (bs : List Bool) (i : ℕ) → i < length bs → slice_index_or bs i false ≡ false → suc (unmarked (slice_set bs i true)) ≡ unmarked bs
unmarked-set [] i l f = absurd (omega (arith, l))
unmarked-set (b ∷ bs) zero l f = sym (ap (λ c. cond c (unmarked bs) (suc (unmarked bs))) f)
unmarked-set (b ∷ bs) (suc i) l f = at b (unmarked-set bs i (omega (arith, l)) f)
  where
    at : (c : Bool) → suc (unmarked (slice_set bs i true)) ≡ unmarked bs → suc (cond c (unmarked (slice_set bs i true)) (suc (unmarked (slice_set bs i true)))) ≡ cond c (unmarked bs) (suc (unmarked bs))
    at true e = e
    at false e = ap suc e

none-marked : (n k : ℕ) → slice_index_or (replicate n false) k false ≡ false
none-marked zero k = refl
none-marked (suc n) zero = refl
none-marked (suc n) (suc k) = none-marked n k

long : (n : ℕ) → length (replicate n false) ≡ n
long zero = refl
long (suc n) = let e = long n in omega (arith, e)

pub going-from : (circuit : Circuit) (w : Waveform) (event : ℕ) (links : List Link) (seen : List Bool) → event < length w.events → links ≡ [] → seen ≡ replicate (length w.events) false → Going circuit w event links seen event
going-from circuit w event links seen l e s = record {
  before = [];
  within = l;
  many = ap length s ∙ long (length w.events);
  marked = λ k m. ap (λ bs. slice_index_or bs k false) s ∙ none-marked (length w.events) k;
  fresh = refl;
  rest = λ more end h. subst (λ ls. IsChain circuit w event (ls ++ more) end) (sym e) h;
}

different : (a b : ℕ) → (a == b) ≡ false → a ≡ b → ⊥
different a b e same = grind (arith, nat_tests, e, same)

module _ (circuit : Circuit) (w : Waveform) (event : ℕ) (links : List Link) (seen : List Bool) (last : ℕ) (going : Going circuit w event links seen last) where
  is-unmarked : slice_index_or seen last false ≡ false
  is-unmarked = going.marked last going.within ∙ going.fresh

  within-seen : last < length seen
  within-seen = subst (λ n. last < n) (sym going.many) going.within

  pub fewer : unmarked (slice_set seen last true) < unmarked seen
  fewer = let e = unmarked-set seen last within-seen is-unmarked in omega (arith, e)

  now-marked : (k : ℕ) → k < length w.events → slice_index_or (slice_set seen last true) k false ≡ has k (last ∷ going.before)
  now-marked k l = at (last == k) refl
    where
      at : (b : Bool) → (last == k) ≡ b → slice_index_or (slice_set seen last true) k false ≡ (b || has k going.before)
      at true e = ap (λ n. slice_index_or (slice_set seen last true) n false) (sym (eqb-true last k e)) ∙ get_or-set_same seen last true false within-seen
      at false e = get_or-set_other seen last k true false (λ same. different last k e (sym same)) ∙ going.marked k l

  -- no cause that is a new event
  pub ended : (found : Cause) → found ≡ cause circuit w last → IsWithin (length w.events) found → None ≡ new_link (slice_set seen last true) found → IsChain circuit w event links found
  ended found is within none =
      subst (λ ls. IsChain circuit w event ls found) (append-nil links) (going.rest [] found (sym is, at found within none))
    where
      flagged : (link : Link) (b : Bool) → slice_index_or (slice_set seen last true) link.event false ≡ b → None ≡ cond b None (Some link) → b ≡ true
      flagged link true e h = refl
      flagged link false e h = absurd (cc)

      at : (found : Cause) → IsWithin (length w.events) found → None ≡ new_link (slice_set seen last true) found → EndsWith (last ∷ going.before) found
      at Nothing l h = tt
      at (NeverSet e i) l h = tt
      at (Linked link) l h = sym (now-marked link.event l) ∙ flagged link (slice_index_or (slice_set seen last true) link.event false) refl h

  -- a new one
  pub goes-on : (found : Cause) (link : Link) (new : List Link) → found ≡ cause circuit w last → IsWithin (length w.events) found → Some link ≡ new_link (slice_set seen last true) found → new ≡ links ++ link ∷ []
      → Going circuit w event new (slice_set seen last true) link.event
  goes-on found link new is within some more = at found is within some
    where
      made : (other : Link) → other ≡ link → Linked other ≡ cause circuit w last → other.event < length w.events → slice_index_or (slice_set seen last true) other.event false ≡ false → Going circuit w event new (slice_set seen last true) link.event
      made other same is l f = record {
        before = last ∷ going.before;
        within = subst (λ (x : Link). x.event < length w.events) same l;
        many = length-set seen last true ∙ going.many;
        marked = now-marked;
        fresh = subst (λ (x : Link). has x.event (last ∷ going.before) ≡ false) same (sym (now-marked other.event l) ∙ f);
        rest = λ rest end h. subst (λ ls. IsChain circuit w event ls end) (sym (ap (λ ls. ls ++ rest) more ∙ append_assoc links (link ∷ []) rest))
            (going.rest (link ∷ rest) end (sym is ∙ ap Linked same, subst (λ (x : Link). has x.event (last ∷ going.before) ≡ false) same (sym (now-marked other.event l) ∙ f), h));
      }

      flagged : (other : Link) (b : Bool) → Some link ≡ cond b None (Some other) → (b ≡ false) × (other ≡ link)
      flagged other true h = absurd (cc)
      flagged other false h = (refl, sym (ap (λ o. unwrap_or o link) h))

      at : (found : Cause) → found ≡ cause circuit w last → IsWithin (length w.events) found → Some link ≡ new_link (slice_set seen last true) found → Going circuit w event new (slice_set seen last true) link.event
      at Nothing is l h = absurd (cc)
      at (NeverSet e i) is l h = absurd (cc)
      at (Linked other) is l h = let f = flagged other (slice_index_or (slice_set seen last true) other.event false) h in made other f.1 is l f.0

-- two chains of one event are one
same-links : (circuit : Circuit) (w : Waveform) (before : List ℕ) (event : ℕ) (links others : List Link) (end other : Cause) → GoesOn circuit w before event links end → GoesOn circuit w before event others other → (links ≡ others) × (end ≡ other)
same-links circuit w before event [] [] end other h k = (refl, sym h.0 ∙ k.0)
same-links circuit w before event [] (o ∷ os) end other h k = absurd (clash end (sym h.0 ∙ k.0) h.1)
  where
    clash : (end : Cause) → end ≡ Linked o → EndsWith (event ∷ before) end → ⊥
    clash end e ends = let seen : has o.event (event ∷ before) ≡ true = subst (EndsWith (event ∷ before)) e ends in let new = k.1 in cc
same-links circuit w before event (l ∷ ls) [] end other h k = absurd (clash other (sym k.0 ∙ h.0) k.1)
  where
    clash : (end : Cause) → end ≡ Linked l → EndsWith (event ∷ before) end → ⊥
    clash end e ends = let seen : has l.event (event ∷ before) ≡ true = subst (EndsWith (event ∷ before)) e ends in let new = h.1 in cc
same-links circuit w before event (l ∷ ls) (o ∷ os) end other h k =
    let same : l ≡ o = linked l o (sym h.0 ∙ k.0) in
    let rest = same-links circuit w (event ∷ before) l.event ls os end other h.2 (subst (λ (x : Link). GoesOn circuit w (event ∷ before) x.event os other) (sym same) k.2) in
    (ap (λ x. x ∷ ls) same ∙ ap (λ xs. o ∷ xs) rest.0, rest.1)
  where
    link_or : Link → Cause → Link
    link_or d Nothing = d
    link_or d (NeverSet e i) = d
    link_or d (Linked x) = x

    linked : (x y : Link) → Linked x ≡ Linked y → x ≡ y
    linked x y e = ap (link_or x) e

pub one-chain : (circuit : Circuit) (w : Waveform) (event : ℕ) (links others : List Link) (end other : Cause) → IsChain circuit w event links end → IsChain circuit w event others other → (links ≡ others) × (end ≡ other)
one-chain circuit w event links others end other h k = same-links circuit w [] event links others end other h k
