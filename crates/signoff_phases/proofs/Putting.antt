-- Putting a text, call by call.
use Rattle.std.proofs.Common.{◌≡◌, ◌∙◌, sym, ap, subst, refl, ℕ, zero, suc, List, [], ◌∷◌, ◌++◌, take, append_assoc}
use Rattle.std.proofs.lemmas.List.{append-nil}
use Rattle.std.specs.Prelude.{Option, Some, None, Result, Ok, Err}
use Rattle.sg_io.specs.Files.{BothTell}
use Rattle.sg_io.specs.Put.{SinkTold, Puts}
use Rattle.sg_io.specs.declared.outside.ShelfError.{ShelfError}
use Rattle.sg_io.specs.declared.outside.ShelfError.TheVariants as shelf
use Rattle.signoff_phases.specs.Putting.{PutsAll, PutsFirst, PutsBy}

-- what nothing changed, both tell
pub both_same : {A : Type 0} (P : A → A → Type 0) (old new : Option A) → new ≡ old → ((x : A) → old ≡ Some x → P x x) → BothTell old new P
both_same P (Some x) (Some y) e f = let q : x ≡ y = cc in subst (P x) q (f x refl)
both_same P None None e f = tt
both_same P None (Some y) e f = cc
both_same P (Some x) None e f = cc

-- one step and another
pub both_then : {A : Type 0} (P Q R : A → A → Type 0) (old mid new : Option A) → BothTell old mid P → BothTell mid new Q → ((x y z : A) → P x y → Q y z → R x z) → BothTell old new R
both_then P Q R (Some x) (Some y) (Some z) p q f = f x y z p q
both_then P Q R (Some x) (Some y) None p q f = absurd q
both_then P Q R (Some x) None new p q f = absurd p
both_then P Q R None None None p q f = tt
both_then P Q R None None (Some z) p q f = absurd q
both_then P Q R None (Some y) new p q f = absurd p

-- the same, of a fact that follows from another
pub both_map : {A : Type 0} (P Q : A → A → Type 0) (old new : Option A) → BothTell old new P → ((x y : A) → P x y → Q x y) → BothTell old new Q
both_map P Q (Some x) (Some y) p f = f x y p
both_map P Q None None p f = tt
both_map P Q None (Some y) p f = absurd p
both_map P Q (Some x) None p f = absurd p

-- no bytes are the first bytes of any text
none_of : (text held : List ℕ) → held ≡ held ++ take 0 text
none_of text held = sym (append-nil held)

-- one call
pub put_by : (bytes : List ℕ) (old new : SinkTold) (r : Result (Unit {0}) ShelfError) → Puts bytes old new r → PutsBy bytes old new r
put_by bytes old new (Ok u) h = record { contents = h.0; faults = h.1; wants = h.2 }
put_by bytes old new (Err shelf.Failed) h = record { contents = h.0; faults = h.1; wants = h.2 }
put_by bytes old new (Err shelf.NoMemory) h = record {
  contents = both_same (λ held after. (n : ℕ) × (after ≡ held ++ take n bytes)) old.contents new.contents h.0 (λ held _. (0, none_of bytes held));
  faults = h.1;
  wants = h.2;
}

-- the first bytes of a text are those of a longer one
front_of : (n : ℕ) (a b : List ℕ) → (m : ℕ) × (take n a ≡ take m (a ++ b))
front_of zero a b = (0, refl)
front_of (suc n) [] b = (0, refl)
front_of (suc n) (x ∷ a) b = let f = front_of n a b in (suc f.0, ap (λ t. x ∷ t) f.1)

-- the first bytes of a second text, after all of a first
front_after : (n : ℕ) (a b : List ℕ) → (m : ℕ) × (a ++ take n b ≡ take m (a ++ b))
front_after n [] b = (n, refl)
front_after n (x ∷ a) b = let f = front_after n a b in (suc f.0, ap (λ t. x ∷ t) f.1)

first_longer : (a b : List ℕ) (old new : SinkTold) → PutsFirst a old new → PutsFirst (a ++ b) old new
first_longer a b old new h =
    both_map (λ held after. (n : ℕ) × (after ≡ held ++ take n a)) (λ held after. (n : ℕ) × (after ≡ held ++ take n (a ++ b))) old.contents new.contents h (λ held after p.
    (let f = front_of p.0 a b in (f.0, p.1 ∙ ap (λ t. held ++ t) f.1)))

first_later : (a b : List ℕ) (old mid new : SinkTold) → PutsAll a old mid → PutsFirst b mid new → PutsFirst (a ++ b) old new
first_later a b old mid new h k =
    both_then (λ held after. after ≡ held ++ a) (λ held after. (n : ℕ) × (after ≡ held ++ take n b)) (λ held after. (n : ℕ) × (after ≡ held ++ take n (a ++ b)))
    old.contents mid.contents new.contents h.contents k (λ x y z p q.
    (let f = front_after q.0 a b in (f.0, q.1 ∙ (ap (λ t. t ++ take q.0 b) p ∙ (append_assoc x a (take q.0 b) ∙ ap (λ t. x ++ t) f.1)))))

-- a call that was refused ends the text
pub by_stop : (a b : List ℕ) (old new : SinkTold) (e : ShelfError) → PutsBy a old new (Err e) → PutsBy (a ++ b) old new (Err e)
by_stop a b old new shelf.Failed h = record { contents = first_longer a b old new h.contents; faults = h.faults; wants = h.wants }
by_stop a b old new shelf.NoMemory h = record { contents = first_longer a b old new h.contents; faults = h.faults; wants = h.wants }

-- what follows a text that was put whole
pub by_then : (a b : List ℕ) (old mid new : SinkTold) (r : Result (Unit {0}) ShelfError) → PutsAll a old mid → PutsBy b mid new r → PutsBy (a ++ b) old new r
by_then a b old mid new (Ok u) h k = record {
  contents = both_then (λ held after. after ≡ held ++ a) (λ held after. after ≡ held ++ b) (λ held after. after ≡ held ++ (a ++ b)) old.contents mid.contents new.contents h.contents k.contents
      (λ x y z p q. q ∙ (ap (λ t. t ++ b) p ∙ append_assoc x a b));
  faults = k.faults ∙ h.faults;
  wants = k.wants ∙ h.wants;
}
by_then a b old mid new (Err shelf.Failed) h k = record {
  contents = first_later a b old mid new h k.contents;
  faults = rw h.faults at k.faults;
  wants = k.wants ∙ h.wants;
}
by_then a b old mid new (Err shelf.NoMemory) h k = record {
  contents = first_later a b old mid new h k.contents;
  faults = k.faults ∙ h.faults;
  wants = rw h.wants at k.wants;
}
