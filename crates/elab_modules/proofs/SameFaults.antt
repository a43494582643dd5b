-- The same faults in another order.
use Rattle.std.specs.Prelude.{◌≡◌, ℕ, zero, suc, ◌<◌, List, [], ◌∷◌, ◌++◌, Result, Ok, Err, flat_map, length, slice_index_or, refl}
use Rattle.std.specs.List.{IsAmong}
use Rattle.std.proofs.Common.{sym, arith, subst, inl, inr}
use Rattle.sg_text.specs.declared.refusals.Refused.{Refused}
use Rattle.sg_text.specs.declared.refusals.Refused.TheVariants as refused
use Rattle.elab_model.specs.declared.kinds.ElabKind.{ElabKind}
use Rattle.elab_model.specs.Faults.{Fault, fault, RefusesOneOf}
use Rattle.elab_laws.proofs.Lists.{In, in-left, in-right, in-either, in-flat, from-flat}
use Rattle.elab_modules.specs.Telling.{Tells}

in-at : (fs : List Fault) (x : Fault) (i : ℕ) → i < length fs → x ≡ slice_index_or fs i x → In x fs
in-at [] x i lt e = absurd (omega arith)
in-at (f ∷ fs) x zero lt e = inl e
in-at (f ∷ fs) x (suc i) lt e = inr (in-at fs x i (omega arith) e)

among-of : (fs : List Fault) (x : Fault) → In x fs → IsAmong fs x
among-of [] x h = absurd h
among-of (f ∷ fs) x (inl e) = (0, (omega arith, e))
among-of (f ∷ fs) x (inr h) = let r = among-of fs x h in let lt = r.1.0 in (suc r.0, (omega arith, r.1.1))

-- one of some faults is one of more
pub refused-more : (fs gs : List Fault) (r : Refused ElabKind) → ((x : Fault) → In x fs → In x gs) → RefusesOneOf fs r → RefusesOneOf gs r
refused-more fs gs (refused.Fault k p) h g = among-of gs (fault k p) (h (fault k p) (in-at fs (fault k p) g.0 g.1.0 g.1.1))
refused-more fs gs refused.NoMemory h g = tt

none-fewer : (fs gs : List Fault) → ((x : Fault) → In x gs → In x fs) → fs ≡ [] → gs ≡ []
none-fewer fs [] h e = refl
none-fewer fs (g ∷ gs) h e = absurd (subst (In g) e (h g (inl refl)))

pub record Same (fs gs : List Fault) : Type 0 where
  pub onto : (x : Fault) → In x fs → In x gs
  pub back : (x : Fault) → In x gs → In x fs

pub none-same : (fs gs : List Fault) → Same fs gs → fs ≡ [] → gs ≡ []
none-same fs gs s h = none-fewer fs gs s.back h

pub refused-same : (fs gs : List Fault) (r : Refused ElabKind) → Same fs gs → RefusesOneOf fs r → RefusesOneOf gs r
refused-same fs gs r s h = refused-more fs gs r s.onto h

pub tells-same : {A : Type 0} (fs gs : List Fault) (r : Result A (Refused ElabKind)) → Same fs gs → Tells fs r → Tells gs r
tells-same fs gs (Ok x) s h = none-fewer fs gs s.back h
tells-same fs gs (Err r) s h = refused-more fs gs r s.onto h

pub same-as : (fs gs : List Fault) → fs ≡ gs → Same fs gs
same-as fs gs e = record { onto = λ x h. subst (In x) e h; back = λ x h. subst (In x) (sym e) h }

pub same-then : (fs gs hs : List Fault) → Same fs gs → Same gs hs → Same fs hs
same-then fs gs hs s t = record { onto = λ x h. t.onto x (s.onto x h); back = λ x h. s.back x (t.back x h) }

pub same-beside : (fs gs hs is : List Fault) → Same fs gs → Same hs is → Same (fs ++ hs) (gs ++ is)
same-beside fs gs hs is s t = record {
  onto = λ x h. elim (in-either x fs hs h) [ inl a ↦ in-left x gs is (s.onto x a) | inr b ↦ in-right x gs is (t.onto x b) ];
  back = λ x h. elim (in-either x gs is h) [ inl a ↦ in-left x fs hs (s.back x a) | inr b ↦ in-right x fs hs (t.back x b) ];
}

pub same-swapped : (fs gs : List Fault) → Same (fs ++ gs) (gs ++ fs)
same-swapped fs gs = record {
  onto = λ x h. elim (in-either x fs gs h) [ inl a ↦ in-right x gs fs a | inr b ↦ in-left x gs fs b ];
  back = λ x h. elim (in-either x gs fs h) [ inl a ↦ in-right x fs gs a | inr b ↦ in-left x fs gs b ];
}

-- two kinds of faults of each are those of all of one kind, and of the other
pub same-parted : {A : Type 0} (f g : A → List Fault) (xs : List A) → Same (flat_map (λ x. f x ++ g x) xs) (flat_map f xs ++ flat_map g xs)
same-parted f g xs = record {
  onto = λ x h.
      let r = from-flat (λ y. f y ++ g y) x xs h in
      elim (in-either x (f r.source) (g r.source) r.made) [
        | inl a ↦ in-left x (flat_map f xs) (flat_map g xs) (in-flat f r.source x xs r.there a)
        | inr b ↦ in-right x (flat_map f xs) (flat_map g xs) (in-flat g r.source x xs r.there b)
      ];
  back = λ x h.
      elim (in-either x (flat_map f xs) (flat_map g xs) h) [
        | inl a ↦ (let r = from-flat f x xs a in in-flat (λ y. f y ++ g y) r.source x xs r.there (in-left x (f r.source) (g r.source) r.made))
        | inr b ↦ (let r = from-flat g x xs b in in-flat (λ y. f y ++ g y) r.source x xs r.there (in-right x (f r.source) (g r.source) r.made))
      ];
}

pub same-each : {A : Type 0} (f g : A → List Fault) (xs : List A) → ((x : A) → Same (f x) (g x)) → Same (flat_map f xs) (flat_map g xs)
same-each f g xs s = record {
  onto = λ x h. let r = from-flat f x xs h in in-flat g r.source x xs r.there ((s r.source).onto x r.made);
  back = λ x h. let r = from-flat g x xs h in in-flat f r.source x xs r.there ((s r.source).back x r.made);
}

-- the first two of three are swapped
pub same-front : (a b c : List Fault) → Same (a ++ (b ++ c)) (b ++ (a ++ c))
same-front a b c = record { onto = moved a b c; back = moved b a c }
  where
    moved : (a b c : List Fault) (x : Fault) → In x (a ++ (b ++ c)) → In x (b ++ (a ++ c))
    moved a b c x h =
        elim (in-either x a (b ++ c) h) [
          | inl p ↦ in-right x b (a ++ c) (in-left x a c p)
          | inr p ↦ elim (in-either x b c p) [ inl q ↦ in-left x b (a ++ c) q | inr q ↦ in-right x b (a ++ c) (in-right x a c q) ]
        ]
