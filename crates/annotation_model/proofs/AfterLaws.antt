-- Entries applied one after another: one entry more.
use Rattle.std.specs.Prelude.{◌≡◌, refl, Bool, true, false, cond, if◌then◌else◌, List, [], ◌∷◌, ◌++◌}
use Rattle.std.specs.List.{filter}
use Rattle.std.proofs.Common.{ap, ◌∙◌}
use Rattle.annotation_model.specs.Given.{Given}
use Rattle.annotation_model.specs.Spots.{after}

-- The law by which one entry is applied after another: after one entry more, a place is as it was, or as the entry makes it where the entry is for it.
pub after-more : {V : Type 0} (test : Given → Bool) (f : Given → V → V) (gs : List Given) (g : Given) (v : V)
    → after f (filter test (gs ++ g ∷ [])) v ≡ (if test g then f g (after f (filter test gs) v) else after f (filter test gs) v)
after-more {V} test f [] g v = by (test g)
  where
    by : (b : Bool) → after f (cond b (g ∷ []) []) v ≡ (if b then f g v else v)
    by true = refl
    by false = refl
after-more {V} test f (h ∷ gs) g v = by (test h) (λ (w : V). after-more test f gs g w)
  where
    by : (b : Bool) → ((w : V) → after f (filter test (gs ++ g ∷ [])) w ≡ (if test g then f g (after f (filter test gs) w) else after f (filter test gs) w))
        → after f (cond b (h ∷ filter test (gs ++ g ∷ [])) (filter test (gs ++ g ∷ []))) v
        ≡ (if test g then f g (after f (cond b (h ∷ filter test gs) (filter test gs)) v) else after f (cond b (h ∷ filter test gs) (filter test gs)) v)
    by true more = more (f h v)
    by false more = more v

-- where the entry is for the place, and where it isn't
pub after-yes : {V : Type 0} (test : Given → Bool) (f : Given → V → V) (gs : List Given) (g : Given) (v : V) → test g ≡ true
    → after f (filter test (gs ++ g ∷ [])) v ≡ f g (after f (filter test gs) v)
after-yes test f gs g v e = after-more test f gs g v ∙ ap (λ b. if b then f g (after f (filter test gs) v) else after f (filter test gs) v) e

pub after-no : {V : Type 0} (test : Given → Bool) (f : Given → V → V) (gs : List Given) (g : Given) (v : V) → test g ≡ false
    → after f (filter test (gs ++ g ∷ [])) v ≡ after f (filter test gs) v
after-no test f gs g v e = after-more test f gs g v ∙ ap (λ b. if b then f g (after f (filter test gs) v) else after f (filter test gs) v) e
