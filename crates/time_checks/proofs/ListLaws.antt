-- Lists that go on where others end.
use Rattle.std.specs.Prelude.{◌≡◌, List, [], ◌++◌, length, take}
use Rattle.std.proofs.Common.{sym, ◌∙◌, ap, append_assoc}
use Rattle.std.proofs.lemmas.List.{append-nil}
use Rattle.std.proofs.Math.Seq.{take-append_seam}
use Rattle.time_checks.specs.Seen.{Continues}

pub continues-same : {A : Type 0} (xs ys : List A) → ys ≡ xs → Continues xs ys
continues-same xs ys e = record { more = []; is = e ∙ sym (append-nil xs) }

pub continues-more : {A : Type 0} (xs ys zs : List A) → Continues xs ys → Continues ys zs → Continues xs zs
continues-more xs ys zs h g = record { more = h.more ++ g.more; is = g.is ∙ (ap (λ l. l ++ g.more) h.is ∙ append_assoc xs h.more g.more) }

pub continues-take : {A : Type 0} (xs ys : List A) → Continues xs ys → take (length xs) ys ≡ xs
continues-take xs ys h = ap (take (length xs)) h.is ∙ take-append_seam xs h.more
