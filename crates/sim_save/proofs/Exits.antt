-- The exit of a `?`.
use Rattle.std.proofs.Common.{◌≡◌, sym, subst}
use Rattle.std.specs.Prelude.{Result, Err, IfErr}

pub exit_by : {A E : Type 0} (P : E → Type 0) (result : Result A E) (e : E) → ((x : E) × (result ≡ Err x) × (x ≡ e)) → P e → IfErr result P
exit_by P result e (x, r, s) h = subst (λ y. IfErr y P) (sym r) (subst P (sym s) h)
