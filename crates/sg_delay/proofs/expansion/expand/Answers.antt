-- A list spells delays exactly at the five lengths.
use Rattle.std.proofs.Common.{rules, ◌≡◌, sym, refl, subst, arith, IsOk, length}
use Rattle.sg_delay.proofs.Lengths.{six_from_length, length_from_six}
use Rattle.sg_delay.proofs.expansion.expand.Goals as goal

pub returns-in-Ok-clause-count : goal.returns-in-Ok-clause-count
returns-in-Ok-clause-count c =
    let twelve : length c.args.list.now ≡ 12 = search rules in
    (λ h. (4, omega arith, sym twelve), λ h. refl)

pub returns-in-Err-clause-count : goal.returns-in-Err-clause-count
returns-in-Err-clause-count c = (
  λ h. length_from_six c.args.list.now (subst IsOk c.from_six.ensures h),
  λ h. subst IsOk (sym c.from_six.ensures) (six_from_length c.args.list.now (λ e. let k = c.in-Err.ensures.0 e in cc) h),
)
