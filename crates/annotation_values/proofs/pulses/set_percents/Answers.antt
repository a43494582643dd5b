use Rattle.std.proofs.Common.{rules, arith, ◌≡◌, ◌<◌, ◌+◌, ◌∙◌, ap, false, length, subst, suc, sym, take}
use Rattle.std.specs.List.{list_any}
use Rattle.std.proofs.lemmas.List.{take_all}
use Rattle.std.proofs.lemmas.List.Folds.{list_any_at}
use Rattle.std.proofs.lemmas.Result.{err_from_is_err_and}
use Rattle.sg_time.specs.Seen.{number}
use Rattle.sg_time.specs.Spelling.{Number}
use Rattle.annotation_values.proofs.PercentLaws.{first, is_large_of, one_more, small_more, all_first, large_of}
use Rattle.annotation_values.proofs.pulses.set_percents.Goals as goal

pub returns-in_err-limits-clause-told : goal.returns-in_err-limits-clause-told
returns-in_err-limits-clause-told c =
    let l : Number × Number = (number c.args.reject.now, number c.args.error.now) in
    let ds = c.args.delays.now in
    let ls = c.args.limits.now in
    let in_delays : c.loop-i.i < length ds = search rules in
    let alike : length ds ≡ length ls = search rules in
    rw (err_from_is_err_and c.from_residual.result c.from_residual.ensures.1).1
    (sym (large_of l ds ls alike) ∙ list_any_at (is_large_of l) ds c.loop-i.i 0 in_delays c.in_err-limits.ensures)

pub loop-i-preserved : goal.loop-i-preserved
loop-i-preserved c =
    let l : Number × Number = (number c.args.reject.now, number c.args.error.now) in
    let ds = c.args.delays.now in
    let ls = c.args.limits.now in
    let now = c.loop-i.limits in
    let i = c.loop-i.i in
    let next : suc i ≡ i + 1 = omega arith in
    let in_delays : i < length ds = search rules in
    let in_old : i < length ls = search rules in
    let in_now : i < length now = search rules in
    record {
      changed = one_more l i ds ls now c.in_ok-limits.field-0 0 in_delays in_old in_now c.loop-i.invariant.changed c.in_ok-limits.ensures.1 ∙ ap (λ n. first l n ds ls) next;
      small = subst (λ n. list_any (is_large_of l) (take n ds) ≡ false) next (small_more (is_large_of l) ds i 0 in_delays c.loop-i.invariant.small c.in_ok-limits.ensures.0);
    }

pub returns-clause-fine : goal.returns-clause-fine
returns-clause-fine c =
    let l : Number × Number = (number c.args.reject.now, number c.args.error.now) in
    let ds = c.args.delays.now in
    let ls = c.args.limits.now in
    let alike : length ds ≡ length ls = search rules in
    let whole : take c.loop-i.i ds ≡ ds = take_all c.loop-i.i ds (search rules) in
    sym (large_of l ds ls alike) ∙ subst (λ xs. list_any (is_large_of l) xs ≡ false) whole c.loop-i.invariant.small

pub returns-clause-changed : goal.returns-clause-changed
returns-clause-changed c =
    let ds = c.args.delays.now in
    let all : length ds ≡ c.loop-i.i = search rules in
    c.loop-i.invariant.changed ∙ all_first (number c.args.reject.now, number c.args.error.now) c.loop-i.i ds c.args.limits.now all
