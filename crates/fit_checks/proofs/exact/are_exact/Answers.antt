use Rattle.std.proofs.Common.{rules, ◌≡◌}
use Rattle.fit_checks.specs.Forms.{Fits, made}
use Rattle.fit_checks.specs.Written.{as_written}
use Rattle.fit_checks.specs.WrittenSeen.{kinds_seen, tokens_seen, written_seen}
use Rattle.fit_checks.proofs.FormLaws.{exact_if}
use Rattle.fit_checks.proofs.exact.are_exact.Goals as goal

pub returns : goal.returns
returns c =
    let o : kinds_seen c.in_ok-own.own.items ≡ as_written (written_seen c.in-Some.written) = search rules in
    let m : kinds_seen c.in_ok-made.made.items ≡ made c.in-Some-2.form (written_seen c.in-Some.written) = search rules in
    let s : kinds_seen c.in_ok-own.own.items ≡ tokens_seen c.args.old.now = search rules in
    let t : kinds_seen c.in_ok-made.made.items ≡ tokens_seen c.args.new.now = search rules in
    let f : Fits c.in-Some-2.form (written_seen c.in-Some.written) = search rules in
    exact_if c.are_taken.result c.in-Some-2.form (written_seen c.in-Some.written) c.in_ok-own.own.items c.in_ok-made.made.items c.args.old.now c.args.new.now o m s t f c.are_taken.ensures
