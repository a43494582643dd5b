use Rattle.std.proofs.Common.{◌∙◌, refl}
use Rattle.std.proofs.lemmas.Result.{err_from_is_err_and}
use Rattle.fit_top.specs.Work.{made_seen}
use Rattle.fit_top.proofs.MakingLaws.{all_made, failed_file, is_one, made_more, none_made, stopped}
use Rattle.fit_top.proofs.making.make_files.Goals as goal

pub loop-file-init : goal.loop-file-init
loop-file-init g c = record { files = none_made _ _ refl; faults = refl }

pub loop-file-preserved : goal.loop-file-preserved
loop-file-preserved g c = record {
  files = made_more made_seen c.args.made.now c.loop-file.file-index c.file-item.result c.file-item.is c.loop-file-test.true _ _ _ c.loop-file.invariant.files c.in_ok-make_file.ensures.file;
  faults = c.in_ok-make_file.ensures.cause ∙ c.loop-file.invariant.faults;
}

pub returns-clause-files : goal.returns-clause-files
returns-clause-files g c = all_made made_seen c.args.made.now c.loop-file.file-index _ _ c.loop-file-test.false c.loop-file.invariant.files

pub returns-in_err-make_file-clause-files : goal.returns-in_err-make_file-clause-files
returns-in_err-make_file-clause-files g c =
    rw (err_from_is_err_and c.from_residual.result c.from_residual.ensures.1).1
    (stopped made_seen c.args.made.now c.loop-file.file-index c.file-item.result c.file-item.is c.loop-file-test.true _ _ _ c.loop-file.invariant.files c.in_err-make_file.ensures.file)

pub returns-in_err-make_file-clause-named : goal.returns-in_err-make_file-clause-named
returns-in_err-make_file-clause-named g c =
    let p = err_from_is_err_and c.from_residual.result c.from_residual.ensures.1 in
    rw (p.1, p.2)
    (failed_file (Unit {0}) c.in_err-make_file.field-0.0 _ _ _ _ (is_one made_seen c.args.made.now c.loop-file.file-index c.file-item.result c.file-item.is c.loop-file-test.true) c.in_err-make_file.ensures.named)
