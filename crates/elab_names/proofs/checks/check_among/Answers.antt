-- A name is missing, or none is.
use Rattle.std.proofs.Common.{map, not, sym, ◌∙◌, ap}
use Rattle.std.specs.Option.{option_map}
use Rattle.vl_tree.specs.Seen.{view_name}
use Rattle.elab_model.specs.Names.{is_among}
use Rattle.elab_model.specs.Faults.{texts_of}
use Rattle.elab_declared.proofs.Refusals.{none-found, some-found}
use Rattle.elab_names.proofs.checks.check_among.Goals as goal

pub returns-in-Some-clause-refused : goal.returns-in-Some-clause-refused
returns-in-Some-clause-refused c =
    some-found c.args.kind (λ n. n.place) (λ n. not (is_among n.text (texts_of (map view_name c.args.others.now)))) (map view_name c.args.names.now) (view_name c.in-Some.name)
    (sym c.in_ok-name.ensures ∙ ap (option_map view_name) c.in-Some.is)

pub returns-in-None-clause-faultless : goal.returns-in-None-clause-faultless
returns-in-None-clause-faultless c =
    none-found c.args.kind (λ n. n.place) (λ n. not (is_among n.text (texts_of (map view_name c.args.others.now)))) (map view_name c.args.names.now)
    (sym c.in_ok-name.ensures ∙ ap (option_map view_name) c.in-None.is)
