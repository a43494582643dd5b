-- The terminals and the notifier.
use Rattle.std.specs.Prelude.{◌<◌, Option, Some, None, IfSome, length, ℕ, List}
use Rattle.elab_model.specs.Names.{Variable}
use Rattle.elab_laws.specs.Handing.{all_bits}
use Rattle.elab_model.specs.Terms.{NetBit}
use Rattle.elab_paths.specs.Uses.{IsRow}
use Rattle.elab_checks.specs.Ready.{IsReadyEvent}
use Rattle.elab_checks.specs.declared.shelving.ReadyEvent.{ReadyEvent}
use Rattle.elab_checks.proofs.BoundEvents.{bit-within}
use Rattle.elab_checks.proofs.MadeChecks.{check-named}
use Rattle.elab_checks.proofs.uses.check_of.Goals as goal

in-row : (vs : List Variable) (n : ℕ) (o : Option ReadyEvent) → IfSome o (IsReadyEvent vs n) → IfSome o (λ e. e.bit < length (all_bits vs))
in-row vs n None h = tt
in-row vs n (Some e) h = h.in_row

within : (vs : List Variable) (row : List ℕ) (net : NetBit → ℕ) (o : Option ℕ) → IsRow vs row net → IfSome o (λ i. i < length (all_bits vs)) → IfSome o (λ i. i < length row)
within vs row net None r h = tt
within vs row net (Some i) r h = bit-within vs row net i r h

pub terminal_of-requires : goal.terminal_of-requires
terminal_of-requires c = c.requires.ready.1.1.refer_stands.in_row

pub datum_terminal-requires : goal.datum_terminal-requires
datum_terminal-requires c = in-row c.args.here.table.now c.requires.ready.0 c.args.check.now.datum c.requires.ready.1.1.datum_stands

pub notifier_of-requires : goal.notifier_of-requires
notifier_of-requires c = within c.args.here.table.now c.args.here.row.now c.requires.row.0 c.args.check.now.notifier c.requires.row.1 c.requires.ready.1.1.notifier_in_row

pub returns : goal.returns
returns c = λ net late cs conditions r.
    check-named c.args.here.table.now c.args.here.row.now net late cs conditions c.args.here.scope c.args.check.now c.in_ok-refer.refer c.in_ok-datum.datum c.notifier_of.result r c.requires.ready.1.1.notifier_in_row
    c.in_ok-refer.ensures c.in_ok-datum.ensures c.notifier_of.ensures
