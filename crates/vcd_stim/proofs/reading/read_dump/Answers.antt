-- The whole dump is read.
use Rattle.std.proofs.Common.{ap, subst, ◌∙◌, arith, map}
use Rattle.std.proofs.lemmas.Result.{err_from_is_err_and}
use Rattle.vcd_form.specs.Reading.{read_of}
use Rattle.vcd_form.specs.Seen.{section_seen}
use Rattle.vcd_model.specs.Reading.{RefusalStands}
use Rattle.vcd_model.specs.Values.{scale_of}
use Rattle.vcd_stim.specs.Index.{listed}
use Rattle.vcd_stim.specs.Meant.{scale_seen}
use Rattle.vcd_stim.specs.Whole.{SectionsRead}
use Rattle.vcd_stim.proofs.EndLaws.{applied-is, items-read, known-for, read-is, refused-is, table-refused, ItemsRead, Reads, TableKnown}
use Rattle.vcd_stim.proofs.FaultLaws.{too-long-stands, HeaderIs}
use Rattle.vcd_stim.proofs.ReadingLaws.{sections-stand}
use Rattle.vcd_stim.proofs.Refusals.{exit-err}
use Rattle.vcd_stim.proofs.reading.read_dump.Goals as goal

pub returns-then-bytes-gt-MOST_BYTES-clause-refused :
    goal.returns-then-bytes-gt-MOST_BYTES-clause-refused
returns-then-bytes-gt-MOST_BYTES-clause-refused c = rw c.fault.ensures (too-long-stands c.args.bytes.now c.args.circuit.now c.args.scope.now c.if-bytes-gt-MOST_BYTES.true)

pub returns-in_err-sections-clause-refused : goal.returns-in_err-sections-clause-refused
returns-in_err-sections-clause-refused c =
    exit-err _ c.from_residual.result c.in_err-sections.field-0.0 (err_from_is_err_and c.from_residual.result c.from_residual.ensures.1)
    (sections-stand c.args.bytes.now c.args.circuit.now c.args.scope.now (read_of c.header_of.new.words) c.header_of.result c.in_err-sections.field-0.0 c.in_err-sections.was
    (subst (λ x. SectionsRead x (read_of c.header_of.new.words) c.header_of.result) c.new-words.ensures.text c.header_of.ensures.read))

pub returns-in_err-table-clause-refused : goal.returns-in_err-table-clause-refused
returns-in_err-table-clause-refused c =
    exit-err (RefusalStands c.args.bytes.now c.args.circuit.now c.args.scope.now) c.from_residual-in_err-table.result c.in_err-table.field-0.0
    (err_from_is_err_and c.from_residual-in_err-table.result c.from_residual-in_err-table.ensures.1)
    (table-refused c.args.bytes.now c.in_ok-inputs.inputs.circuit.now c.args.circuit.now c.args.scope.now (map section_seen c.deref.result.now) (map section_seen c.in_ok-sections.sections.items) c.in_ok-sections.definitions
    (read_of c.header_of.new.words) c.in_err-table.field-0.0 c.in_ok-inputs.ensures (ap (map section_seen) c.deref.ensures.value)
    (subst (λ x. HeaderIs x (map section_seen c.in_ok-sections.sections.items) c.in_ok-sections.definitions (read_of c.header_of.new.words)) c.new-words.ensures.text c.in_ok-sections.ensures.read) c.in_err-table.ensures)

header-is : (c : goal.After-drop-sections-2) → HeaderIs c.args.bytes.now (map section_seen c.in_ok-sections.sections.items) c.in_ok-sections.definitions (read_of c.header_of.new.words)
header-is c = subst (λ x. HeaderIs x (map section_seen c.in_ok-sections.sections.items) c.in_ok-sections.definitions (read_of c.header_of.new.words)) c.new-words.ensures.text c.in_ok-sections.ensures.read

known : (c : goal.After-drop-sections-2) → TableKnown c.args.circuit.now c.args.scope.now (map section_seen c.in_ok-sections.sections.items) (listed c.in_ok-table.table)
known c =
    known-for c.in_ok-inputs.inputs.circuit.now c.args.circuit.now c.args.scope.now (map section_seen c.deref.result.now) (map section_seen c.in_ok-sections.sections.items) (listed c.in_ok-table.table)
    c.in_ok-inputs.ensures (ap (map section_seen) c.deref.ensures.value) c.in_ok-table.ensures

items-are : (c : goal.After-drop-sections-2) → ItemsRead c.args.bytes.now c.args.circuit.now c.args.scope.now (map section_seen c.in_ok-sections.sections.items) (read_of c.header_of.new.words) c.read_items.result
items-are c =
    items-read c.args.bytes.now c.args.circuit.now c.args.scope.now (map section_seen c.in_ok-sections.sections.items) (read_of c.header_of.new.words)
    (scale_seen c.scale_of-scale.result) (listed c.in_ok-table.table) c.read_items.result
    (known c) (c.scale_of-scale.ensures ∙ ap (λ l. scale_of c.args.circuit.now (map section_seen l)) c.deref-2.ensures.value)
    (subst (λ x. Reads x (read_of c.header_of.new.words) (scale_seen c.scale_of-scale.result) (listed c.in_ok-table.table) c.read_items.result)
    (c.header_of.ensures.text ∙ c.new-words.ensures.text) c.read_items.ensures)

pub returns-clause-read : goal.returns-clause-read
returns-clause-read c =
    read-is c.args.bytes.now c.args.circuit.now c.args.scope.now (map section_seen c.in_ok-sections.sections.items) c.in_ok-sections.definitions (read_of c.header_of.new.words) (listed c.in_ok-table.table) c.read_items.result
    (omega (arith, c.if-bytes-gt-MOST_BYTES.false)) (header-is c) (known c) (items-are c)

pub returns-clause-refused : goal.returns-clause-refused
returns-clause-refused c =
    refused-is c.args.bytes.now c.args.circuit.now c.args.scope.now (map section_seen c.in_ok-sections.sections.items) c.in_ok-sections.definitions (read_of c.header_of.new.words) c.read_items.result (header-is c) (items-are c)

pub returns-clause-applied : goal.returns-clause-applied
returns-clause-applied c =
    applied-is c.args.bytes.now c.args.circuit.now c.args.scope.now (map section_seen c.in_ok-sections.sections.items) (read_of c.header_of.new.words) c.read_items.result (items-are c)
