use Rattle.std.proofs.Common.{subst, ◌≤◌}
use Rattle.udp_rows.specs.Faults.{fits_length, fits_symbols, fits_edges, most_inputs}
use Rattle.udp_rows.specs.Columns.{NoneClash}
use Rattle.udp_rows.proofs.FaultLaws.{AreSound, found-fails, none-fails, found-clashes, no-fault}
use Rattle.udp_rows.proofs.checking.fault_of.Goals as goal

pub returns-in-Some : goal.returns-in-Some
returns-in-Some c = found-fails (fits_length c.args.inputs c.args.sequential) c.args.rows.now c.in-Some.row.now c.in-Some.ensures

pub returns-in-Some-bad_symbol : goal.returns-in-Some-bad_symbol
returns-in-Some-bad_symbol c = found-fails (fits_symbols c.args.sequential) c.args.rows.now c.in-Some-bad_symbol.row.now c.in-Some-bad_symbol.ensures

pub returns-in-Some-two_edges : goal.returns-in-Some-two_edges
returns-in-Some-two_edges c = found-fails fits_edges c.args.rows.now c.in-Some-two_edges.row.now c.in-Some-two_edges.ensures

pub returns-in_err-place : goal.returns-in_err-place
returns-in_err-place c =
    let sound : AreSound c.args.inputs c.args.sequential c.args.rows.now = record {
      lengths = none-fails (fits_length c.args.inputs c.args.sequential) c.args.rows.now c.in_default.ensures;
      symbols = none-fails (fits_symbols c.args.sequential) c.args.rows.now c.in_default-bad_symbol.ensures;
      edges = none-fails fits_edges c.args.rows.now c.in_default-two_edges.ensures;
    } in
    let few : c.args.inputs ≤ most_inputs c.args.sequential = subst (λ n. c.args.inputs ≤ n) c.most_inputs.ensures c.if-inputs-most_inputs.false in
    let none : NoneClash c.args.rows.now = c.in_err-place.ensures in
    rw c.from_residual.ensures (no-fault c.args.inputs c.args.sequential c.args.rows.now few sound none)

pub returns : goal.returns
returns c =
    let sound : AreSound c.args.inputs c.args.sequential c.args.rows.now = record {
      lengths = none-fails (fits_length c.args.inputs c.args.sequential) c.args.rows.now c.in_default.ensures;
      symbols = none-fails (fits_symbols c.args.sequential) c.args.rows.now c.in_default-bad_symbol.ensures;
      edges = none-fails fits_edges c.args.rows.now c.in_default-two_edges.ensures;
    } in
    found-clashes c.args.inputs c.args.sequential c.args.rows.now c.in_ok-place.place sound c.in_ok-place.ensures
