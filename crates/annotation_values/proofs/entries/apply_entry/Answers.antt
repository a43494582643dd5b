use Rattle.std.specs.Option.{option_map}
use Rattle.sdf_tree.specs.Seen.{view_ports}
use Rattle.sg_circuit.specs.TimingsSeen.{leg_timing_seen}
use Rattle.annotation_values.specs.Seen.{grid_seen}
use Rattle.annotation_values.proofs.KindLaws.{by_kind, by_list}
use Rattle.annotation_values.proofs.entries.apply_entry.Goals as goal

pub returns-in-IoPath : goal.returns-in-IoPath
returns-in-IoPath c =
    let g = grid_seen c.args.grid in
    let increment = c.args.entry.now.increment in
    let ts = leg_timing_seen c.args.timing.now in
    by_kind g increment ts c.with_list.result c.args.entry.now.kind _ c.in-IoPath.is
    (by_list g increment ts c.with_list.result c.deref.result.now c.in-IoPath.delays.items c.deref.ensures.value c.with_list.ensures)

pub returns-in-Device : goal.returns-in-Device
returns-in-Device c =
    let g = grid_seen c.args.grid in
    let increment = c.args.entry.now.increment in
    let ts = leg_timing_seen c.args.timing.now in
    let r = c.with_list-in-Device.result in
    by_kind g increment ts r c.args.entry.now.kind _ c.in-Device.is
    (by_list g increment ts r c.deref-in-Device.result.now c.in-Device.delays.items c.deref-in-Device.ensures.value c.with_list-in-Device.ensures)

pub returns-in-Port : goal.returns-in-Port
returns-in-Port c =
    let g = grid_seen c.args.grid in
    let increment = c.args.entry.now.increment in
    let ts = leg_timing_seen c.args.timing.now in
    let r = c.with_list-in-Port.result in
    by_kind g increment ts r c.args.entry.now.kind _ c.in-Port.is
    (by_list g increment ts r c.deref-in-Port.result.now c.in-Port.delays.items c.deref-in-Port.ensures.value c.with_list-in-Port.ensures)

pub returns-in-Interconnect : goal.returns-in-Interconnect
returns-in-Interconnect c =
    let g = grid_seen c.args.grid in
    let increment = c.args.entry.now.increment in
    let ts = leg_timing_seen c.args.timing.now in
    let r = c.with_list-in-Interconnect.result in
    by_kind g increment ts r c.args.entry.now.kind _ c.in-Interconnect.is
    (by_list g increment ts r c.deref-in-Interconnect.result.now c.in-Interconnect.delays.items c.deref-in-Interconnect.ensures.value c.with_list-in-Interconnect.ensures)

pub returns-in-PathPulse : goal.returns-in-PathPulse
returns-in-PathPulse c =
    let increment = c.args.entry.now.increment in
    by_kind (grid_seen c.args.grid) increment (leg_timing_seen c.args.timing.now) c.with_path_pulse.result c.args.entry.now.kind _ c.in-PathPulse.is
    (c.with_path_pulse.ensures increment (option_map view_ports c.in-PathPulse.ports))
