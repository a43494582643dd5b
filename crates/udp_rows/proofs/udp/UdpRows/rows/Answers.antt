use Rattle.std.proofs.Common.{subst}
use Rattle.udp_rows.specs.Meaning.{Primitive}
use Rattle.udp_rows.specs.Faults.{HasNoFault}
use Rattle.udp_rows.proofs.udp.UdpRows.rows.Goals as goal

abbrev IsFaultless : Primitive → Type 0
IsFaultless udp = HasNoFault udp.inputs udp.sequential udp.rows

pub returns-clause-faultless : goal.returns-clause-faultless
returns-clause-faultless c = subst IsFaultless c.self.view_is c.self.invariant
