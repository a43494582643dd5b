-- The law: of a circuit that is alike to a netlist's, the dump of a run is read back.
use Rattle.vcd_form.proofs.FormExact.{item-exact, section-exact, start-exact}
use Rattle.vcd_laws.specs.ReadBack.{DumpIsReadBack}
use Rattle.vcd_laws.proofs.Fronts.{AreExact}
use Rattle.vcd_laws.proofs.Join.{read_back}
use Rattle.vcd_laws.proofs.Lexed.{good_tokens}
use Rattle.vcd_laws.proofs.Ordered.{ordered_tree}

exact : AreExact
exact = record { sections = section-exact; items = item-exact; starts = start-exact }

pub read_again : DumpIsReadBack
read_again texts name corner made circuit rounds stimulus read alike =
    read_back circuit rounds stimulus exact (ordered_tree read.tokens read.tree name corner made circuit (good_tokens texts read.tokens read.are_tokens) read.are_tree read.is_elaborated alike)
