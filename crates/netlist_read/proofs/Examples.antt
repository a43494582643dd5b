-- Small cases, worked.
use Rattle.std.proofs.Common.{◌≡◌, [], ◌∷◌, refl}
use Rattle.std.specs.Prelude.{codes}
use Rattle.elab_model.specs.declared.kinds.ElabKind.TheVariants.{Udp, NoTop, BadDelay}
use Rattle.udp_rows.specs.declared.faults.UdpKind.TheVariants.{TwoEdges}
use Rattle.vl_lex.specs.declared.faults.LexKind.TheVariants.{BadByte}
use Rattle.vl_specify.specs.declared.faults.SpecifyKind.TheVariants.{BadDelayCount}
use Rattle.netlist_read.specs.Kinds.{of_text, of_syntax, unsupported, of_block, of_meaning, kind_text}
use Rattle.netlist_read.specs.Reading.{end_of}

-- how kinds are written
pub a_text : kind_text (of_text BadByte) ≡ codes "BadByte"
a_text = refl

pub the_syntax : kind_text of_syntax ≡ codes "Syntax"
the_syntax = refl

pub a_word : kind_text (unsupported (codes "always")) ≡ codes "Unsupported always"
a_word = refl

pub a_block : kind_text (of_block BadDelayCount) ≡ codes "Specify BadDelayCount"
a_block = refl

pub a_limit : kind_text (of_meaning BadDelay) ≡ codes "BadDelay"
a_limit = refl

pub a_meaning : kind_text (of_meaning NoTop) ≡ codes "NoTop"
a_meaning = refl

pub a_table : kind_text (of_meaning (Udp TwoEdges)) ≡ codes "Udp TwoEdges"
a_table = refl

-- the end of two files, of three bytes and of two
pub two_files : end_of (codes "abc" ∷ codes "de" ∷ []) ≡ record { file = 1; byte = 2 }
two_files = refl
