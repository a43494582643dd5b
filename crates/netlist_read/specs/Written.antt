-- A bridge, on which no public clause rests: the two parts that a kind is written by.
use Rattle.std.specs.Prelude.{ℕ, List, [], codes}
use Rattle.elab_model.specs.declared.kinds.ElabKind.{ElabKind}
use Rattle.elab_model.specs.declared.kinds.ElabKind.TheVariants.{Udp}
use Rattle.netlist_read.specs.Kinds.{Kind, of_text, of_syntax, unsupported, of_block, of_meaning, text_name, table_name, block_name, meaning_name}

abbrev pub meaning_head : ElabKind → List ℕ
meaning_head (Udp kind) = codes "Udp "
meaning_head kind = meaning_name kind

abbrev pub meaning_tail : ElabKind → List ℕ
meaning_tail (Udp kind) = table_name kind
meaning_tail kind = []

-- the name, and a blank where more follows
abbrev pub head : Kind → List ℕ
head (of_text kind) = text_name kind
head of_syntax = codes "Syntax"
head (unsupported word) = codes "Unsupported "
head (of_block kind) = codes "Specify "
head (of_meaning kind) = meaning_head kind

-- what follows it
abbrev pub tail : Kind → List ℕ
tail (of_text kind) = []
tail of_syntax = []
tail (unsupported word) = word
tail (of_block kind) = block_name kind
tail (of_meaning kind) = meaning_tail kind
