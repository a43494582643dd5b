-- The code's words, kinds, sections and items, as the definitions see them.
use Rattle.std.specs.Prelude.{ℕ, List, option_map}
use Rattle.vcd_form.specs.Kinds as kinds
use Rattle.vcd_form.specs.Words as words
use Rattle.vcd_form.specs.Rules as rules
use Rattle.vcd_form.specs.Written as written
use Rattle.vcd_form.specs.declared.came.Came.{Came}
use Rattle.vcd_form.specs.declared.kinds.WordKind.{WordKind}
use Rattle.vcd_form.specs.declared.kinds.WordKind.TheVariants as kind
use Rattle.vcd_form.specs.declared.word.Word.{Word}
use Rattle.vcd_form.specs.declared.written.Declaration.{Declaration}
use Rattle.vcd_form.specs.declared.written.Item.{Item}
use Rattle.vcd_form.specs.declared.written.Item.TheVariants as item
use Rattle.vcd_form.specs.declared.written.Section.{Section}
use Rattle.vcd_form.specs.declared.written.Section.TheVariants as section

abbrev pub word_seen : Word → words.Word
word_seen w = record { byte = w.byte; bytes = w.bytes.now }

-- the kind of a word with a text
abbrev pub kind_seen : List ℕ → WordKind → kinds.Kind
kind_seen text kind.Remark = kinds.remark_kind
kind_seen text kind.Comment = kinds.comment_kind
kind_seen text kind.Timescale = kinds.timescale_kind
kind_seen text kind.Scope = kinds.scope_kind
kind_seen text kind.Upscope = kinds.upscope_kind
kind_seen text kind.Var = kinds.var_kind
kind_seen text kind.Definitions = kinds.definitions_kind
kind_seen text kind.Dump = kinds.dump_kind
kind_seen text kind.End = kinds.end_kind
kind_seen text kind.Time = kinds.time_kind text
kind_seen text kind.Scalar = kinds.scalar_kind text
kind_seen text kind.Vector = kinds.vector_kind text
kind_seen text kind.Real = kinds.real_kind text
kind_seen text kind.Other = kinds.other_kind text

abbrev pub declaration_seen : Declaration → written.Declaration
declaration_seen d = record { byte = d.byte; width = d.width; code = d.code.now; name = d.name.now; range = option_map (λ r. r.now) d.range }

abbrev pub section_seen : Section → written.Section
section_seen section.Remark = written.remark
section_seen (section.Timescale power) = written.timescale power
section_seen (section.Enters name) = written.enters name.now
section_seen section.Leaves = written.leaves
section_seen (section.Declares d) = written.declares (declaration_seen d)

abbrev pub item_seen : Item → written.Item
item_seen item.Nothing = written.nothing
item_seen (item.Instant byte digits) = written.instant byte digits.now
item_seen (item.Value byte code_byte bits code) = written.value byte code_byte bits.now code.now
item_seen (item.Real byte code_byte code) = written.real byte code_byte code.now

abbrev pub came_seen : Came → rules.Came
came_seen c = record { scaled = c.scaled; depth = c.depth }
