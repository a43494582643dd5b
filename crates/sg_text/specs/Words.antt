-- The reserved words of netlists (IEEE 1364-2005, the clause on keywords), and what each is for: those of the grammar that
-- is read, and those of the constructs that it leaves out.
use Rattle.std.specs.Prelude.{ℕ, List, [], ◌∷◌, ◌++◌, map, Bool, Option, Some, None, codes, nat_eq, if◌then◌else◌}
use Rattle.std.specs.List.{list_any}
use lib.Pointwise.{pointwise}
use Rattle.sg_text.specs.declared.words.Keyword.{Keyword}
use Rattle.sg_text.specs.declared.words.Keyword.TheVariants as word
use Rattle.sg_text.specs.declared.words.Reserved.{Reserved}
use Rattle.sg_text.specs.declared.words.Reserved.TheVariants as reserved

-- a reserved word, and what it is for
pub record Row : Type 0 where
  pub text : List ℕ
  pub purpose : Reserved

abbrev pub of_module : List ℕ → Row
of_module text = record { text = text; purpose = reserved.Module }

abbrev pub of_grammar : List ℕ → Keyword → Row
of_grammar text word = record { text = text; purpose = reserved.Keyword word }

abbrev pub left_out : List ℕ → Row
left_out text = record { text = text; purpose = reserved.LeftOut }

-- of modules and their items
abbrev pub module_rows : List Row
module_rows =
    of_module (codes "module") ∷ of_module (codes "macromodule") ∷
    of_grammar (codes "endmodule") word.EndModule ∷ of_grammar (codes "input") word.Input ∷
    of_grammar (codes "output") word.Output ∷ of_grammar (codes "wire") word.Wire ∷
    of_grammar (codes "tri") word.Tri ∷ of_grammar (codes "supply0") word.Supply0 ∷
    of_grammar (codes "supply1") word.Supply1 ∷ of_grammar (codes "reg") word.Reg ∷
    of_grammar (codes "assign") word.Assign ∷ []

-- of gates
abbrev pub gate_rows : List Row
gate_rows =
    of_grammar (codes "and") word.And ∷ of_grammar (codes "nand") word.Nand ∷
    of_grammar (codes "or") word.Or ∷ of_grammar (codes "nor") word.Nor ∷ of_grammar (codes "xor") word.Xor ∷
    of_grammar (codes "xnor") word.Xnor ∷ of_grammar (codes "buf") word.Buf ∷
    of_grammar (codes "not") word.Not ∷ of_grammar (codes "bufif0") word.Bufif0 ∷
    of_grammar (codes "bufif1") word.Bufif1 ∷ of_grammar (codes "notif0") word.Notif0 ∷
    of_grammar (codes "notif1") word.Notif1 ∷ []

-- of user-defined primitives
abbrev pub primitive_rows : List Row
primitive_rows =
    of_grammar (codes "primitive") word.Primitive ∷ of_grammar (codes "endprimitive") word.EndPrimitive ∷
    of_grammar (codes "table") word.Table ∷ of_grammar (codes "endtable") word.EndTable ∷
    of_grammar (codes "initial") word.Initial ∷ []

-- of specify blocks
abbrev pub specify_rows : List Row
specify_rows =
    of_grammar (codes "specify") word.Specify ∷ of_grammar (codes "endspecify") word.EndSpecify ∷
    of_grammar (codes "specparam") word.SpecParam ∷ of_grammar (codes "if") word.If ∷
    of_grammar (codes "ifnone") word.IfNone ∷ of_grammar (codes "pulsestyle_onevent") word.PulseStyleOnEvent ∷
    of_grammar (codes "pulsestyle_ondetect") word.PulseStyleOnDetect ∷
    of_grammar (codes "noshowcancelled") word.NoShowCancelled ∷
    of_grammar (codes "showcancelled") word.ShowCancelled ∷ of_grammar (codes "posedge") word.Posedge ∷
    of_grammar (codes "negedge") word.Negedge ∷ of_grammar (codes "edge") word.Edge ∷ []

-- of behaviour and parameters, which netlists here don't have
abbrev pub behaviour_rows : List Row
behaviour_rows =
    left_out (codes "always") ∷ left_out (codes "function") ∷ left_out (codes "task") ∷
    left_out (codes "parameter") ∷ left_out (codes "localparam") ∷ left_out (codes "defparam") ∷
    left_out (codes "generate") ∷ left_out (codes "genvar") ∷ left_out (codes "config") ∷
    left_out (codes "library") ∷ []

-- of declarations that netlists here don't have
abbrev pub declaration_rows : List Row
declaration_rows =
    left_out (codes "inout") ∷ left_out (codes "integer") ∷ left_out (codes "real") ∷
    left_out (codes "time") ∷ left_out (codes "event") ∷ left_out (codes "wand") ∷ left_out (codes "wor") ∷
    left_out (codes "triand") ∷ left_out (codes "trior") ∷ left_out (codes "tri0") ∷ left_out (codes "tri1") ∷
    left_out (codes "trireg") ∷ []

-- of switches and pull gates, which netlists here don't have
abbrev pub switch_rows : List Row
switch_rows =
    left_out (codes "pullup") ∷ left_out (codes "pulldown") ∷ left_out (codes "nmos") ∷
    left_out (codes "pmos") ∷ left_out (codes "cmos") ∷ left_out (codes "rnmos") ∷ left_out (codes "rpmos") ∷
    left_out (codes "rcmos") ∷ left_out (codes "tran") ∷ left_out (codes "rtran") ∷
    left_out (codes "tranif0") ∷ left_out (codes "tranif1") ∷ left_out (codes "rtranif0") ∷
    left_out (codes "rtranif1") ∷ []

-- of strengths, which netlists here don't have
abbrev pub strength_rows : List Row
strength_rows =
    left_out (codes "strong0") ∷ left_out (codes "strong1") ∷ left_out (codes "pull0") ∷
    left_out (codes "pull1") ∷ left_out (codes "weak0") ∷ left_out (codes "weak1") ∷
    left_out (codes "highz0") ∷ left_out (codes "highz1") ∷ []

-- all reserved words
unfoldable pub reserved_rows : List Row
reserved_rows = module_rows ++ gate_rows ++ primitive_rows ++ specify_rows ++ behaviour_rows ++ declaration_rows ++ switch_rows ++ strength_rows

unfoldable pub reserved_words : List (List ℕ)
reserved_words = map (λ r. r.text) reserved_rows

-- whether a text is one of some texts
abbrev pub is_among : List ℕ → List (List ℕ) → Bool
is_among text texts = list_any (λ t. pointwise nat_eq t text) texts

abbrev pub is_reserved_word : List ℕ → Bool
is_reserved_word text = is_among text reserved_words

-- what the first of some rows with a text is for
abbrev pub use_in : List ℕ → List Row → Option Reserved
use_in text [] = None
use_in text (r ∷ rs) = if pointwise nat_eq r.text text then Some r.purpose else use_in text rs

-- what a reserved word is for
abbrev pub use_of : List ℕ → Option Reserved
use_of text = use_in text reserved_rows

-- the words of the grammar are told apart by their numbers
abbrev pub keyword_number : Keyword → ℕ
keyword_number word.EndModule = 0
keyword_number word.Input = 1
keyword_number word.Output = 2
keyword_number word.Wire = 3
keyword_number word.Tri = 4
keyword_number word.Supply0 = 5
keyword_number word.Supply1 = 6
keyword_number word.Reg = 7
keyword_number word.Assign = 8
keyword_number word.And = 9
keyword_number word.Nand = 10
keyword_number word.Or = 11
keyword_number word.Nor = 12
keyword_number word.Xor = 13
keyword_number word.Xnor = 14
keyword_number word.Buf = 15
keyword_number word.Not = 16
keyword_number word.Bufif0 = 17
keyword_number word.Bufif1 = 18
keyword_number word.Notif0 = 19
keyword_number word.Notif1 = 20
keyword_number word.Primitive = 21
keyword_number word.EndPrimitive = 22
keyword_number word.Table = 23
keyword_number word.EndTable = 24
keyword_number word.Initial = 25
keyword_number word.Specify = 26
keyword_number word.EndSpecify = 27
keyword_number word.SpecParam = 28
keyword_number word.If = 29
keyword_number word.IfNone = 30
keyword_number word.PulseStyleOnEvent = 31
keyword_number word.PulseStyleOnDetect = 32
keyword_number word.NoShowCancelled = 33
keyword_number word.ShowCancelled = 34
keyword_number word.Posedge = 35
keyword_number word.Negedge = 36
keyword_number word.Edge = 37
