-- The kinds of token in one list, so that what is checked of each holds of all.
use Rattle.std.proofs.Common.{◌≡◌, ℕ, Bool, true, false, List, [], ◌∷◌, Some, None, refl}
use Rattle.std.specs.Prelude.{◌&&◌, not, slice_get}
use Rattle.grammar.specs.Exact.{Apart, IsWithin}
use Rattle.grammar.proofs.Finite.{every, apart_of, within_of}
use Rattle.sg_text.specs.declared.words.Keyword.TheVariants as keyword
use Rattle.vl_token.specs.declared.symbols.Symbol.TheVariants as symbol
use Rattle.vl_tree.specs.declared.check_names.CheckName.TheVariants.{OneLimit, TwoLimits, Width, Period}
use Rattle.vl_tree.specs.declared.check_names.OneLimitCheck.TheVariants.{Setup, Hold, Recovery, Removal, Skew}
use Rattle.vl_tree.specs.declared.check_names.TwoLimitCheck.TheVariants.{SetupHold, RecRem}
use Rattle.vl_tree.specs.Kinds.{Kind, module_kind, pair_kind, name_kind, other_kind, system_kind, word_kind, symbol_kind, number_kind, sized_kind, unsized_kind, one_bit, z_bit, other_bits, byte_kind, colon_byte, semicolon_byte, left_byte, right_byte, cell_byte}

abbrev pub all_kinds : List Kind
all_kinds =
    module_kind ∷ pair_kind ∷ name_kind false ∷ name_kind true ∷ other_kind ∷ system_kind None ∷
    system_kind (Some (OneLimit Setup)) ∷ system_kind (Some (OneLimit Hold)) ∷
    system_kind (Some (OneLimit Recovery)) ∷ system_kind (Some (OneLimit Removal)) ∷
    system_kind (Some (OneLimit Skew)) ∷ system_kind (Some (TwoLimits SetupHold)) ∷
    system_kind (Some (TwoLimits RecRem)) ∷ system_kind (Some Width) ∷ system_kind (Some Period) ∷
    word_kind keyword.EndModule ∷ word_kind keyword.Input ∷ word_kind keyword.Output ∷
    word_kind keyword.Wire ∷ word_kind keyword.Tri ∷ word_kind keyword.Supply0 ∷ word_kind keyword.Supply1 ∷
    word_kind keyword.Reg ∷ word_kind keyword.Assign ∷ word_kind keyword.And ∷ word_kind keyword.Nand ∷
    word_kind keyword.Or ∷ word_kind keyword.Nor ∷ word_kind keyword.Xor ∷ word_kind keyword.Xnor ∷
    word_kind keyword.Buf ∷ word_kind keyword.Not ∷ word_kind keyword.Bufif0 ∷ word_kind keyword.Bufif1 ∷
    word_kind keyword.Notif0 ∷ word_kind keyword.Notif1 ∷ word_kind keyword.Primitive ∷
    word_kind keyword.EndPrimitive ∷ word_kind keyword.Table ∷ word_kind keyword.EndTable ∷
    word_kind keyword.Initial ∷ word_kind keyword.Specify ∷ word_kind keyword.EndSpecify ∷
    word_kind keyword.SpecParam ∷ word_kind keyword.If ∷ word_kind keyword.IfNone ∷
    word_kind keyword.PulseStyleOnEvent ∷ word_kind keyword.PulseStyleOnDetect ∷
    word_kind keyword.NoShowCancelled ∷ word_kind keyword.ShowCancelled ∷ word_kind keyword.Posedge ∷
    word_kind keyword.Negedge ∷ word_kind keyword.Edge ∷ symbol_kind symbol.Parallel ∷
    symbol_kind symbol.Full ∷ symbol_kind symbol.AndAndAnd ∷ symbol_kind symbol.AndAnd ∷
    symbol_kind symbol.And ∷ symbol_kind symbol.OrOr ∷ symbol_kind symbol.Or ∷ symbol_kind symbol.CaseEqual ∷
    symbol_kind symbol.Equal ∷ symbol_kind symbol.Assign ∷ symbol_kind symbol.CaseUnequal ∷
    symbol_kind symbol.Unequal ∷ symbol_kind symbol.Bang ∷ symbol_kind symbol.TildeXor ∷
    symbol_kind symbol.XorTilde ∷ symbol_kind symbol.Xor ∷ symbol_kind symbol.Tilde ∷
    symbol_kind symbol.LeftParen ∷ symbol_kind symbol.RightParen ∷ symbol_kind symbol.LeftBracket ∷
    symbol_kind symbol.RightBracket ∷ symbol_kind symbol.LeftBrace ∷ symbol_kind symbol.RightBrace ∷
    symbol_kind symbol.Comma ∷ symbol_kind symbol.Semicolon ∷ symbol_kind symbol.Colon ∷
    symbol_kind symbol.Point ∷ symbol_kind symbol.Hash ∷ symbol_kind symbol.Plus ∷ symbol_kind symbol.Minus ∷
    number_kind true true ∷ number_kind true false ∷ number_kind false true ∷ number_kind false false ∷
    sized_kind one_bit ∷ sized_kind z_bit ∷ sized_kind other_bits ∷ unsized_kind one_bit ∷
    unsized_kind z_bit ∷ unsized_kind other_bits ∷ byte_kind colon_byte ∷ byte_kind semicolon_byte ∷
    byte_kind left_byte ∷ byte_kind right_byte ∷ byte_kind cell_byte ∷ []

abbrev spot : Kind → ℕ
spot module_kind = 0
spot pair_kind = 1
spot (name_kind false) = 2
spot (name_kind true) = 3
spot other_kind = 4
spot (system_kind None) = 5
spot (system_kind (Some (OneLimit Setup))) = 6
spot (system_kind (Some (OneLimit Hold))) = 7
spot (system_kind (Some (OneLimit Recovery))) = 8
spot (system_kind (Some (OneLimit Removal))) = 9
spot (system_kind (Some (OneLimit Skew))) = 10
spot (system_kind (Some (TwoLimits SetupHold))) = 11
spot (system_kind (Some (TwoLimits RecRem))) = 12
spot (system_kind (Some Width)) = 13
spot (system_kind (Some Period)) = 14
spot (word_kind keyword.EndModule) = 15
spot (word_kind keyword.Input) = 16
spot (word_kind keyword.Output) = 17
spot (word_kind keyword.Wire) = 18
spot (word_kind keyword.Tri) = 19
spot (word_kind keyword.Supply0) = 20
spot (word_kind keyword.Supply1) = 21
spot (word_kind keyword.Reg) = 22
spot (word_kind keyword.Assign) = 23
spot (word_kind keyword.And) = 24
spot (word_kind keyword.Nand) = 25
spot (word_kind keyword.Or) = 26
spot (word_kind keyword.Nor) = 27
spot (word_kind keyword.Xor) = 28
spot (word_kind keyword.Xnor) = 29
spot (word_kind keyword.Buf) = 30
spot (word_kind keyword.Not) = 31
spot (word_kind keyword.Bufif0) = 32
spot (word_kind keyword.Bufif1) = 33
spot (word_kind keyword.Notif0) = 34
spot (word_kind keyword.Notif1) = 35
spot (word_kind keyword.Primitive) = 36
spot (word_kind keyword.EndPrimitive) = 37
spot (word_kind keyword.Table) = 38
spot (word_kind keyword.EndTable) = 39
spot (word_kind keyword.Initial) = 40
spot (word_kind keyword.Specify) = 41
spot (word_kind keyword.EndSpecify) = 42
spot (word_kind keyword.SpecParam) = 43
spot (word_kind keyword.If) = 44
spot (word_kind keyword.IfNone) = 45
spot (word_kind keyword.PulseStyleOnEvent) = 46
spot (word_kind keyword.PulseStyleOnDetect) = 47
spot (word_kind keyword.NoShowCancelled) = 48
spot (word_kind keyword.ShowCancelled) = 49
spot (word_kind keyword.Posedge) = 50
spot (word_kind keyword.Negedge) = 51
spot (word_kind keyword.Edge) = 52
spot (symbol_kind symbol.Parallel) = 53
spot (symbol_kind symbol.Full) = 54
spot (symbol_kind symbol.AndAndAnd) = 55
spot (symbol_kind symbol.AndAnd) = 56
spot (symbol_kind symbol.And) = 57
spot (symbol_kind symbol.OrOr) = 58
spot (symbol_kind symbol.Or) = 59
spot (symbol_kind symbol.CaseEqual) = 60
spot (symbol_kind symbol.Equal) = 61
spot (symbol_kind symbol.Assign) = 62
spot (symbol_kind symbol.CaseUnequal) = 63
spot (symbol_kind symbol.Unequal) = 64
spot (symbol_kind symbol.Bang) = 65
spot (symbol_kind symbol.TildeXor) = 66
spot (symbol_kind symbol.XorTilde) = 67
spot (symbol_kind symbol.Xor) = 68
spot (symbol_kind symbol.Tilde) = 69
spot (symbol_kind symbol.LeftParen) = 70
spot (symbol_kind symbol.RightParen) = 71
spot (symbol_kind symbol.LeftBracket) = 72
spot (symbol_kind symbol.RightBracket) = 73
spot (symbol_kind symbol.LeftBrace) = 74
spot (symbol_kind symbol.RightBrace) = 75
spot (symbol_kind symbol.Comma) = 76
spot (symbol_kind symbol.Semicolon) = 77
spot (symbol_kind symbol.Colon) = 78
spot (symbol_kind symbol.Point) = 79
spot (symbol_kind symbol.Hash) = 80
spot (symbol_kind symbol.Plus) = 81
spot (symbol_kind symbol.Minus) = 82
spot (number_kind true true) = 83
spot (number_kind true false) = 84
spot (number_kind false true) = 85
spot (number_kind false false) = 86
spot (sized_kind one_bit) = 87
spot (sized_kind z_bit) = 88
spot (sized_kind other_bits) = 89
spot (unsized_kind one_bit) = 90
spot (unsized_kind z_bit) = 91
spot (unsized_kind other_bits) = 92
spot (byte_kind colon_byte) = 93
spot (byte_kind semicolon_byte) = 94
spot (byte_kind left_byte) = 95
spot (byte_kind right_byte) = 96
spot (byte_kind cell_byte) = 97

is_listed : (k : Kind) → slice_get all_kinds (spot k) ≡ Some k
is_listed module_kind = refl
is_listed pair_kind = refl
is_listed (name_kind false) = refl
is_listed (name_kind true) = refl
is_listed other_kind = refl
is_listed (system_kind None) = refl
is_listed (system_kind (Some (OneLimit Setup))) = refl
is_listed (system_kind (Some (OneLimit Hold))) = refl
is_listed (system_kind (Some (OneLimit Recovery))) = refl
is_listed (system_kind (Some (OneLimit Removal))) = refl
is_listed (system_kind (Some (OneLimit Skew))) = refl
is_listed (system_kind (Some (TwoLimits SetupHold))) = refl
is_listed (system_kind (Some (TwoLimits RecRem))) = refl
is_listed (system_kind (Some Width)) = refl
is_listed (system_kind (Some Period)) = refl
is_listed (word_kind keyword.EndModule) = refl
is_listed (word_kind keyword.Input) = refl
is_listed (word_kind keyword.Output) = refl
is_listed (word_kind keyword.Wire) = refl
is_listed (word_kind keyword.Tri) = refl
is_listed (word_kind keyword.Supply0) = refl
is_listed (word_kind keyword.Supply1) = refl
is_listed (word_kind keyword.Reg) = refl
is_listed (word_kind keyword.Assign) = refl
is_listed (word_kind keyword.And) = refl
is_listed (word_kind keyword.Nand) = refl
is_listed (word_kind keyword.Or) = refl
is_listed (word_kind keyword.Nor) = refl
is_listed (word_kind keyword.Xor) = refl
is_listed (word_kind keyword.Xnor) = refl
is_listed (word_kind keyword.Buf) = refl
is_listed (word_kind keyword.Not) = refl
is_listed (word_kind keyword.Bufif0) = refl
is_listed (word_kind keyword.Bufif1) = refl
is_listed (word_kind keyword.Notif0) = refl
is_listed (word_kind keyword.Notif1) = refl
is_listed (word_kind keyword.Primitive) = refl
is_listed (word_kind keyword.EndPrimitive) = refl
is_listed (word_kind keyword.Table) = refl
is_listed (word_kind keyword.EndTable) = refl
is_listed (word_kind keyword.Initial) = refl
is_listed (word_kind keyword.Specify) = refl
is_listed (word_kind keyword.EndSpecify) = refl
is_listed (word_kind keyword.SpecParam) = refl
is_listed (word_kind keyword.If) = refl
is_listed (word_kind keyword.IfNone) = refl
is_listed (word_kind keyword.PulseStyleOnEvent) = refl
is_listed (word_kind keyword.PulseStyleOnDetect) = refl
is_listed (word_kind keyword.NoShowCancelled) = refl
is_listed (word_kind keyword.ShowCancelled) = refl
is_listed (word_kind keyword.Posedge) = refl
is_listed (word_kind keyword.Negedge) = refl
is_listed (word_kind keyword.Edge) = refl
is_listed (symbol_kind symbol.Parallel) = refl
is_listed (symbol_kind symbol.Full) = refl
is_listed (symbol_kind symbol.AndAndAnd) = refl
is_listed (symbol_kind symbol.AndAnd) = refl
is_listed (symbol_kind symbol.And) = refl
is_listed (symbol_kind symbol.OrOr) = refl
is_listed (symbol_kind symbol.Or) = refl
is_listed (symbol_kind symbol.CaseEqual) = refl
is_listed (symbol_kind symbol.Equal) = refl
is_listed (symbol_kind symbol.Assign) = refl
is_listed (symbol_kind symbol.CaseUnequal) = refl
is_listed (symbol_kind symbol.Unequal) = refl
is_listed (symbol_kind symbol.Bang) = refl
is_listed (symbol_kind symbol.TildeXor) = refl
is_listed (symbol_kind symbol.XorTilde) = refl
is_listed (symbol_kind symbol.Xor) = refl
is_listed (symbol_kind symbol.Tilde) = refl
is_listed (symbol_kind symbol.LeftParen) = refl
is_listed (symbol_kind symbol.RightParen) = refl
is_listed (symbol_kind symbol.LeftBracket) = refl
is_listed (symbol_kind symbol.RightBracket) = refl
is_listed (symbol_kind symbol.LeftBrace) = refl
is_listed (symbol_kind symbol.RightBrace) = refl
is_listed (symbol_kind symbol.Comma) = refl
is_listed (symbol_kind symbol.Semicolon) = refl
is_listed (symbol_kind symbol.Colon) = refl
is_listed (symbol_kind symbol.Point) = refl
is_listed (symbol_kind symbol.Hash) = refl
is_listed (symbol_kind symbol.Plus) = refl
is_listed (symbol_kind symbol.Minus) = refl
is_listed (number_kind true true) = refl
is_listed (number_kind true false) = refl
is_listed (number_kind false true) = refl
is_listed (number_kind false false) = refl
is_listed (sized_kind one_bit) = refl
is_listed (sized_kind z_bit) = refl
is_listed (sized_kind other_bits) = refl
is_listed (unsized_kind one_bit) = refl
is_listed (unsized_kind z_bit) = refl
is_listed (unsized_kind other_bits) = refl
is_listed (byte_kind colon_byte) = refl
is_listed (byte_kind semicolon_byte) = refl
is_listed (byte_kind left_byte) = refl
is_listed (byte_kind right_byte) = refl
is_listed (byte_kind cell_byte) = refl

-- no kind is of both, by a look at each kind
pub apart : (c d : Kind → Bool) → every (λ k. not (c k && d k)) all_kinds ≡ true → Apart c d
apart = apart_of all_kinds spot is_listed

-- each kind of the one is of the other, by a look at each kind
pub is_within : (c d : Kind → Bool) → every (λ k. not (c k && not (d k))) all_kinds ≡ true → IsWithin c d
is_within = within_of all_kinds spot is_listed
