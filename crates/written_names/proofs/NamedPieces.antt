-- Names among the pieces of a netlist's text have bytes, all good ones.
use Rattle.std.specs.Prelude.{◌≡◌, ℕ, ◌==◌, ◌&&◌, Bool, true, false, nat_eq, codes, IfSome, List, [], ◌∷◌, drop, take, Option, Some, None, is_some, if◌then◌else◌, refl}
use Rattle.std.specs.List.{list_all}
use Rattle.std.specs.Char.{is_ascii_digit}
use lib.Pointwise.{pointwise}
use Rattle.std.proofs.Common.{sym, subst}
use Rattle.std.proofs.lemmas.Bool.{and_parts, eqb-true}
use Rattle.sg_text.specs.Names.{is_name_byte}
use Rattle.sg_time.specs.Reading.{parts_of}
use Rattle.vl_pieces.specs.Bytes.{first_of, is_blank, is_graphic, is_inline}
use Rattle.vl_pieces.specs.Ends.{end_of, quote_end}
use Rattle.vl_pieces.specs.Modes.{IsPiece, cell_from, cell_of, cell_or, class_in, edge_class, is_endtable, is_value_byte, line_class, table_class}
use Rattle.vl_pieces.specs.Pieces.{begins_paren, class_from, class_of, digit_class, ended_or, ends_here, has_number, is_alone, is_symbol, is_unended, long_class, paren_class, point_class, slash_class, tick_class, where_so}
use Rattle.vl_pieces.specs.Sized.{sized_of}
use Rattle.vl_pieces.specs.declared.bytes.First.{First}
use Rattle.vl_pieces.specs.declared.bytes.First.TheVariants.{Blank, Letter, Backslash, Dollar, Quote, Tick, Apostrophe, Slash, Paren, Mark, Bad}
use Rattle.vl_pieces.specs.declared.modes.Mode.{Mode}
use Rattle.vl_pieces.specs.declared.modes.Mode.TheVariants.{Plain, AfterEdge, Edges, Table, EdgesTable, Line}
use Rattle.vl_pieces.specs.declared.pieces.Class.{Class}
use Rattle.vl_pieces.specs.declared.pieces.Class.TheVariants as class
use Rattle.sg_text.specs.Names.{is_name_start}
use Rattle.written_reading.specs.Named.{IsNameText}
use Rattle.written_names.proofs.GoodBytes.{good_graphic, good_name_byte, good_name_start, name_of}
use Rattle.sdf_lex.specs.Bytes as sdf
use Rattle.sdf_lex.specs.Bytes.{is_good}

-- ---- names by their class

-- a name, and an escaped one behind its backslash
abbrev pub IsNamedPiece : Class → List ℕ → Type 0
IsNamedPiece class.Name bytes = IsNameText bytes
IsNamedPiece class.Escaped bytes = IsNameText (drop 1 bytes)
IsNamedPiece _ bytes = Unit {0}

abbrev IfClass : Option Class → List ℕ → Type 0
IfClass o bytes = IfSome o (λ c. IsNamedPiece c bytes)

if_class : (t : Bool) (o p : Option Class) (bytes : List ℕ) → IfClass o bytes → IfClass p bytes → IfClass (if t then o else p) bytes
if_class true o p bytes h k = h
if_class false o p bytes h k = k

where_class : (t : Bool) (c : Class) (bytes : List ℕ) → (t ≡ true → IsNamedPiece c bytes) → IfClass (where_so t c) bytes
where_class true c bytes h = h refl
where_class false c bytes h = tt

ended_class : (c unended : Class) (end : Option ℕ) (bs after bytes : List ℕ) → IsNamedPiece c bytes → IsNamedPiece unended bytes → IfClass (ended_or c unended end bs after) bytes
ended_class c unended end bs after bytes h k = if_class (ends_here end bs) (Some c) (where_so (is_unended end after) unended) bytes h (where_class (is_unended end after) unended bytes (λ e. k))

slash_is : (bs after bytes : List ℕ) → IfClass (slash_class bs after) bytes
slash_is [] after bytes = tt
slash_is (b ∷ bs) after bytes =
    if_class (b == 47) (where_so (list_all is_inline bs) class.Gap) (if b == 42 then ended_or class.Gap class.UnendedComment (end_of 42 47 bs) bs after else None) bytes (where_class (list_all is_inline bs) class.Gap bytes (λ e. tt))
    (if_class (b == 42) (ended_or class.Gap class.UnendedComment (end_of 42 47 bs) bs after) None bytes (ended_class class.Gap class.UnendedComment (end_of 42 47 bs) bs after bytes tt tt) tt)

paren_is : (bs after bytes : List ℕ) → IfClass (paren_class bs after) bytes
paren_is [] after bytes = tt
paren_is (b ∷ bs) after bytes =
    if_class (b == 42) (if begins_paren bs after then None else ended_or class.Attribute class.UnendedComment (end_of 42 41 bs) bs after) None bytes
    (if_class (begins_paren bs after) None (ended_or class.Attribute class.UnendedComment (end_of 42 41 bs) bs after) bytes tt (ended_class class.Attribute class.UnendedComment (end_of 42 41 bs) bs after bytes tt tt)) tt

tick_is : (bs bytes : List ℕ) → IfClass (tick_class bs) bytes
tick_is [] bytes = tt
tick_is (b ∷ bs) bytes = where_class (is_name_start b && list_all is_name_byte bs) class.Use bytes (λ e. tt)

system_is : (bs bytes : List ℕ) → IfClass (long_class class.System is_name_byte bs) bytes
system_is [] bytes = tt
system_is (b ∷ bs) bytes = where_class (list_all is_name_byte (b ∷ bs)) class.System bytes (λ e. tt)

escaped_is : (b : ℕ) (bs : List ℕ) → IfClass (long_class class.Escaped is_graphic bs) (b ∷ bs)
escaped_is b [] = tt
escaped_is b (d ∷ bs) =
    where_class (list_all is_graphic (d ∷ bs)) class.Escaped (b ∷ d ∷ bs)
    (λ e. let q = and_parts (is_graphic d) (list_all is_graphic bs) e in name_of is_graphic good_graphic d bs (good_graphic d q.0) q.1)

-- a letter is good
abbrev IsBegun : First → ℕ → Type 0
IsBegun Letter b = is_good (sdf.class_of b) ≡ true
IsBegun _ b = Unit {0}

begun_if : (t : Bool) (f g : First) (b : ℕ) → (t ≡ true → IsBegun f b) → IsBegun g b → IsBegun (if t then f else g) b
begun_if true f g b h k = h refl
begun_if false f g b h k = k

begun : (b : ℕ) → IsBegun (first_of b) b
begun b =
    begun_if (is_blank b) Blank _ b (λ e. tt)
    (begun_if (is_name_start b) Letter _ b (good_name_start b)
    (begun_if (b == 92) Backslash _ b (λ e. tt)
    (begun_if (b == 36) Dollar _ b (λ e. tt)
    (begun_if (b == 34) Quote _ b (λ e. tt)
    (begun_if (b == 96) Tick _ b (λ e. tt)
    (begun_if (b == 39) Apostrophe _ b (λ e. tt)
    (begun_if (b == 47) Slash _ b (λ e. tt)
    (begun_if (b == 40) Paren _ b (λ e. tt) (begun_if (is_graphic b) Mark Bad b (λ e. tt) tt)))))))))

from_is : (f : First) (b : ℕ) (bs after : List ℕ) → IsBegun f b → IfClass (class_from f b bs after) (b ∷ bs)
from_is Blank b bs after h = where_class (is_alone bs) class.Gap (b ∷ bs) (λ e. tt)
from_is Letter b bs after h = where_class (list_all is_name_byte bs) class.Name (b ∷ bs) (λ e. name_of is_name_byte good_name_byte b bs h e)
from_is Backslash b bs after h = escaped_is b bs
from_is Dollar b bs after h = system_is bs (b ∷ bs)
from_is Quote b bs after h = ended_class class.Quoted class.UnendedText (quote_end bs) bs after (b ∷ bs) tt tt
from_is Tick b bs after h = tick_is bs (b ∷ bs)
from_is Apostrophe b bs after h = if_class (is_some (sized_of (b ∷ bs))) (Some class.Sized) (where_so (is_alone bs) class.Other) (b ∷ bs) tt (where_class (is_alone bs) class.Other (b ∷ bs) (λ e. tt))
from_is Slash b bs after h = slash_is bs after (b ∷ bs)
from_is Paren b bs after h = paren_is bs after (b ∷ bs)
from_is Mark b bs after h = if_class (is_symbol (b ∷ bs)) (Some class.Symbol) (where_so (is_alone bs) class.Other) (b ∷ bs) tt (where_class (is_alone bs) class.Other (b ∷ bs) (λ e. tt))
from_is Bad b bs after h = where_class (is_alone bs) class.BadByte (b ∷ bs) (λ e. tt)

plain_is : (bytes after : List ℕ) → IfClass (class_of bytes after) bytes
plain_is [] after = tt
plain_is (b ∷ bs) after =
    if_class (is_ascii_digit b) (digit_class (b ∷ bs)) (if b == 46 then point_class (b ∷ bs) bs else class_from (first_of b) b bs after) (b ∷ bs)
    (if_class (has_number (parts_of (b ∷ bs))) (Some class.Number) (where_so (is_some (sized_of (b ∷ bs))) class.Sized) (b ∷ bs) tt (where_class (is_some (sized_of (b ∷ bs))) class.Sized (b ∷ bs) (λ e. tt)))
    (if_class (b == 46) (point_class (b ∷ bs) bs) (class_from (first_of b) b bs after) (b ∷ bs)
    (if_class (has_number (parts_of (b ∷ bs))) (Some class.Number) (where_so (is_alone bs) class.Symbol) (b ∷ bs) tt (where_class (is_alone bs) class.Symbol (b ∷ bs) (λ e. tt)))
    (from_is (first_of b) b bs after (begun b)))

-- ---- where an edge list, a table or a line stands

edge_is : (bytes after : List ℕ) → IfClass (edge_class bytes after) bytes
edge_is [] after = plain_is [] after
edge_is (a ∷ []) after = plain_is (a ∷ []) after
edge_is (a ∷ b ∷ []) after = if_class (is_value_byte a && is_value_byte b) (Some class.Pair) (class_of (a ∷ b ∷ []) after) (a ∷ b ∷ []) tt (plain_is (a ∷ b ∷ []) after)
edge_is (a ∷ b ∷ c ∷ bs) after = if_class (is_value_byte a && is_value_byte b) None (class_of (a ∷ b ∷ c ∷ bs) after) (a ∷ b ∷ c ∷ bs) tt (plain_is (a ∷ b ∷ c ∷ bs) after)

same_text : (xs ys : List ℕ) → pointwise nat_eq xs ys ≡ true → xs ≡ ys
same_text [] [] h = refl
same_text [] (y ∷ ys) h = absurd (cc)
same_text (x ∷ xs) [] h = absurd (cc)
same_text (x ∷ xs) (y ∷ ys) h =
    let q = and_parts (nat_eq x y) (pointwise nat_eq xs ys) h in
    let a : x ≡ y = eqb-true x y q.0 in
    let r : xs ≡ ys = same_text xs ys q.1 in
    rw (a, r) refl

endtable_is : (bytes after : List ℕ) → is_endtable bytes after ≡ true → IsNameText bytes
endtable_is bytes after h = subst IsNameText (sym (same_text bytes (codes "endtable") (and_parts _ _ h).0)) (name_of is_name_byte good_name_byte 101 (codes "ndtable") (good_name_byte 101 refl) refl)

cell_same : (c : Class) (bytes : List ℕ) → IsNamedPiece c bytes → IsNamedPiece (cell_of c) bytes
cell_same class.Gap bytes h = h
cell_same class.Attribute bytes h = h
cell_same class.Name bytes h = h
cell_same class.Escaped bytes h = h
cell_same class.System bytes h = h
cell_same class.Number bytes h = h
cell_same class.Sized bytes h = h
cell_same class.Symbol bytes h = h
cell_same class.Quoted bytes h = h
cell_same class.Use bytes h = h
cell_same class.Other bytes h = tt
cell_same class.BadByte bytes h = h
cell_same class.UnendedComment bytes h = h
cell_same class.UnendedText bytes h = h
cell_same class.Cell bytes h = h
cell_same class.Pair bytes h = h
cell_same class.Line bytes h = h

cell_or_is : (o : Option Class) (bytes : List ℕ) → IfClass o bytes → IfClass (cell_or o) bytes
cell_or_is None bytes h = tt
cell_or_is (Some c) bytes h = cell_same c bytes h

cell_is : (f : First) (bs after bytes : List ℕ) → IfClass (cell_from f bs after) bytes
cell_is Blank bs after bytes = where_class (is_alone bs) class.Gap bytes (λ e. tt)
cell_is Letter bs after bytes = where_class (is_alone bs) class.Cell bytes (λ e. tt)
cell_is Backslash bs after bytes = where_class (is_alone bs) class.Cell bytes (λ e. tt)
cell_is Dollar bs after bytes = where_class (is_alone bs) class.Cell bytes (λ e. tt)
cell_is Quote bs after bytes = where_class (is_alone bs) class.Cell bytes (λ e. tt)
cell_is Tick bs after bytes = where_class (is_alone bs) class.Cell bytes (λ e. tt)
cell_is Apostrophe bs after bytes = where_class (is_alone bs) class.Cell bytes (λ e. tt)
cell_is Slash bs after bytes = cell_or_is (slash_class bs after) bytes (slash_is bs after bytes)
cell_is Paren bs after bytes = where_class (is_alone bs) class.Cell bytes (λ e. tt)
cell_is Mark bs after bytes = where_class (is_alone bs) class.Cell bytes (λ e. tt)
cell_is Bad bs after bytes = where_class (is_alone bs) class.BadByte bytes (λ e. tt)

table_is : (bytes after : List ℕ) → IfClass (table_class bytes after) bytes
table_is [] after = tt
table_is (b ∷ bs) after = at (is_endtable (b ∷ bs) after) refl
  where
    at : (t : Bool) → is_endtable (b ∷ bs) after ≡ t → IfClass (if t then Some class.Name else cell_from (first_of b) bs after) (b ∷ bs)
    at true e = endtable_is (b ∷ bs) after e
    at false e = cell_is (first_of b) bs after (b ∷ bs)

line_is : (bytes : List ℕ) → IfClass (line_class bytes) bytes
line_is [] = tt
line_is (b ∷ bs) = if_class (b == 10) (where_so (is_alone bs) class.Gap) (where_so (list_all is_inline bs) class.Line) (b ∷ bs) (where_class (is_alone bs) class.Gap (b ∷ bs) (λ e. tt)) (where_class (list_all is_inline bs) class.Line (b ∷ bs) (λ e. tt))

class_is : (mode : Mode) (bytes after : List ℕ) → IfClass (class_in mode bytes after) bytes
class_is Plain bytes after = plain_is bytes after
class_is AfterEdge bytes after = plain_is bytes after
class_is Edges bytes after = edge_is bytes after
class_is Table bytes after = table_is bytes after
class_is EdgesTable bytes after = table_is bytes after
class_is Line bytes after = line_is bytes

-- the names among pieces are good
pub named_piece : (mode : Mode) (text : List ℕ) (n : ℕ) (c : Class) → IsPiece mode text n c → IsNamedPiece c (take n text)
named_piece mode text n c p = subst (λ o. IfClass o (take n text)) p.form (class_is mode (take n text) (drop n text))
