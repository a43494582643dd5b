-- What it says that parts of a cell were read, and their entries told.
use Rattle.std.specs.Prelude.{◌≡◌, ◌++◌, Bool, true, List, [], ◌∷◌, None}
use Rattle.std.specs.List.{flat_map}
use Rattle.sdf_lex.specs.Tokens.{Lexeme}
use Rattle.sdf_meaning.specs.FirstFaults.{bad_number, crossing}
use Rattle.sdf_tree.specs.Faults.{Crossing, body_crossings, body_numbers, check_numbers, group_crossings, group_numbers, part_crossings, part_numbers}
use Rattle.sdf_tree.specs.Files.{file_part}
use Rattle.sdf_tree.specs.Kinds.{is_right}
use Rattle.sdf_tree.specs.Meant as meant
use Rattle.sdf_tree.specs.Rules.{Grammar, many, mark}
use Rattle.sdf_tree.specs.Written as written
use Rattle.sdf_tree.specs.Written.{Cell, Number, a_cell}
use Rattle.sdf_tree.specs.declared.words.Divider.{Divider}
use Rattle.sdf_windows.specs.Movable.{Says}
use Rattle.sdf_stream.specs.Told.{Told, told_in}
use Rattle.sdf_stream.specs.Windows.{Passed, seen}
use Rattle.sdf_stream.specs.declared.window.Window.{Window}

-- all numbers are numbers, and no limits cross
pub record AreFine (ns : List Number) (cs : List Crossing) : Type 0 where
  pub numbers : bad_number ns ≡ None
  pub crossings : crossing cs ≡ None

-- what parts of a kind have: numbers, limits of pulses, and entries
pub record Contents (A : Type 0) : Type 0 where
  pub numbers : A → List Number
  pub crossings : A → List Crossing
  pub entries : A → List meant.Entry

abbrev pub entry_contents : (increment : Bool) → Contents written.Entry
entry_contents increment = record { numbers = λ e. body_numbers e.body; crossings = λ e. body_crossings e.body; entries = λ e. meant.entry_of increment e ∷ [] }

abbrev pub group_contents : Contents written.Group
group_contents = record { numbers = group_numbers; crossings = group_crossings; entries = meant.entries_of_group }

abbrev pub check_contents : Contents written.Check
check_contents = record { numbers = λ c. check_numbers c.body; crossings = λ c. []; entries = λ c. meant.entry_of_check c ∷ [] }

abbrev pub part_contents : Contents written.Part
part_contents = record { numbers = part_numbers; crossings = part_crossings; entries = meant.entries_of_part }

-- a part is without fault, and its entries were told
pub record IsTold {A : Type 0} (c : Contents A) (Came : List meant.Entry → Type 0) (x : A) : Type 0 where
  pub fine : AreFine (c.numbers x) (c.crossings x)
  pub came : Came (c.entries x)

abbrev pub AreTold : {A : Type 0} → Contents A → (List meant.Entry → Type 0) → List A → Type 0
AreTold c Came xs = IsTold (record { numbers = flat_map c.numbers; crossings = flat_map c.crossings; entries = flat_map c.entries }) Came xs

-- the tokens at hand and some more spell a part that was told
pub record IsScanned {A : Type 0} (r : Grammar A) (c : Contents A) (Came : List meant.Entry → Type 0) (old new : Window) : Type 0 where
  pub value : A
  pub more : List Lexeme
  pub passed : Passed old new more
  pub says : Says r (seen old ++ more) value
  pub told : IsTold c Came value

-- the next tokens spell parts that were told
pub record AreScanned {A : Type 0} (r : Grammar A) (c : Contents A) (Came : List meant.Entry → Type 0) (old new : Window) : Type 0 where
  pub values : List A
  pub tokens : List Lexeme
  pub passed : Passed old new tokens
  pub says : Says (many r) tokens values
  pub told : AreTold c Came values

-- and then a parenthesis closes
pub record AreClosed {A : Type 0} (r : Grammar A) (c : Contents A) (Came : List meant.Entry → Type 0) (old new : Window) : Type 0 where
  pub values : List A
  pub tokens : List Lexeme
  pub ending : List Lexeme
  pub passed : Passed old new (tokens ++ ending)
  pub says : Says (many r) tokens values
  pub closes : Says (mark is_right) ending tt
  pub told : AreTold c Came values

-- the tokens at hand and some more are a cell of a file, whose entries were told
pub record IsCell (divider : Divider) (Came : List Told → Type 0) (old new : Window) : Type 0 where
  pub cell : Cell
  pub more : List Lexeme
  pub passed : Passed old new more
  pub says : (heads : Bool) → Says (file_part true (record { heads = heads; divider = divider })) (seen old ++ more) (a_cell cell)
  pub fine : AreFine (flat_map part_numbers cell.parts) (flat_map part_crossings cell.parts)
  pub came : Came (told_in (meant.cell_of cell))
