-- The words that the system gives a program.
use Rattle.std.specs.Prelude.{ℕ, ◌≡◌, ◌≢◌, List, [], Result, Ok, Err, String, drop, map, string_bytes}
use Rattle.std.specs.Global.{Vec, Global}
use Rattle.std.specs.IoError.{error_kind}
use Rattle.std.specs.Vec.Iter.{into_iter_items}
use Rattle.std.specs.declared.alloc.AllocError.{AllocError}
use Rattle.std.specs.declared.io.Error.{Error}
use Rattle.std.specs.declared.io.ErrorKind.TheVariants.{OutOfMemory}
use Rattle.std.specs.declared.vec.IntoIter.{IntoIter}

-- the program's name and the words after it
abbrev pub Args : Type 0
Args = IntoIter (String Global) Global

-- the words after the program's name; none where one of them isn't text
abbrev pub words_given : Result Args Error → List (List ℕ)
words_given (Ok args) = map (λ w. string_bytes w) (drop 1 (into_iter_items args))
words_given (Err e) = []

-- the system had memory for the words
abbrev pub HasWords : Result Args Error → Type 0
HasWords (Ok args) = Unit {0}
HasWords (Err e) = error_kind e ≢ OutOfMemory

-- the words, or want of memory: where the system had none for them, or where there was none for a copy of them
abbrev pub WordsOf : Result Args Error → Result (Vec (String Global)) AllocError → Type 0
WordsOf (Ok args) (Ok words) = words.items ≡ drop 1 (into_iter_items args)
WordsOf (Ok args) (Err none) = Unit {0}
WordsOf (Err e) (Ok words) = (error_kind e ≢ OutOfMemory) × (words.items ≡ [])
WordsOf (Err e) (Err none) = error_kind e ≡ OutOfMemory
