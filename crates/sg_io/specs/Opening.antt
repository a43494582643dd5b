-- What it means that a file didn't open.
use Rattle.std.specs.declared.io.ErrorKind.{ErrorKind}
use Rattle.std.specs.declared.io.ErrorKind.TheVariants as kind
use Rattle.sg_io.specs.declared.outside.ReadError.{ReadError}
use Rattle.sg_io.specs.declared.outside.ReadError.TheVariants as reading
use Rattle.sg_io.specs.declared.outside.ShelfError.{ShelfError}
use Rattle.sg_io.specs.declared.outside.ShelfError.TheVariants as shelf

-- a file that is to be read is missing where there is none of the name; want of memory is told as such, and every other
-- kind of error is a failure
abbrev pub opening_error : ErrorKind → ReadError
opening_error kind.NotFound = reading.Missing
opening_error kind.OutOfMemory = reading.NoMemory
opening_error _ = reading.Failed

-- the same of a file that is to be written, where a name that can't be reached is a failure
abbrev pub writing_error : ErrorKind → ShelfError
writing_error kind.OutOfMemory = shelf.NoMemory
writing_error _ = shelf.Failed
