-- What a failing token says of reading.
use Rattle.std.proofs.Common.{◌≡◌, ℕ, Result, Err}
use Rattle.grammar.specs.Reading.{Fails}
use Rattle.grammar.specs.declared.ReadFault.{ReadFault}
use Rattle.grammar.specs.declared.ReadFault.TheVariants as faults

-- where a token failed, reading gives its position
pub failed_at : {Y : Type 0} (fault : ReadFault) (e : ℕ) (read : Result Y ℕ) → fault ≡ faults.At e → Fails fault read → read ≡ Err e
failed_at fault e read is f = rw is at f
