use Rattle.written_reading.proofs.WholeText.{text_read_back}
use Rattle.written_reading.proofs.laws.text_is_read_back.Goals as goal

-- src/laws.rt:10:1
pub returns : goal.returns
returns c = text_read_back
