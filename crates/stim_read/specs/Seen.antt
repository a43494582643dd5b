-- What the reader's values stand for.
use Rattle.std.specs.Prelude.{List, map, option_map, filter, not}
use Rattle.sg_time.specs.Seen.{number}
use Rattle.sg_time.specs.Reading.{parts_of, said_of}
use Rattle.stim_read.specs.Lines.{Line, is_passed_over, statement}
use Rattle.stim_read.specs.Sets.{Name, Set}
use Rattle.stim_read.specs.Forms.{Decimals, Form, unit_is, sets_at, ends_at, faulty_end, other, Stated, stated}
use Rattle.stim_read.specs.declared.lines.Line as code_line
use Rattle.stim_read.specs.declared.sets.Name as code_name
use Rattle.stim_read.specs.declared.sets.SetText as code_set
use Rattle.stim_read.specs.declared.forms.Form as code_form
use Rattle.stim_read.specs.declared.forms.Form.TheVariants as form
use Rattle.stim_read.specs.declared.statements.Stated as code_stated

-- what the reader takes each text for as a decimal
unfoldable pub decimals : Decimals
decimals text = said_of (parts_of text)

abbrev pub line_seen : code_line.Line → Line
line_seen l = record { start = l.start; bytes = l.bytes.now }

abbrev pub name_seen : code_name.Name → Name
name_seen n = record { name = n.name.now; index = option_map (λ i. i.now) n.index }

abbrev pub set_seen : code_set.SetText → Set
set_seen s = record { target = name_seen s.target; digits = s.digits.now }

abbrev pub form_seen : code_form.Form → Form
form_seen (form.Unit unit) = unit_is unit.power
form_seen (form.At time sets) = sets_at (number time) (map (λ s. set_seen s) sets.items)
form_seen (form.End time) = ends_at (number time)
form_seen form.FaultyEnd = faulty_end
form_seen form.Other = other

abbrev pub stated_seen : code_stated.Stated → Stated
stated_seen s = record { byte = s.byte; form = form_seen s.form }

-- the statements of lines
abbrev pub stated_lines : List Line → List Stated
stated_lines ls = map (stated decimals) (filter (λ s. not (is_passed_over s.words)) (map statement ls))
