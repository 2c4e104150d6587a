-- Where a message leads in the state of a view.
use Rattle.std.specs.Prelude.{ℕ, Option}
use Rattle.rows.specs.Rows.{next_of}
use Rattle.messages.specs.declared.Message.{Message}
use Rattle.messages.specs.Reading.{flag_of}
use Rattle.judging.specs.Judging.{View, spoken}

-- ---- what is asked of it

-- where a message leads in the present state
abbrev pub leads_to : View → Message → Option ℕ
leads_to v m = next_of (spoken v) v.state m.kind (flag_of (spoken v) m)
