-- What only functions below the operations cite, here and in `build`: how the table of forms is laid out, and how far reading has come.
use Rattle.std.specs.Prelude.{ℕ, ◌-◌, ◌<◌, ◌≤◌, ◌≡◌, Bool, cond, false, List, [], eqb, length, get_or, Option, Some, None, Ok}
use Rattle.item.specs.Verdict.{verdict}
use Rattle.rows.specs.declared.Protocol.{Protocol}
use Rattle.rows.specs.Inside.{table}
use Rattle.elements.specs.declared.Extent.{Extent}
use Rattle.elements.specs.declared.Extent.TheVariants.{Counted, Open, Rest}
use Rattle.elements.specs.Besides.Matching.{ItemsAt}
use Rattle.elements.specs.Matching.{array, in_message}
use Rattle.elements.specs.Reading.{unsigned_at, opens_at}
use Rattle.messages.specs.declared.forms.Form.{Form as Listed}
use Rattle.messages.specs.Forms.{Form, form, forms, form_of}
use Rattle.messages.specs.Reading.{count_from}

-- all forms
abbrev pub all_forms : List Form
all_forms = table forms

abbrev pub form_count : ℕ
form_count = length all_forms

-- form i; what stands past the table's end is none
abbrev pub form_at : ℕ → Form
form_at i = get_or all_forms i (form 0 [])

-- the form that a row of the code's table is
abbrev pub meant : Listed → Form
meant f = form f.kind f.fields.now

-- no form has more fields
abbrev pub most_fields : ℕ
most_fields = 3

-- what a search of the table finds
abbrev pub Finds : Protocol → ℕ → Option ℕ → Type 0
Finds p kind (Some i) = (i < form_count) × (form_of p kind ≡ Some (form_at i).fields)
Finds p kind None = form_of p kind ≡ None

-- the bytes are one item, an array of this extent, whose first element is the kind, from this place up to the next
abbrev pub Begins : List ℕ → Extent → ℕ → ℕ → ℕ → Type 0
Begins bs x first kind next =
    (verdict bs ≡ Ok (length bs)) × (opens_at bs array 0 ≡ Some (x, first)) × (unsigned_at bs first ≡ Some (kind, next))

-- reading so many fields, the first of them at this place, came to the place `at` with so many left
abbrev pub Stopped : List ℕ → ℕ → ℕ → ℕ → ℕ → Type 0
Stopped bs count first left at = (left ≤ count) × ItemsAt bs in_message (count - left) first at

-- where the last of so many elements ends, if the head of their array says that it has so many: behind the last of n bytes
abbrev pub last_end : Extent → ℕ → ℕ → Option ℕ
last_end (Counted k) count n = cond (eqb k count) (Some n) None
last_end Open count n = None
last_end Rest count n = None

-- the array has so many elements: its head says so, or as many as are left stand from the place `at` on
abbrev pub has_count : List ℕ → Extent → ℕ → ℕ → ℕ → Bool
has_count bs (Counted k) count left at = eqb k count
has_count bs Open count left at = eqb (count_from bs Open at) left
has_count bs Rest count left at = false
