-- Which number each call answers and what it leaves, as statements: slices that do not match are 23, and then nothing changes; else it is what `log` says of
-- the records.
use Rattle.std.specs.Prelude.{ℕ, ◌≡◌, true, false, List, ◌≢◌, Err}
use Rattle.point_log.specs.Log.{find_of, back_of, add_of}
use Rattle.point_log.specs.Besides.Numbers.{number, left}
use Rattle.point_log.specs.declared.Refusal.TheVariants.{OutOfRange}
use Rattle.slices.specs.Parallel.{match, records, find_in, back_in, told_in, add_in}

pub record CallsIn (slots hashes : List ℕ) (n : ℕ) : Type 0 where
  pub apart : match slots hashes ≡ false
      → ((slot : ℕ) → find_in slots hashes n slot ≡ Err OutOfRange) × ((item : List ℕ) → back_in slots hashes n item ≡ Err OutOfRange)
      × ((item : List ℕ) → add_in slots hashes n item ≡ told_in (Err OutOfRange) slots hashes)
  pub together : match slots hashes ≡ true
      → ((slot : ℕ) → find_in slots hashes n slot ≡ find_of (records slots hashes) n slot)
      × ((item : List ℕ) → back_in slots hashes n item ≡ back_of (records slots hashes) n item)
      × ((item : List ℕ) → let t = add_in slots hashes n item in (t.answer ≡ (add_of (records slots hashes) n item).answer)
      × (records t.slots t.hashes ≡ (add_of (records slots hashes) n item).run) × (match t.slots t.hashes ≡ true))
  pub kept : (item : List ℕ) → let t = add_in slots hashes n item in number t.answer ≢ 0 → (t.slots ≡ slots) × (t.hashes ≡ hashes) × (left n t.answer ≡ n)

abbrev pub AllCallsIn : Type 0
AllCallsIn = (slots hashes : List ℕ) (n : ℕ) → CallsIn slots hashes n
