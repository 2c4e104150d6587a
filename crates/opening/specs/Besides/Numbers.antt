-- Which number open answers, exactly when (document 01, "Numbers and their order"), and what open leaves, as statements.
use Rattle.std.specs.Prelude.{ℕ, ◌≡◌, true, false, ◌↔◌}
use Rattle.connection.specs.declared.Settings.{Settings}
use Rattle.range.specs.Ranges.{settings_ok, receive_length, send_length, in_range}
use Rattle.opening.specs.Openings.{refused_open, open_of}

-- settings in range, and both stores as long as they say
abbrev pub Opens : Settings → ℕ → ℕ → Type 0
Opens s n m = (settings_ok s ≡ true) × (n ≡ receive_length s) × (m ≡ send_length s)

-- T2: when each number is answered
pub data When (s : Settings) (n m : ℕ) : ℕ → Type 0 where
  out_of_range : (Opens s n m → ⊥) → When s n m 23
  done : Opens s n m → When s n m 0

abbrev pub Exactly : Type 0
Exactly = (s : Settings) (n m k : ℕ) → ((open_of s n m).number ≡ k) ↔ When s n m k

-- T3: a refused open hands back all numbers 0 and no closing. An opened record is in range; that of a refused open is not.
pub record Opening : Type 0 where
  pub zeros : (s : Settings) (n m : ℕ) → ((open_of s n m).number ≡ 0 → ⊥) → open_of s n m ≡ refused_open
  pub opened : (s : Settings) (n m : ℕ) → (open_of s n m).number ≡ 0 → in_range (open_of s n m).connection ≡ true
  pub refused : in_range refused_open.connection ≡ false
