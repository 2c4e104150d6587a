-- What only this crate's own functions cite: the choice, by the bits of the word.
use Rattle.std.specs.Prelude.{ℕ, zero, suc, ◌-◌, ◌/◌, ◌%◌, ◌^◌, Bool, cond, eqb, Option, Some, None}
use Rattle.ready.specs.Ready.{after_of}

-- bit i of a word
abbrev pub bit_set : ℕ → ℕ → Bool
bit_set word i = eqb (word / 2 ^ i % 2) 1

unfoldable pub seek_in : ℕ → ℕ → ℕ → ℕ → Option ℕ
seek_in n word i zero = None
seek_in n word i (suc k) = cond (bit_set word i) (Some i) (seek_in n word (after_of n i) k)

-- `chosen`, of n instances, in the ready word
abbrev pub chosen_in : ℕ → ℕ → ℕ → Option ℕ
chosen_in n word turn = cond (bit_set word 0) (Some 0) (seek_in n word turn (n - 1))
