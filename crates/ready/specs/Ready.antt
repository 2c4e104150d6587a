-- Who has bytes to send (document 01, "Segments": status, and next segment's choice), over the waiting counts by instance.
use Rattle.std.specs.Prelude.{ℕ, zero, suc, ◌+◌, ◌-◌, ◌*◌, cond, List, [], ◌∷◌, eqb, ltb, length, get_or, Option, Some, None}
use Rattle.ready.specs.declared.Ready.{Ready}

-- whether a count is not 0, as a bit
abbrev pub bit_of : ℕ → ℕ
bit_of n = cond (eqb n 0) 0 1

-- a word whose bit i is set when instance i has bytes to send
unfoldable pub word_of : List ℕ → ℕ
word_of [] = 0
word_of (w ∷ ws) = 2 * word_of ws + bit_of w

-- how many instances are ready
unfoldable pub count_of : List ℕ → ℕ
count_of [] = 0
count_of (w ∷ ws) = bit_of w + count_of ws

-- which is lowest, counted from i; 255 if none
unfoldable pub lowest_from : ℕ → List ℕ → ℕ
lowest_from i [] = 255
lowest_from i (w ∷ ws) = cond (eqb w 0) (lowest_from (suc i) ws) i

abbrev pub ready_of : List ℕ → Ready
ready_of ws = record { word = word_of ws; count = count_of ws; lowest = lowest_from 0 ws }

-- the instance after i, of n, going round from the last to 1
abbrev pub after_of : ℕ → ℕ → ℕ
after_of n i = cond (eqb (i + 1) n) 1 (i + 1)

-- the first of k instances with bytes waiting, beginning at i and going round
unfoldable pub seek : List ℕ → ℕ → ℕ → Option ℕ
seek ws i zero = None
seek ws i (suc k) = cond (ltb 0 (get_or ws i 0)) (Some i) (seek ws (after_of (length ws) i) k)

-- If instance 0 has bytes waiting, it is chosen. Otherwise the first of the others with bytes waiting, beginning at the turn and going round.
abbrev pub chosen : List ℕ → ℕ → Option ℕ
chosen ws turn = cond (ltb 0 (get_or ws 0 0)) (Some 0) (seek ws turn (length ws - 1))

-- The turn after serving i is the one after i; serving 0 doesn't move it.
abbrev pub turn_after : ℕ → ℕ → ℕ → ℕ
turn_after n i turn = cond (eqb i 0) turn (after_of n i)
