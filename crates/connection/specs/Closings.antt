-- The closing (document 01, "Segments": status; "Numbers and their order": faults; document 02, K1).
use Rattle.std.specs.Prelude.{ℕ, Bool, true, false, ◌&&◌, ◌||◌, List, [], ◌∷◌, eqb, ltb}
use Rattle.std.proofs.Math.Option.{Option, none, some}
use Rattle.wire.specs.Instances.{instances, role_of, sided}
use Rattle.connection.specs.declared.Closing.{Closing}
use Rattle.connection.specs.declared.Closing.TheVariants.{Bare, Of}
use Rattle.connection.specs.declared.Gate.{Gate}
use Rattle.connection.specs.declared.Gate.TheVariants.{Open, Closed}

-- a closing names its refusal number and, where one is known, the instance
abbrev pub closing_number : Closing → ℕ
closing_number (Bare n) = n
closing_number (Of n i) = n

abbrev pub instance_of : Closing → Option ℕ
instance_of (Bare n) = none
instance_of (Of n i) = some i

-- what a gate tells: no closing, or its number and, where one is known, its instance
abbrev pub closing_of : Gate → Option (ℕ × Option ℕ)
closing_of Open = none
closing_of (Closed x) = some (closing_number x, instance_of x)

-- only the first closing is kept
abbrev pub closed_by : Gate → Closing → Gate
closed_by Open x = Closed x
closed_by (Closed y) x = Closed y

abbrev pub is_open : Gate → Bool
is_open Open = true
is_open (Closed x) = false

-- ---- faults, by name

-- from feed: unknown protocol, wrong mode, overflow
abbrev pub unknown_protocol : ℕ
unknown_protocol = 11

abbrev pub wrong_mode : ℕ
wrong_mode = 12

abbrev pub overflow : ℕ
overflow = 13

-- from look and drop: bytes bad, not a message of the protocol, no row in the present state, bytes held after Done
abbrev pub bytes_bad : ℕ
bytes_bad = 14

abbrev pub no_message : ℕ
no_message = 15

abbrev pub no_row : ℕ
no_row = 16

abbrev pub after_done : ℕ
after_done = 17

abbrev pub heard_faults : List ℕ
heard_faults = bytes_bad ∷ no_message ∷ no_row ∷ after_done ∷ []

-- whether a number is in a list
unfoldable pub among : List ℕ → ℕ → Bool
among [] n = false
among (m ∷ ms) n = eqb n m || among ms n

abbrev pub heard_fault : ℕ → Bool
heard_fault n = among heard_faults n

-- a closing that a fault leaves, in a bundle: no instance for 11; for 12 one of those in which our role is our side's, node to node 0 alone;
-- any for 13 and for those of look and drop
abbrev pub fault_leaves : ℕ → Closing → Bool
fault_leaves b (Bare n) = eqb n unknown_protocol
fault_leaves b (Of n i) = ltb i (instances b) && ((eqb n wrong_mode && sided (role_of b i)) || (eqb n overflow || heard_fault n))

abbrev pub gate_ok : ℕ → Gate → Bool
gate_ok b Open = true
gate_ok b (Closed x) = fault_leaves b x
