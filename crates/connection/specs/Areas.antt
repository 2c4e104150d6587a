-- The areas of a store, one for each instance (document 01, "What the front holds").
use Rattle.std.specs.Prelude.{ℕ, ◌+◌, ◌-◌, ◌%◌, List, get_or, set}
use Rattle.ring.specs.Ring.{base_of, stream, laid}

-- k bytes of the stream of instance i, from byte n on
abbrev pub bytes_of : List ℕ → List ℕ → ℕ → ℕ → ℕ → List ℕ
bytes_of caps store i n k = stream store (base_of caps i) (get_or caps i 0) n k

-- the store once the bytes xs are byte n of the stream of instance i and those that follow it
abbrev pub laid_in : List ℕ → List ℕ → ℕ → ℕ → List ℕ → List ℕ
laid_in caps store i n xs = laid store (base_of caps i) (get_or caps i 0) n xs

-- n bytes leave the front of the area of instance i: its start place moves round, and its count falls. Their room is used again.
abbrev pub starts_past : List ℕ → List ℕ → ℕ → ℕ → List ℕ
starts_past caps starts i n = set starts i ((get_or starts i 0 + n) % get_or caps i 0)

abbrev pub counts_less : List ℕ → ℕ → ℕ → List ℕ
counts_less counts i n = set counts i (get_or counts i 0 - n)
