-- Numbers in bytes, big-endian: the most significant byte first.
use Rattle.std.specs.Prelude.{ℕ, zero, suc, ◌+◌, ◌*◌, ◌/◌, ◌%◌, ◌<◌, List, [], ◌∷◌, ◌++◌}

-- every element is a byte
unfoldable pub Bytes : List ℕ → Type 0
Bytes [] = Unit {0}
Bytes (x ∷ xs) = (x < 256) × Bytes xs

-- the number that the bytes spell after v
unfoldable pub spelled : ℕ → List ℕ → ℕ
spelled v [] = v
spelled v (x ∷ xs) = spelled (v * 256 + x) xs

-- the number that the bytes spell
abbrev pub number : List ℕ → ℕ
number xs = spelled 0 xs

-- the last k bytes of n
unfoldable pub octets : ℕ → ℕ → List ℕ
octets zero n = []
octets (suc k) n = octets k (n / 256) ++ (n % 256 ∷ [])
