-- What only functions below the operations cite.
use Rattle.std.specs.Prelude.{ℕ, List, ◌++◌, take, drop}
use Rattle.ring.specs.declared.view.View.{View}

-- k bytes of xs from place i on, where xs is a ring: its front follows its end
unfoldable pub around : List ℕ → ℕ → ℕ → List ℕ
around xs i k = take k (drop i xs ++ xs)

-- the bytes of a view, from its first on
abbrev pub seen : View → List ℕ
seen v = around v.bytes.now v.from v.len
