-- A head as short as can be (RFC 8949, sections 3 and 4.2.1).
use Rattle.std.specs.Prelude.{ℕ, ◌+◌, ◌*◌, ◌^◌, cond, List, ◌∷◌, ltb}
use Rattle.base.specs.Numbers.{octets}
use Rattle.head.specs.declared.write.Width.{Width}

-- additional information i, and k bytes of the argument that follow
abbrev pub width : ℕ → ℕ → Width
width i k = record { info = i; bytes = k }

-- the additional information is the argument itself, or 24 to 27 for the 1, 2, 4 or 8 bytes that it needs
abbrev pub width_of : ℕ → Width
width_of v =
    cond (ltb v 24) (width v 0)
    (cond (ltb v (2 ^ 8)) (width 24 1)
    (cond (ltb v (2 ^ 16)) (width 25 2)
    (cond (ltb v (2 ^ 32)) (width 26 4) (width 27 8))))

-- major type in the upper three bits, additional information in the lower five, then the argument
unfoldable pub shortest : ℕ → ℕ → List ℕ
shortest m v = (m * 32 + (width_of v).info) ∷ octets (width_of v).bytes v
