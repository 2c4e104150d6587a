-- Nine bytes in one piece: the bytes of the slice there are those of the ring.
-- Assumes nothing.
use Prim.Native.Nat.{ℕ, ◌+◌, ◌-◌, ◌≤◌}
use mathlib.Core.List.{List}
use mathlib.Core.Logic.{inl, inr, ⊎_elim}
use mathlib.Core.Path.{◌≡◌, sym, ap, ◌∙◌}
use lib.ListN.{length, get_or}
use native.Mathlib.Omega.{arith}
use native.Mathlib.Nat.{add-zero}
use Rattle.ring.specs.Inside.{around}
use Rattle.usual.specs.Inside.Pieces.{Spot, Pieces}
use Rattle.ring.proofs.Around.{around_near, around_far}

pub spot_byte : (s : List ℕ) (from n i p j : ℕ) → n ≤ length s → Spot (length s) from n i p → j ≤ 8 → get_or s (p + j) 0 ≡ get_or (around s from n) (i + j) 0
spot_byte s from n i p j l q h =
    let m = q.more in
    let o = q.inside in
    ⊎_elim
    (λ (e : p ≡ from + i).
    let z : p + j ≡ from + (i + j) = omega arith in
    ap (λ (k : ℕ). get_or s k 0) z ∙ sym (around_near s from n (i + j) (omega arith) (omega arith)))
    (λ (e : p + (length s - from) ≡ i).
    let z : p + j ≡ i + j - (length s - from) = omega arith in
    ap (λ (k : ℕ). get_or s k 0) z ∙ sym (around_far s from n (i + j) (omega arith) (omega arith)))
    q.is

pub spot_here : (s : List ℕ) (from n i p : ℕ) → n ≤ length s → Spot (length s) from n i p → get_or s p 0 ≡ get_or (around s from n) i 0
spot_here s from n i p l q =
    ap (λ (k : ℕ). get_or s k 0) (sym (add-zero p)) ∙ spot_byte s from n i p 0 l q (omega arith) ∙ ap (λ (k : ℕ). get_or (around s from n) k 0)
    (add-zero i)

-- the piece up to the end of the slice, and the one from its front on
pub pieces_near : (len from n at m : ℕ) → from ≤ len → m ≤ n → m ≤ len - from → Pieces len from n at from 0 (m - 8)
pieces_near len from n at m h k l =
    record { low = λ i a b. (omega arith, omega arith); spot = λ i a b. record { more = omega arith; inside = omega arith; is = inl (omega arith) } }

pub pieces_far : (len from n at : ℕ) → from ≤ len → n ≤ len → len - from ≤ at → Pieces len from n at 0 (len - from) (n - 8)
pieces_far len from n at h k l =
    record { low = λ i a b. (omega arith, omega arith); spot = λ i a b. record { more = omega arith; inside = omega arith; is = inr (omega arith) } }

pub pieces_later : {len from n at plus minus lim : ℕ} (p : ℕ) → at ≤ p → Pieces len from n at plus minus lim → Pieces len from n p plus minus lim
pieces_later p h z = record { low = λ i a b. z.low i (omega arith) b; spot = λ i a b. z.spot i (omega arith) b }

-- no place is in a piece that ends at 0
pub pieces_none : (len from n at : ℕ) → Pieces len from n at 0 0 0
pieces_none len from n at = record { low = λ i a b. absurd (omega arith); spot = λ i a b. absurd (omega arith) }
