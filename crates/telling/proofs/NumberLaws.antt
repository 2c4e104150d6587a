-- Which number status answers: the range decides.
-- Assumes nothing.
use mathlib.Core.Path.{◌≡◌}
use Prim.Native.Nat.{ℕ}
use Rattle.base.proofs.Conds.{by_test, exactly_when}
use Rattle.connection.specs.declared.Connection.{Connection}
use Rattle.range.specs.Ranges.{in_range}
use Rattle.telling.specs.Statuses.{status_of}
use Rattle.telling.specs.Besides.Numbers.{When, out_of_range, done, Exactly}

pub answered : (c : Connection) {n : ℕ} → When c n → (status_of c).number ≡ n
unfolding status_of
answered c (out_of_range r) = rw r
answered c (done r) = rw r

when : (c : Connection) → (n : ℕ) × When c n
when c = by_test (in_range c) (λ t. (0, done t)) (λ t. (23, out_of_range t))

pub exactly : Exactly
exactly c n = let (k, w) = when c in exactly_when (When c) (answered c w) w (answered c)
