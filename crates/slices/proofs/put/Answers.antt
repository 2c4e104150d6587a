-- `slices::put` meets its contract: the four words of the hash lie behind one another.
use Rattle.std.proofs.Common.{◌≡◌, ◌+◌, ◌-◌, ◌*◌, [], ◌∷◌, arith}
use Rattle.slices.proofs.RecordLaws.{stored}
use Rattle.slices.proofs.put.Goals as goal

pub returns-clause-hashes : goal.returns-clause-hashes
returns-clause-hashes c =
    let a = c.args in
    let h = a.p.hash in
    let at = a.i * 4 in
    let four : at + 4 - at ≡ 4 = omega arith in
    rw (c.copy_from_slice.ensures.after, four) (stored a.hashes.now at (h.a ∷ h.b ∷ h.c ∷ h.d ∷ []) (omega arith))
