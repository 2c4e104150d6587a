-- Laws of what a view shows.
use Rattle.std.proofs.Common.{◌≡◌, length}
use Rattle.ring.specs.declared.view.View.{View}
use Rattle.ring.specs.Inside.{seen}
use Rattle.ring.proofs.Around.{around_length}

-- as many bytes as the view has
pub seen_length : (v : View) → length (seen v) ≡ v.len
seen_length v = around_length v.bytes.now v.from v.len v.once_round
