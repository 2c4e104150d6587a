-- `moves::Wanting::may_begin` meets its contract: kinds below four want items, the others chunks.
use borrow.Author.Tests.{lt-ltb, le-ltb}
use Rattle.moves.proofs.Wanting.may_begin.Goals as goal

pub returns-then-self-lt-BYTES : goal.returns-then-self-lt-BYTES
returns-then-self-lt-BYTES c =
    rw (lt-ltb _ _ c.if-self-lt-BYTES.true) c.room_for.ensures

pub returns : goal.returns
returns c =
    rw (le-ltb _ _ c.if-self-lt-BYTES.false) c.chunk_of.ensures
