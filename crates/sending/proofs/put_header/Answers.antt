-- `sending::put_header` meets its contract: the numbers of the instance are those of the header, and they fit.
use mathlib.Core.Path.{◌∙◌}
use Rattle.sending.proofs.SendingLaws.{header_fits}
use borrow.Author.Rules.{rules}
use Rattle.sending.proofs.put_header.Goals as goal

pub write-requires : goal.write-requires
write-requires c =
    let s = c in
    let a = s.args in (
      s.requires.2,
      rw (c.mode.ensures, c.protocol.ensures.0)
          (header_fits a.party a.i a.time a.n s.requires.0 (search rules) s.requires.1),
    )

pub returns : goal.returns
returns c =
    c.write.ensures
    ∙ rw (c.mode.ensures, c.protocol.ensures.0)
