-- `feeding::Intake::part` meets its contract: a run of payload bytes, a whole header or a header byte leads on.
use mathlib.Core.Path.{◌≡◌}
use lib.ListN.{length}
use native.Mathlib.Omega.{arith}
use Rattle.wire.specs.Segments.{header_length}
use Rattle.feeding.proofs.Bytes.{sound_under, steps_header, steps_kept}
use Rattle.feeding.proofs.Headers.{steps_whole}
use borrow.Author.Rules.{rules}
use Rattle.feeding.proofs.Intake.part.Goals as goal

pub kept-requires : goal.kept-requires
kept-requires c =
    let s = c in
    (sound_under {w = s.args.w} s.args.self.placed s.requires.sound (search rules), s.requires.at_in_bounds)

pub returns-then-w-gt0 : goal.returns-then-w-gt0
returns-then-w-gt0 c =
    let s = c in
    steps_kept s.requires.sound (omega arith) c.kept.ensures

pub header_whole-requires : goal.header_whole-requires
header_whole-requires c = omega arith

pub returns-then-self-at-ge-HEADER : goal.returns-then-self-at-ge-HEADER
returns-then-self-at-ge-HEADER c =
    let s = c in
    let wide : length s.args.w.header.bytes ≡ header_length = search rules in
    steps_whole s.requires.sound (omega arith) (omega arith) (omega arith) wide c.header_whole.ensures

pub returns : goal.returns
returns c =
    let s = c in
    steps_header s.requires.sound s.requires.at_in_bounds (omega arith) c.headed.ensures
