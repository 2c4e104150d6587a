-- `lister_core::Listing::step` meets its contract: the run is used up, a payload is under way, or a header.
use Rattle.std.proofs.Common.{drop, arith, length-drop, rules}
use Rattle.lister_core.proofs.ListerLaws.{stepped_none, stepped_payload, stepped_header}
use Rattle.lister_core.proofs.Listing.step.Goals as goal

pub returns-then-run-from : goal.returns-then-run-from
returns-then-run-from c = let a = c.args in stepped_none a.self a.run.now a.from c.if-run-from.true

pub returns-then-self-gt0 : goal.returns-then-self-gt0
returns-then-self-gt0 c =
    let a = c.args in
    let e = length-drop a.from a.run.now in
    stepped_payload a.self (drop a.from a.run.now) c.payload.result c.if-self-gt0.true (omega arith)
    (rw e c.payload.ensures.1) (rw e c.payload.ensures.0)

pub returns : goal.returns
returns c =
    let a = c.args in
    stepped_header a.self a.run.now a.from c.header_byte.result (search rules) (search rules) c.header_byte.ensures.1
    c.header_byte.ensures.0
