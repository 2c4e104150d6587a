-- `build::build_spoken` meets its contract: the bundle is known, and has the instance, or not; the parts are given as they should be and there is
-- such a form, or not.
use Prim.Native.Nat.{◌≤◌}
use mathlib.Core.Path.{◌≡◌, sym, ap, ◌∙◌}
use mathlib.Core.Bool.{true, false}
use native.Mathlib.Omega.{arith}
use borrow.Author.Tests.{le-ltb}
use Rattle.wire.specs.Instances.{known, instances}
use Rattle.rows.specs.Spoken.{speaks}
use Rattle.build.specs.declared.Built.{Built}
use Rattle.build.specs.Building.{told, handed, build_of}
use Rattle.build.proofs.BuildLaws.{no_message, kind_not_given, kind_unknown, kind_known, build_spoken}
use Rattle.build.proofs.build_spoken.Goals as goal

pub returns-then-not-known : goal.returns-then-not-known
unfolding build_of
returns-then-not-known c ns runs first second are =
    let a = c.args in
    let k : known a.bundle ≡ false = sym c.known.ensures ∙ c.if-not-known.true in
    rw (k)

pub returns-then-count-instance : goal.returns-then-count-instance
unfolding build_of
returns-then-count-instance c ns runs first second are =
    let a = c.args in
    let k : known a.bundle ≡ true = sym c.known.ensures ∙ c.if-not-known.false in
    let h : instances a.bundle ≤ a.instance = omega (arith, c.count.ensures.0) in
    rw (k, le-ltb a.instance (instances a.bundle) h)

pub protocol-p-requires : goal.protocol-p-requires
protocol-p-requires c = omega (arith, c.count.ensures.0)

pub returns-in_err-given : goal.returns-in_err-given
returns-in_err-given c ns runs first second are =
    let a = c.args in
    let buf = a.buf.now in
    let none = c.in_err-given.ensures in
    let no-message = kind_not_given (speaks a.bundle a.instance) a.kind a.asked ns runs first second (let e = none.ok_part in rw e at are) in
    ap (λ (b : Built). told b buf) (no_message _ _ _ c.from_residual.ensures.1 none.value none.ok_part)
    ∙ ap (handed buf) (sym no-message)
    ∙ build_spoken a.bundle a.instance a.kind a.asked ns runs first second buf (sym c.known.ensures ∙ c.if-not-known.false) (omega (arith, c.count.ensures.0))

pub returns-in_err-row : goal.returns-in_err-row
returns-in_err-row c ns runs first second are =
    let a = c.args in
    let buf = a.buf.now in
    let e = c.in_ok-given.ensures.ok_part in
    let none = c.in_err-row.ensures in
    let found = rw c.protocol-p.ensures at c.find.ensures in
    let no-message = kind_unknown (speaks a.bundle a.instance) a.kind a.asked ns runs first second c.in_ok-given.given (let now = rw e at are in now.1) (let now = rw e at are in now.0) found none.ok_part in
    ap (λ (b : Built). told b buf) (no_message _ _ _ c.from_residual-in_err-row.ensures.1 none.value none.ok_part)
    ∙ ap (handed buf) (sym no-message)
    ∙ build_spoken a.bundle a.instance a.kind a.asked ns runs first second buf (sym c.known.ensures ∙ c.if-not-known.false) (omega (arith, c.count.ensures.0))

pub build_form-requires : goal.build_form-requires
build_form-requires c =
    let e = c.in_ok-row.ensures.ok_part in
    let given = c.in_ok-given.ensures.ok_part in
    ((rw e at c.find.ensures).0, rw given at c.requires)

pub returns : goal.returns
returns c ns runs first second are =
    let a = c.args in
    let buf = a.buf.now in
    let e = c.in_ok-given.ensures.ok_part in
    let found = rw c.protocol-p.ensures at c.find.ensures in
    c.build_form.ensures
    ∙ ap (handed buf)
    (kind_known (speaks a.bundle a.instance) a.kind a.asked ns runs first second c.in_ok-given.given (let now = rw e at are in now.1) (let now = rw e at are in now.0) found c.in_ok-row.ensures.ok_part)
    ∙ build_spoken a.bundle a.instance a.kind a.asked ns runs first second buf (sym c.known.ensures ∙ c.if-not-known.false) (omega (arith, c.count.ensures.0))
