-- `feeding::feed` meets its contract: 23, 20, and else what the steps leave, which the record is put together from.
use mathlib.Core.Path.{◌≡◌, sym, ap, subst, ◌∙◌}
use mathlib.Core.Bool.{true}
use lib.ListN.{length}
use Rattle.wire.specs.Instances.{most}
use Rattle.connection.specs.Closings.{is_open}
use Rattle.connection.specs.Parts.{with_receiving}
use Rattle.base.proofs.Conds.{and_equal}
use Rattle.range.specs.Ranges.{in_range, receives}
use Rattle.feeding.specs.declared.Fed.{Fed}
use Rattle.feeding.specs.Feeding.{Reception, told, answered}
use Rattle.admitting.specs.Inside.{reception}
use Rattle.feeding.specs.Inside.{Sound}
use Rattle.feeding.proofs.Bytes.{open_is, open_parts, sound_given, placed_given, open_by, feed_range, feed_closed, feed_open_lem}
use borrow.Author.Rules.{rules}
use Rattle.feeding.proofs.feed.Goals as goal
use Rattle.feeding.proofs.feed.Goals.{Else-not-receives, Else-not-is_open}

-- behind the tests
is_in_range : (c : Else-not-receives) → receives c.args.c (length c.args.store.now) ≡ true
is_in_range c = sym c.receives.ensures ∙ c.if-not-receives.false

stands_open : (c : Else-not-is_open) → is_open c.args.c.gate ≡ true
stands_open c = sym c.is_open.ensures ∙ c.if-not-is_open.false

pub returns-then-not-receives : goal.returns-then-not-receives
returns-then-not-receives c =
    let a = c.args in
    ap (λ (r : Fed). told r a.store.now) c.refused.ensures
    ∙ sym (feed_range a.c a.store.now a.input.now (sym c.receives.ensures ∙ c.if-not-receives.true))

pub returns-then-not-is_open : goal.returns-then-not-is_open
returns-then-not-is_open c =
    let a = c.args in
    ap (λ (r : Fed). told r a.store.now) c.refused-then-not-is_open.ensures
    ∙ sym
    (feed_closed a.c a.store.now a.input.now (is_in_range (goal.at.returns-then-not-is_open c).Else-not-receives)
    (sym c.is_open.ensures ∙ c.if-not-is_open.true))

pub steps-x-requires : goal.steps-x-requires
steps-x-requires c =
    let k = c.args.c in
    let st = c.args.store.now in
    let many : length k.receiving.held ≡ most = search rules in
    subst (Sound k.settings.party.bundle k.settings.receive) (sym (open_parts k st (open_is _ (stands_open (goal.at.steps-x-requires c).Else-not-is_open))))
    (sound_given k st (is_in_range (goal.at.steps-x-requires c).Else-not-receives) many)

pub invariant_of-intake : goal.invariant_of-intake
invariant_of-intake c =
    let k = c.args.c in
    let ranged = (and_equal {a = in_range k} (is_in_range (goal.at.invariant_of-intake c).Else-not-receives)).0 in
    record { placed = placed_given k ranged }

pub returns : goal.returns
returns c =
    let t = c.steps-x in
    let a = c.args in
    let k = a.c in
    let after = t.new.store in
    let n : Reception = reception k.receiving.starts t.new.held t.result.way t.result.gate after in
    let r : Fed =
    record { number = c.left.result; used = t.result.used; connection = with_receiving k n.receiving t.result.gate } in
    let same : told r after ≡ answered k t.result.used n = rw c.left.ensures in
    let ranged = is_in_range (goal.at.returns c).Else-not-receives in
    let opened = stands_open (goal.at.returns c).Else-not-is_open in
    same
    ∙ open_by k a.store.now a.input.now t.result.used n _ (open_parts k a.store.now (open_is _ opened)) t.ensures.store_after
    t.ensures.used_value
    ∙ sym (feed_open_lem k a.store.now a.input.now ranged opened)
