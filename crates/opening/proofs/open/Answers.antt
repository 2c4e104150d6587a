-- `opening::open` meets its contract: the record that the settings become is in range exactly if they are.
use Rattle.std.proofs.Common.{sym, ◌∙◌, true≢false, arith}
use Rattle.opening.proofs.NumberLaws.{fresh_range, opens_so, opens_not}
use Rattle.opening.proofs.open.Goals as goal
use Rattle.opening.proofs.open.Goals.{in_default-via-in-Some+then-receive-lengths+else-send-lengths, in_default-via-in-Some+else-receive-lengths, in_default-via-in_default}

pub returns-in-Some : goal.returns-in-Some
returns-in-Some c =
    let fresh = c.fresh-connection.ensures in
    let (ok, receive, send) = c.in-Some.ensures in
    let ok = rw fresh at ok in
    let receive = rw fresh at receive in
    let send = rw fresh at send in
    rw fresh (opens_so c.args.settings _ _ (sym (fresh_range c.args.settings) ∙ ok, omega arith, omega arith))

pub returns-in_default : goal.returns-in_default
returns-in_default c =
    let fresh = c.fresh-connection.ensures in
    c.refused.ensures
    ∙ opens_not c.args.settings _ _
    (λ o.
    let (set, long, far) = o in
    elim c.in_default.branch [
      | in_default-via-in-Some+then-receive-lengths+else-send-lengths w ↦
          let send = rw fresh at w.in-Some.ensures.2 in
          omega arith
      | in_default-via-in-Some+else-receive-lengths w ↦
          let receive = rw fresh at w.in-Some.ensures.1 in
          omega arith
      | in_default-via-in_default w ↦
          let out = rw fresh at w.in_default.ensures in
          true≢false (sym (fresh_range c.args.settings ∙ set) ∙ out)
    ])
