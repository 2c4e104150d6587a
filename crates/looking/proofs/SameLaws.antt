-- Look and drop answer alike, and drop frees what look showed: `same`, `frees_shown`.
-- Assumes nothing.
use mathlib.Core.Path.{◌≡◌, refl, sym, ap, subst, ◌∙◌}
use mathlib.Core.List.{List, ◌++◌}
use Prim.Native.Nat.{ℕ}
use native.Mathlib.Omega.{arith}
use Rattle.connection.specs.declared.Connection.{Connection}
use Rattle.connection.specs.Parts.{first_held, held_of}
use Rattle.hearing.specs.declared.Shown.{Shown}
use Rattle.hearing.proofs.NumberLaws.{unshown_room}
use Rattle.dropping.specs.Dropping.{drop_of}
use Rattle.dropping.proofs.NumberLaws.{drop_stays, drop_gone, frees}
use Rattle.looking.specs.Looking.{look_of}
use Rattle.looking.specs.Besides.Same.{Alike, Same, FreesShown}
use Rattle.looking.proofs.NumberLaws.{Way, stays, short, lies, joins, way, leaves}

module _ (c : Connection) (store : List ℕ) (i : ℕ) where
  same_by : (scratch : List ℕ) {n : ℕ} → Way c store i scratch n → Alike (look_of c store i scratch).answer (drop_of c store i)
  same_by scratch (stays o u e) =
      let none = unshown_room u in rw (← e, ← drop_stays c store i u) (record { answer = λ q. refl; no_room = λ z. absurd (none z); closing = refl })
  same_by scratch (short n m next f w l e) = rw (← e, ← drop_gone c store i f) (record { answer = λ q. absurd (q refl); no_room = λ z. refl; closing = refl })
  same_by scratch (lies n m next f w e) = rw (← e, ← drop_gone c store i f) (record { answer = λ q. refl; no_room = λ z. absurd (omega arith); closing = refl })
  same_by scratch (joins n m next f w l e) = rw (← e, ← drop_gone c store i f) (record { answer = λ q. refl; no_room = λ z. absurd (omega arith); closing = refl })

pub same : Same
same c store i scratch = let (n, w) = way c store i scratch in same_by c store i scratch w

pub frees_shown : FreesShown
frees_shown c store i scratch s z =
    let l = (look_of c store i scratch).answer in
    let alike : l.shown ≡ (drop_of c store i).shown = (same c store i scratch).answer (λ q. omega arith) in
    subst
    (λ (k : Connection). ((drop_of k store i).shown ≡ l.shown) × (held_of c store i ≡ first_held c store i l.shown.len ++ held_of (drop_of k store i).connection store i))
    (sym ((leaves c store i scratch).good z)) (
      sym alike,
      frees c store i s (sym (ap (λ (x : Shown). x.number) alike) ∙ z)
          ∙ ap (λ (x : Shown). first_held c store i x.len ++ held_of (drop_of c store i).connection store i) (sym alike),
    )
