-- What the part is that follows a look: the bytes of the first message held, in the store or in scratch.
use Rattle.std.specs.Prelude.{ℕ, ◌+◌, ◌≡◌, List, [], get_or}
use Rattle.std.specs.Borrow.{Bor}
use Rattle.ring.specs.Ring.{base_of}
use Rattle.connection.specs.declared.Connection.{Connection}
use Rattle.connection.specs.Parts.{first_held}
use Rattle.looking.specs.declared.Place.{Place}
use Rattle.looking.specs.Looking.{Told, look_of, Shows}
use Rattle.looking.specs.Besides.Numbers.{InOneRun, Wrapped}

-- r lies where the message lies in one run, in the area of instance i from its start place on; else at scratch's front
pub data Lies (c : Connection) (i len : ℕ) (store scratch r : Bor (List ℕ)) : Type 0 where
  in_area : InOneRun c i len → r.ref_ptr ≡ (store.ref_ptr.0, store.ref_ptr.1 + (base_of c.settings.receive i + get_or c.receiving.starts i 0))
      → Lies c i len store scratch r
  at_front : Wrapped c i len → r.ref_ptr ≡ (scratch.ref_ptr.0, scratch.ref_ptr.1 + 0) → Lies c i len store scratch r

-- The part that is handed out of the store, and of scratch as look left it, at the place and of the length that look told.
pub record Follows (t : Told) (store scratch r : Bor (List ℕ)) : Type 0 where
  pub after : scratch.now ≡ t.scratch
  pub there : Shows t.answer.place t.answer.shown.len store scratch r

-- with 0, the first message held, in the store or in scratch; without a message, no bytes
pub record PartOf (c : Connection) (i : ℕ) (t : Told) (store scratch r : Bor (List ℕ)) : Type 0 where
  pub message : t.answer.shown.number ≡ 0 → r.now ≡ first_held c store.now i t.answer.shown.len
  pub memory : t.answer.shown.number ≡ 0 → Lies c i t.answer.shown.len store scratch r
  pub none : (t.answer.shown.number ≡ 0 → ⊥) → r.now ≡ []

abbrev pub PartShown : Type 0
PartShown =
    (c : Connection) (i : ℕ) (before : List ℕ) (store scratch r : Bor (List ℕ))
    → let t = look_of c store.now i before in Follows t store scratch r → PartOf c i t store scratch r

-- T1 of the part: its contract leaves one place in memory and one run of bytes, which is all that a slice is
abbrev pub OnePart : Type 0
OnePart = (p : Place) (len : ℕ) (store scratch r q : Bor (List ℕ)) → Shows p len store scratch r → Shows p len store scratch q → (r.ref_ptr ≡ q.ref_ptr) × (r.now ≡ q.now)
