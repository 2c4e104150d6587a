-- Look and drop stand on one judgement (document 02, K4): they answer alike, and drop frees what look showed.
use Rattle.std.specs.Prelude.{ℕ, ◌≡◌, List, ◌++◌}
use Rattle.connection.specs.declared.Connection.{Connection}
use Rattle.connection.specs.Shapes.{Shaped}
use Rattle.connection.specs.Parts.{first_held, held_of}
use Rattle.dropping.specs.declared.Dropped.{Dropped}
use Rattle.dropping.specs.Dropping.{drop_of}
use Rattle.looking.specs.declared.Looked.{Looked}
use Rattle.looking.specs.Looking.{look_of}

-- the same answer and the same closing, except that where look says 18 drop says 0
pub record Alike (l : Looked) (d : Dropped) : Type 0 where
  pub answer : (l.shown.number ≡ 18 → ⊥) → l.shown ≡ d.shown
  pub no_room : l.shown.number ≡ 18 → d.shown.number ≡ 0
  pub closing : l.connection.gate ≡ d.connection.gate

abbrev pub Same : Type 0
Same = (c : Connection) (store : List ℕ) (i : ℕ) (scratch : List ℕ) → Alike (look_of c store i scratch).answer (drop_of c store i)

-- a drop after a good look answers 0 and frees the bytes that look showed: those were held in front of what is held then
abbrev pub FreesShown : Type 0
FreesShown =
    (c : Connection) (store : List ℕ) (i : ℕ) (scratch : List ℕ) → Shaped c
    → let l = (look_of c store i scratch).answer in let d = drop_of l.connection store i in l.shown.number ≡ 0
    → (d.shown ≡ l.shown) × (held_of c store i ≡ first_held c store i l.shown.len ++ held_of d.connection store i)
