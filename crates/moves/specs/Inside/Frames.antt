-- Frames as a walk meets them, by heads.
use Rattle.std.specs.Prelude.{ℕ, zero, suc, Bool, true, false, cond, not, ◌≡◌, ltb, eqb}
use Rattle.std.proofs.Math.Option.{Option, none}
use Rattle.head.specs.declared.Major.{Major}
use Rattle.head.specs.declared.Major.TheVariants.{Number, Bytes, Text, Array, Map, Tag}
use Rattle.head.specs.declared.Initial.{Initial}
use Rattle.item.specs.Grammar.{Frame, One, Items, Elements, Pairs, Value, Chunks, Content, Second, Argument, enter, enter_chunk, nesting}

-- what is left of a frame once an item of it has begun
abbrev pub kept : Frame → Frame
kept One = Items zero
kept (Items zero) = Items zero
kept (Items (suc n)) = Items n
kept Elements = Elements
kept Pairs = Value
kept Value = Pairs
kept (Chunks t) = Chunks t
kept (Content n) = Content n
kept Second = Second
kept (Argument m v k) = Argument m v k

-- no item is wanted any more
abbrev pub spent : Frame → Bool
spent One = false
spent (Items zero) = true
spent (Items (suc n)) = false
spent Elements = false
spent Pairs = false
spent Value = false
spent (Chunks t) = false
spent (Content n) = false
spent Second = false
spent (Argument m v k) = false

-- items, or chunks, are wanted
abbrev pub Holds : Frame → Type 0
Holds One = Unit {0}
Holds (Items n) = Unit {0}
Holds Elements = Unit {0}
Holds Pairs = Unit {0}
Holds Value = Unit {0}
Holds (Chunks t) = Unit {0}
Holds (Content n) = ⊥
Holds Second = ⊥
Holds (Argument m v k) = ⊥

-- what an initial byte asks for there
abbrev pub begins : Frame → ℕ → Initial → Option Frame
begins One d i = enter d i
begins (Items n) d i = enter d i
begins Elements d i = enter d i
begins Pairs d i = enter d i
begins Value d i = enter d i
begins (Chunks t) d i = enter_chunk t i
begins (Content n) d i = none
begins Second d i = none
begins (Argument m v k) d i = none

-- a break may come there
abbrev pub breakable : Frame → Bool
breakable One = false
breakable (Items n) = false
breakable Elements = true
breakable Pairs = true
breakable Value = false
breakable (Chunks t) = true
breakable (Content n) = false
breakable Second = false
breakable (Argument m v k) = false

-- a frame of items of which one at least is wanted
pub record Wants (f : Frame) : Type 0 where
  pub holds : Holds f
  pub unspent : spent f ≡ false
  pub items : (d : ℕ) (i : Initial) → begins f d i ≡ enter d i

-- within d levels there is room for an item of a major type
abbrev pub room_for : Major → ℕ → Bool
room_for Number d = true
room_for Bytes d = true
room_for Text d = true
room_for Array d = ltb d nesting
room_for Map d = ltb d nesting
room_for Tag d = ltb d nesting

-- a chunk at a level of the kind k
abbrev pub chunk_of : Major → ℕ → Bool
chunk_of Number k = false
chunk_of Bytes k = eqb k 4
chunk_of Text k = not (eqb k 4)
chunk_of Array k = false
chunk_of Map k = false
chunk_of Tag k = false

-- an item of a major type may begin at a level of the kind k within d others
abbrev pub may_begin : ℕ → ℕ → Major → Bool
may_begin k d m = cond (ltb k 4) (room_for m d) (chunk_of m k)
