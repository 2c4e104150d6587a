-- When a reading answers 0 and when 29 (T2), by what stands at a place. It says over again what `Points` defines, as a relation: a head is one of definite length, an array
-- one of either form.
use Rattle.std.specs.Prelude.{ℕ, ◌+◌, ◌-◌, ◌≤◌, ◌≡◌, List, ◌↔◌, length, Result, Ok, Err}
use Rattle.head.specs.Read.{head_at}
use Rattle.head.specs.declared.read.Head.TheVariants.{Definite, Indefinite, Break}
use Rattle.points.specs.declared.Place.{Place}
use Rattle.points.specs.declared.Place.TheVariants.{Origin, Block}
use Rattle.points.specs.declared.Tip.{Tip}
use Rattle.points.specs.declared.NotAPoint.{NotAPoint}
use Rattle.points.specs.Points.{unsigned, bytes, array, hash_at, point, tip_with, refused, point_of, tip_of, number_of}

-- From place p up to place q stands an array of k elements, which lie from place a up to place b.
pub data ArrayAt (bs : List ℕ) (k : ℕ) : ℕ → ℕ → ℕ → ℕ → Type 0 where
  definite : {p a b : ℕ} → head_at bs p ≡ Definite array k a → ArrayAt bs k p a b b
  indefinite : {p a b q : ℕ} → head_at bs p ≡ Indefinite array a → head_at bs b ≡ Break q → ArrayAt bs k p a b q

-- From place p up to place q stands a point: [], or [slot, hash of 32 bytes].
pub data PointAt (bs : List ℕ) : ℕ → Place → ℕ → Type 0 where
  origin : {p a q : ℕ} → ArrayAt bs 0 p a a q → PointAt bs p Origin q
  block : {p a slot b c q : ℕ} → ArrayAt bs 2 p a (c + 32) q → head_at bs a ≡ Definite unsigned slot b → head_at bs b ≡ Definite bytes 32 c → 32 ≤ length bs - c
      → PointAt bs p (Block (point slot (hash_at bs c))) q

-- From place p up to place q stands a tip: [point, block number].
pub data TipAt (bs : List ℕ) : ℕ → Place → ℕ → ℕ → Type 0 where
  tip : {p a b n c q : ℕ} {place : Place} → ArrayAt bs 2 p a c q → PointAt bs a place b → head_at bs b ≡ Definite unsigned n c → TipAt bs p place n q

-- A reading in numbers: 0 for what is read, with the place and a tip's block number; 29 for what is not, with the origin and 0.
pub record Read : Type 0 where
  pub number : ℕ
  pub place : Place
  pub block : ℕ

abbrev pub point_told : Result Place NotAPoint → Read
point_told (Ok place) = record { number = 0; place = place; block = 0 }
point_told (Err e) = record { number = number_of e; place = Origin; block = 0 }

abbrev pub tip_told : Result Tip NotAPoint → Read
tip_told (Ok t) = record { number = 0; place = t.place; block = t.block }
tip_told (Err e) = record { number = number_of e; place = Origin; block = 0 }

-- T2: 0 if the bytes are exactly one point, or tip, and 29 if they are not
pub data WhenPoint (bs : List ℕ) : ℕ → Type 0 where
  a_point : {place : Place} → PointAt bs 0 place (length bs) → WhenPoint bs 0
  no_point : ((place : Place) → PointAt bs 0 place (length bs) → ⊥) → WhenPoint bs 29

pub data WhenTip (bs : List ℕ) : ℕ → Type 0 where
  a_tip : {place : Place} {n : ℕ} → TipAt bs 0 place n (length bs) → WhenTip bs 0
  no_tip : ((place : Place) (n : ℕ) → TipAt bs 0 place n (length bs) → ⊥) → WhenTip bs 29

-- and with 0 the answer is the one point, or tip, that stands there; with 29 it holds nothing (T3; nothing is lent for writing)
pub record Readings (bs : List ℕ) : Type 0 where
  pub point_exactly : (n : ℕ) → ((point_told (point_of bs)).number ≡ n) ↔ WhenPoint bs n
  pub point_reads : (place : Place) → (point_of bs ≡ Ok place) ↔ PointAt bs 0 place (length bs)
  pub point_refused : (point_told (point_of bs)).number ≡ 29 → point_of bs ≡ Err refused
  pub tip_exactly : (n : ℕ) → ((tip_told (tip_of bs)).number ≡ n) ↔ WhenTip bs n
  pub tip_reads : (place : Place) (n : ℕ) → (tip_of bs ≡ Ok (tip_with place n)) ↔ TipAt bs 0 place n (length bs)
  pub tip_refused : (tip_told (tip_of bs)).number ≡ 29 → tip_of bs ≡ Err refused

abbrev pub ReadsAll : Type 0
ReadsAll = (bs : List ℕ) → Readings bs
