-- What one event more adds to what a history tells: all is gathered event by event, so what the event tells stands behind the rest.
-- Assumes nothing.
use mathlib.Core.Path.{◌≡◌, refl}
use mathlib.Core.List.{List, [], ◌∷◌, ◌++◌, append-nil, append_assoc, flat_map, flatten}
use mathlib.Core.Bool.{Bool, true, false, cond}
use Prim.Native.Nat.{ℕ, ◌+◌, ◌≤◌}
use native.Mathlib.Omega.{arith}
use lib.ListN.{length, take, drop}
use lib.Seq.{sets, sets-eq, take_at}
use Rattle.wire.specs.declared.instances.Party.{Party}
use Rattle.promises.specs.Calls.{All}
use Rattle.promises.specs.Effects.{Act, Effect, Past, used_by, bytes_in, acts_by, acts, segment_of, segments}
use Rattle.promises.specs.Fairness.{payload, is_of, sent_by}
use Rattle.promises.specs.History.{put_by, put_for, sent_for}

pub flat_append : {A B : Type 0} (f : A → List B) (xs ys : List A) → flat_map f (xs ++ ys) ≡ flat_map f xs ++ flat_map f ys
unfolding flat_map
flat_append f [] ys = refl
flat_append f (x ∷ xs) ys = rw (flat_append f xs ys, append_assoc)

flat_one : {A B : Type 0} (f : A → List B) (x : A) → flat_map f (x ∷ []) ≡ f x
unfolding flat_map
flat_one f x = append-nil (f x)

pub flat_next : {A B : Type 0} (f : A → List B) (xs : List A) (x : A) → flat_map f (xs ++ (x ∷ [])) ≡ flat_map f xs ++ f x
flat_next f xs x = rw (flat_append f xs (x ∷ []), flat_one f x)

pub flatten_append : {A : Type 0} (xs ys : List (List A)) → flatten (xs ++ ys) ≡ flatten xs ++ flatten ys
unfolding flatten
flatten_append [] ys = refl
flatten_append (x ∷ xs) ys = rw (flatten_append xs ys, append_assoc)

pub flatten_one : {A : Type 0} (mine : Bool) (xs : List A) → flatten (cond mine (xs ∷ []) []) ≡ cond mine xs []
unfolding flatten
flatten_one true xs = append-nil xs
flatten_one false xs = refl

-- what holds of each of two lists holds of each of both
pub all_append : {A : Type 0} (P : A → Type 0) (xs ys : List A) → All P xs → All P ys → All P (xs ++ ys)
all_append P [] ys m n = n
all_append P (x ∷ xs) ys (h, m) n = (h, all_append P xs ys m n)

-- ---- one event

-- what an act adds to what is gathered by f: what it has; nothing, if f sees nothing in it
module _ {B : Type 0} (f : Act → List B) where
  pub act_adds : (mine : Bool) (a : Act) → flat_map f (cond mine (a ∷ []) []) ≡ cond mine (f a) []
  unfolding flat_map
  act_adds true a = append-nil (f a)
  act_adds false a = refl

  pub act_unseen : (mine : Bool) (a : Act) → f a ≡ [] → flat_map f (cond mine (a ∷ []) []) ≡ []
  unfolding flat_map
  act_unseen true a e = rw e
  act_unseen false a e = refl

-- the bytes at the front of a buffer
pub front : (buf xs : List ℕ) (n : ℕ) → length xs ≡ n → n ≤ length buf → take n (sets buf 0 xs) ≡ xs
front buf xs n e h = rw (sets-eq xs buf 0 (omega arith)) (take_at xs (drop (0 + length xs) buf) n e)

-- ---- one event more

pub sent_append : (us : Party) (i : ℕ) (ss ts : List (List ℕ)) → sent_by us i (ss ++ ts) ≡ sent_by us i ss ++ sent_by us i ts
unfolding sent_by
sent_append us i ss ts = flat_append (λ (bs : List ℕ). cond (is_of us i bs) (payload bs) []) ss ts

module _ (past : Past) (e : Effect) where
  pub segments_next : segments (past ++ (e ∷ [])) ≡ segments past ++ segment_of e
  unfolding segments
  segments_next = flat_next segment_of past e

  pub bytes_next : bytes_in (past ++ (e ∷ [])) ≡ bytes_in past ++ used_by e
  unfolding bytes_in
  bytes_next = flat_next used_by past e

  module _ (i : ℕ) where
    pub sent_next : (us : Party) → sent_for us i (past ++ (e ∷ [])) ≡ sent_for us i past ++ sent_by us i (segment_of e)
    sent_next us = rw (segments_next, sent_append us i (segments past) (segment_of e))

    pub acts_next : acts i (past ++ (e ∷ [])) ≡ acts i past ++ acts_by i e
    unfolding acts
    acts_next = flat_next (acts_by i) past e

    pub put_next : put_for i (past ++ (e ∷ [])) ≡ put_for i past ++ flat_map put_by (acts_by i e)
    unfolding put_for
    put_next = rw (acts_next, flat_append put_by (acts i past) (acts_by i e))
