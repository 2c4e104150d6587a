-- T1 for the eight operations, and for the part that follows a look: each contract, as the source has it, determines how a call ends, and that is what the
-- promises speak of.
use Rattle.std.specs.Prelude.{◌≡◌, List, ℕ, length}
use contract.Lifetimes.{Lfts}
use denote.Triple.Entry.{Args, Res}
use denote.Triple.Clauses.{Ended, Lasts, at_exit}
use Rattle.base.specs.Once.{Says, Once}
use Rattle.opening.specs.Openings.{open_of}
use Rattle.build.specs.Building.{build_of, told}
use Rattle.opening.specs.contracts.open as opening
use Rattle.opening.proofs.open.Reads as opening_says
use Rattle.feeding.specs.contracts.feed as feed
use Rattle.feeding.proofs.feed.Reads as feed_says
use Rattle.looking.specs.contracts.look as look
use Rattle.looking.proofs.look.Reads as look_says
use Rattle.looking.specs.contracts.part as part
use Rattle.looking.proofs.part.Reads as part_says
use Rattle.dropping.specs.contracts.drop as drop
use Rattle.dropping.proofs.drop.Reads as drop_says
use Rattle.build.specs.contracts.build as build
use Rattle.build.proofs.build.Reads as build_says
use Rattle.putting.specs.contracts.put as put
use Rattle.putting.proofs.put.Reads as put_says
use Rattle.sending.specs.contracts.next_segment as next_segment
use Rattle.sending.proofs.next_segment.Reads as next_segment_says
use Rattle.telling.specs.contracts.status as status
use Rattle.telling.proofs.status.Reads as status_says
use Rattle.promises.specs.Calls as calls
use Rattle.promises.specs.Calls.{step, world}
use Rattle.promises.specs.History.{part_at}

-- Part hands out a slice, of which the contract leaves one place in memory and one run of bytes, on every input.
abbrev pub OncePart : Type 0
OncePart =
    (lives : Lfts (part.ended).signature.lifetimes) (a : Args (part.ended).signature lives) (r q : Res (part.ended).signature lives)
    (after after' : Lasts part.ended lives a) → part_says.Post lives a r (at_exit part.ended lives a after) → part_says.Post lives a q (at_exit part.ended lives a after')
    → part_says.Pre lives a × (r.ref_ptr ≡ q.ref_ptr) × (r.now ≡ q.now)

pub record Contracts : Type 0 where
  pub opening : Once opening.ended opening_says.Pre opening_says.Post
  pub feed : Once feed.ended feed_says.Pre feed_says.Post
  pub look : Once look.ended look_says.Pre look_says.Post
  pub part : OncePart
  pub drop : Once drop.ended drop_says.Pre drop_says.Post
  pub build : Once build.ended build_says.Pre build_says.Post
  pub put : Once put.ended put_says.Pre put_says.Post
  pub next_segment : Once next_segment.ended next_segment_says.Pre next_segment_says.Post
  pub status : Once status.ended status_says.Pre status_says.Post

-- P holds of arguments, result and the memory lent for writing, however a call ends that the contract allows
abbrev pub Ends : (t : Ended) → Says t
    → ((lives : Lfts t.signature.lifetimes) (a : Args t.signature lives) → Res t.signature lives → Lasts t lives a → Type 0) → Type 0
Ends t Post P =
    (lives : Lfts t.signature.lifetimes) (a : Args t.signature lives) (r : Res t.signature lives) (after : Lasts t lives a)
    → Post lives a r (at_exit t lives a after) → P lives a r after

-- Whatever a contract allows a call to end with is what `step` has, with any store that the call is not lent; for open what `Opened` and `first` have,
-- for part what `part_at` has, and for build what `Builds` has. Arguments go by their names in the source.
pub record Tied : Type 0 where
  pub opening : Ends opening.ended opening_says.Post (λ _ (settings, (receive, (send, _))) r _.
      open_of settings (length receive.now) (length send.now) ≡ r)
  pub feed : Ends feed.ended feed_says.Post (λ _ (c, (store, (input, _))) r (_, (after, _)). (send : List ℕ)
      → step (world c store.now send) (calls.feed input.now)
      ≡ record { world = world r.connection after send; answer = (r.number, r.used) })
  pub look : Ends look.ended look_says.Post (λ _ (c, (store, (instance, (scratch, _)))) r (_, (_, (_, (after, _)))). (send : List ℕ)
      → step (world c store.now send) (calls.look instance scratch.now)
      ≡ record { world = world r.connection store.now send; answer = (r.shown.number, calls.looked (calls.said_by r.shown) r.place after) })
  pub part : Ends part.ended part_says.Post (λ _ (store, (scratch, (place, (len, _)))) r _. r.now ≡ part_at place len store.now scratch.now)
  pub drop : Ends drop.ended drop_says.Post (λ _ (c, (store, (instance, _))) r _. (send : List ℕ)
      → step (world c store.now send) (calls.drop instance)
      ≡ record { world = world r.connection store.now send; answer = (r.shown.number, calls.said_by r.shown) })
  pub build : Ends build.ended build_says.Post
      (λ _ (bundle, (instance, (kind, (asked, (numbers, (runs, (first, (second, (buf, _))))))))) r (_, (_, (_, (_, (_, (_, (_, (_, (after, _))))))))).
      build_of bundle instance kind asked numbers.now runs first.now second.now buf.now ≡ told r after)
  pub put : Ends put.ended put_says.Post (λ _ (c, (store, (instance, (message, _)))) r (_, (after, _)). (receive : List ℕ)
      → step (world c receive store.now) (calls.put instance message.now)
      ≡ record { world = world r.connection receive after; answer = (r.number, tt) })
  pub next_segment : Ends next_segment.ended next_segment_says.Post (λ _ (c, (store, (time, (buf, _)))) r (_, (_, (_, (after, _)))). (receive : List ℕ)
      → step (world c receive store.now) (calls.next time buf.now)
      ≡ record { world = world r.connection receive store.now; answer = (r.number, calls.made r.len after) })
  pub status : Ends status.ended status_says.Post (λ _ (c, _) r _. (receive send : List ℕ)
      → step (world c receive send) calls.status ≡ record { world = world c receive send; answer = (r.number, r) })
