-- `moves::opened` meets its contract: each arm opens the level of its major type, and no other type has an indefinite length.
use mathlib.Core.Logic.{⊎_elim}
use Rattle.moves.proofs.AnyHead.{no_number, no_tag, open_bytes, open_text, open_array, open_map}
use Rattle.moves.proofs.opened.Goals as goal

pub returns-in-Number : goal.returns-in-Number
returns-in-Number c =
    let a = c.args in
    ⊎_elim
    (λ m. rw m (λ xs k n d l g s h r e i. no_number xs a.at k n d l s i h))
    (λ m. rw m (λ xs k n d l g s h r e i. no_tag xs a.at k n d l s i h))
    c.in-Number.is

pub returns-in-Bytes : goal.returns-in-Bytes
returns-in-Bytes c =
    let a = c.args in rw c.in-Bytes.is (λ xs k n d l g s h r e i. open_bytes xs a.at k n d l s a.left e g i h r)

pub returns-in-Text : goal.returns-in-Text
returns-in-Text c =
    let a = c.args in rw c.in-Text.is (λ xs k n d l g s h r e i. open_text xs a.at k n d l s a.left e g i h r)

pub returns-in-Array : goal.returns-in-Array
returns-in-Array c =
    let a = c.args in rw c.in-Array.is (λ xs k n d l g s h r e i. open_array xs a.at k n d l s a.left e g i h r)

pub returns-in-Map : goal.returns-in-Map
returns-in-Map c =
    let a = c.args in rw c.in-Map.is (λ xs k n d l g s h r e i. open_map xs a.at k n d l s a.left e g i h r)
