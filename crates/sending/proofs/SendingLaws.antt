-- Laws of next segment: what is sent is small, whoever is chosen is an instance, and each way out of the code is the
-- definition.
-- Assumes nothing.
use mathlib.Core.Path.{◌≡◌, sym, ap, subst, ◌∙◌}
use mathlib.Core.Bool.{true, false}
use mathlib.Core.List.{List, ◌++◌}
use Prim.Native.Nat.{ℕ, ◌+◌, ◌≤◌, ◌<◌, ◌^◌}
use native.Mathlib.Omega.{arith}
use lib.ListN.{length, get_or, take, length-append}
use lib.Seq.{sets}
use borrow.Author.Tests.{lt-ltb, le-ltb}
use Rattle.base.proofs.ListLaws.{sets_append}
use Rattle.base.proofs.NumberLaws.{length_octets}
use Rattle.wire.specs.declared.segment.Segment.{Segment}
use Rattle.wire.specs.declared.instances.Party.{Party}
use Rattle.wire.specs.Segments.{header_length, encoded}
use Rattle.wire.specs.Inside.{Fits}
use Rattle.wire.specs.Instances.{instances, mode_of, protocol_of}
use Rattle.wire.proofs.InstanceLaws.{mode_low, protocol_low}
use Rattle.ready.specs.Ready.{word_of, chosen, turn_after}
use Rattle.ready.specs.Inside.{chosen_in}
use Rattle.std.specs.Prelude.{Option, Some, None}
use Rattle.ready.proofs.ReadyLaws.{Low, chosen_word, chosen_low}
use Rattle.connection.specs.declared.Connection.{Connection}
use Rattle.connection.specs.Areas.{starts_past, counts_less}
use Rattle.connection.specs.Closings.{is_open}
use Rattle.range.specs.Ranges.{in_range, sends}
use Rattle.range.proofs.RangeLaws.{ranged, sends_both}
use Rattle.connection.specs.declared.Sending.{Sending}
use Rattle.connection.specs.Parts.{with_sending, first_waiting}
use Rattle.range.specs.Besides.Ranges.{InSend}
use Rattle.sending.specs.NextSegment.{Told, told, refused, much, headed, payload_of, sent_of, serve, by_choice, chosen_of, next_of}
use Rattle.sending.specs.Inside.{Chosen}

-- a header has eight bytes
pub header_long : (s : Segment) → length (encoded s) ≡ header_length
unfolding encoded
header_long s = rw (length-append, length-append, length_octets 4, length_octets 2, length_octets 2)

-- header and payload stored one after the other
pub joined : (l : List ℕ) (s : Segment) (p : List ℕ) → sets (sets l 0 (encoded s)) header_length p ≡ sets l 0 (encoded s ++ p)
joined l s p = sym (sets_append l 0 (encoded s) p ∙ rw (header_long s))

pub header_fits : (us : Party) (i time n : ℕ) → i < instances us.bundle → time < 2 ^ 32 → n ≤ 65535
    → Fits (record { time = time; mode = mode_of us i; protocol = protocol_of us.bundle i; len = n })
header_fits us i time n h t l = record { time = t; mode = mode_low us i; protocol = protocol_low us.bundle i h; len = omega arith }

-- what is sent, field by field
pub sent_is : (b i n many : ℕ) (w : Sending) (caps starts waiting : List ℕ) (turn : ℕ) → starts ≡ starts_past caps w.starts i n
    → waiting ≡ counts_less w.waiting i n → turn ≡ turn_after many i w.turn → many ≡ instances b
    → record { starts = starts; waiting = waiting; turn = turn } ≡ sent_of b w caps i n
sent_is b i n many w caps starts waiting turn e f g h = rw (e, f, g, h)

-- ---- the ways out of serving an instance

pub much_small : (c : Connection) (store : List ℕ) (i : ℕ) → InSend c store i → (much c i ≤ 65535) × (much c i ≤ get_or c.sending.waiting i 0)
much_small c store i w = let l = (ranged c (sends_both c (length store) w.0).0).set.limit in (omega arith, omega arith)

module _ (c : Connection) (store : List ℕ) (time : ℕ) (buf : List ℕ) (i n : ℕ) (e : n ≡ much c i) where
  pub serve_short : length buf < header_length + n → told (refused c 18) buf ≡ serve c store time buf i
  unfolding serve
  serve_short h = rw (← e, lt-ltb (length buf) (header_length + n) h)

  pub serve_made : (k : Connection) (w : Sending) (full : List ℕ) → header_length + n ≤ length buf
      → w ≡ sent_of c.settings.party.bundle c.sending c.settings.send i n → k ≡ with_sending c w
      → full ≡ sets (sets buf 0 (encoded (headed c.settings.party time i n))) header_length
      (first_waiting c store i n)
      → told (record { number = 0; len = header_length + n; connection = k }) full ≡ serve c store time buf i
  unfolding serve
  serve_made k w full h ew ek ef =
      let header = headed c.settings.party time i n in
      rw (← e, le-ltb (length buf) (header_length + n) h, ek, ew, ef, joined buf header (first_waiting c store i n))

-- header and payload at once
abbrev pub served : Connection → List ℕ → ℕ → List ℕ → ℕ → Told
served c store time buf i =
    let s = c.settings in
    told (record { number = 0; len = header_length + much c i; connection = with_sending c (sent_of s.party.bundle c.sending s.send i (much c i)) })
    (sets buf 0 (encoded (headed s.party time i (much c i)) ++ payload_of c store i))

pub serve_all : (c : Connection) (store : List ℕ) (time : ℕ) (buf : List ℕ) (i : ℕ) → header_length + much c i ≤ length buf
    → served c store time buf i ≡ serve c store time buf i
unfolding serve
serve_all c store time buf i h = rw (le-ltb (length buf) (header_length + much c i) h)

-- ---- the ways out of next segment

module _ (c : Connection) (store : List ℕ) (time : ℕ) (buf : List ℕ) where
  pub next_unranged : sends c (length store) ≡ false → told (refused c 23) buf ≡ next_of c store time buf
  unfolding next_of
  next_unranged r = rw r

  module _ (r : sends c (length store) ≡ true) where
    pub next_closed : is_open c.gate ≡ false → told (refused c 20) buf ≡ next_of c store time buf
    unfolding next_of
    next_closed o = rw (r, o)

    pub next_served : is_open c.gate ≡ true → (x : Option ℕ) → x ≡ chosen_of c
        → by_choice c store time buf x ≡ next_of c store time buf
    unfolding next_of
    next_served o x e = rw (r, o, e)

-- whoever the word chooses is whom the counts choose, and an instance
pub by_word : (c : Connection) (n word : ℕ) (x : Option ℕ) → in_range c ≡ true → n ≡ instances c.settings.party.bundle
    → length (take n c.sending.waiting) ≡ n → word ≡ word_of (take n c.sending.waiting)
    → x ≡ chosen_in n word c.sending.turn → x ≡ chosen_of c
by_word c n word x r many long w e =
    let t = (ranged c r).turn in
    let ws = take n c.sending.waiting in
    e ∙ ap (λ (k : ℕ). chosen_in n k c.sending.turn) w
    ∙ ap (λ (m : ℕ). chosen_in m (word_of ws) c.sending.turn) (sym long)
    ∙ chosen_word ws c.sending.turn (omega arith) (omega arith)
    ∙ ap (λ (m : ℕ). chosen (take m c.sending.waiting) c.sending.turn) many

pub is_chosen : (c : Connection) (store : List ℕ) (n word : ℕ) (x : Option ℕ) → sends c (length store) ≡ true → n ≡ instances c.settings.party.bundle
    → x ≡ chosen_in n word c.sending.turn → Chosen c store x
is_chosen c store n word x r many e =
    let t = (ranged c (sends_both c (length store) r).0).turn in
    of x (subst (Low n) (sym e) (chosen_low n word c.sending.turn (omega arith) (omega arith)))
  where
    of : (x : Option ℕ) → Low n x → Chosen c store x
    of None l = tt
    of (Some i) l = (r, omega arith)
