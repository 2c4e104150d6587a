-- Well-formed data items (RFC 8949, section 3 and appendix C), within a nesting.
use Rattle.std.specs.Prelude.{ℕ, zero, suc, ◌+◌, ◌*◌, ◌-◌, ◌≤◌, List, [], ◌∷◌, Bool, true, false, cond, ◌≡◌}
use Rattle.std.proofs.Math.Option.{Option, none, some}
use Rattle.head.specs.Initial.{initial}
use Rattle.head.specs.declared.Major.{Major}
use Rattle.head.specs.declared.Major.TheVariants.{Number, Bytes, Text, Array, Map, Tag}
use Rattle.head.specs.declared.Initial.{Initial}
use Rattle.head.specs.declared.Initial.TheVariants.{Short, Long, Indefinite, Simple, Break, Reserved}

-- What is wanted next.
pub data Frame : Type 0 where
  -- a data item
  One : Frame
  -- so many data items
  Items : ℕ → Frame
  -- the elements of an array of indefinite length, up to a break
  Elements : Frame
  -- the pairs of a map of indefinite length, up to a break
  Pairs : Frame
  -- the value of such a pair, and then pairs up to a break
  Value : Frame
  -- the chunks of a string of indefinite length, text or bytes, up to a break
  Chunks : Bool → Frame
  -- so many bytes of a string
  Content : ℕ → Frame
  -- the byte of a simple value
  Second : Frame
  -- the argument of a head: the bytes so far say v, and k + 1 are to come
  Argument : Major → ℕ → ℕ → Frame

-- What follows a head whose argument is v: a string's bytes, an array's items, a map's keys and values, a tag's item.
abbrev pub content : Major → ℕ → Frame
content Number v = Content 0
content Bytes v = Content v
content Text v = Content v
content Array v = Items v
content Map v = Items (v * 2)
content Tag v = One

-- Within a nesting of which nothing is left there is no array, map or tag; else what is in them has one less.
abbrev pub within : ℕ → Frame → Option Frame
within zero f = none
within (suc d) f = some f

-- Each array, map or tag counts one (document 01).
unfoldable pub nest : Major → ℕ → Frame → Option Frame
nest Number d f = some f
nest Bytes d f = some f
nest Text d f = some f
nest Array d f = within d f
nest Map d f = within d f
nest Tag d f = within d f

-- Strings, arrays and maps may have an indefinite length.
unfoldable pub indefinite : Major → ℕ → Option Frame
indefinite Number d = none
indefinite Bytes d = some (Chunks false)
indefinite Text d = some (Chunks true)
indefinite Array d = within d Elements
indefinite Map d = within d Pairs
indefinite Tag d = none

-- What the initial byte of an item asks for, if an item may begin with it: a break is no item.
unfoldable pub enter : ℕ → Initial → Option Frame
enter d (Short m v) = nest m d (content m v)
enter d (Long m k) = nest m d (Argument m 0 k)
enter d (Indefinite m) = indefinite m d
enter d Simple = some Second
enter d Break = none
enter d Reserved = none

-- A chunk is a string of the same major type.
unfoldable pub alike : Bool → Major → Frame → Option Frame
alike text Number f = none
alike text Bytes f = cond text none (some f)
alike text Text f = cond text (some f) none
alike text Array f = none
alike text Map f = none
alike text Tag f = none

-- What the initial byte of a chunk asks for: a chunk has a definite length.
unfoldable pub enter_chunk : Bool → Initial → Option Frame
enter_chunk text (Short m v) = alike text m (content m v)
enter_chunk text (Long m k) = alike text m (Argument m 0 k)
enter_chunk text (Indefinite m) = none
enter_chunk text Simple = none
enter_chunk text Break = none
enter_chunk text Reserved = none

-- The grammar: reading what f wants within the nesting d takes us from the bytes bs to the bytes cs that are left.
pub data Reads : ℕ → Frame → List ℕ → List ℕ → Type 0 where
  -- an item is its initial byte and what that asks for
  one : {d b : ℕ} {f : Frame} {bs cs : List ℕ} → enter d (initial b) ≡ some f → Reads (d - 1) f bs cs → Reads d One (b ∷ bs) cs
  -- so many items
  no_more : {d : ℕ} {bs : List ℕ} → Reads d (Items zero) bs bs
  item : {d n : ℕ} {bs cs ds : List ℕ} → Reads d One bs cs → Reads d (Items n) cs ds → Reads d (Items (suc n)) bs ds
  -- items up to a break
  end_array : {d b : ℕ} {bs : List ℕ} → initial b ≡ Break → Reads d Elements (b ∷ bs) bs
  element : {d : ℕ} {bs cs ds : List ℕ} → Reads d One bs cs → Reads d Elements cs ds → Reads d Elements bs ds
  -- keys and values up to a break in place of a key
  end_map : {d b : ℕ} {bs : List ℕ} → initial b ≡ Break → Reads d Pairs (b ∷ bs) bs
  key : {d : ℕ} {bs cs ds : List ℕ} → Reads d One bs cs → Reads d Value cs ds → Reads d Pairs bs ds
  value : {d : ℕ} {bs cs ds : List ℕ} → Reads d One bs cs → Reads d Pairs cs ds → Reads d Value bs ds
  -- chunks up to a break
  end_string : {d b : ℕ} {text : Bool} {bs : List ℕ} → initial b ≡ Break → Reads d (Chunks text) (b ∷ bs) bs
  chunk : {d b : ℕ} {text : Bool} {f : Frame} {bs cs ds : List ℕ} → enter_chunk text (initial b) ≡ some f → Reads (d - 1) f bs cs
      → Reads d (Chunks text) cs ds → Reads d (Chunks text) (b ∷ bs) ds
  -- so many bytes
  no_byte : {d : ℕ} {bs : List ℕ} → Reads d (Content zero) bs bs
  byte : {d n x : ℕ} {bs cs : List ℕ} → Reads d (Content n) bs cs → Reads d (Content (suc n)) (x ∷ bs) cs
  -- a simple value in a byte of its own is 32 or more
  simple : {d x : ℕ} {bs : List ℕ} → 32 ≤ x → Reads d Second (x ∷ bs) bs
  -- the last byte of an argument, and what follows the head; a byte before the last
  last : {d v x : ℕ} {m : Major} {bs cs : List ℕ} → Reads d (content m (v * 256 + x)) bs cs → Reads d (Argument m v zero) (x ∷ bs) cs
  digit : {d v k x : ℕ} {m : Major} {bs cs : List ℕ} → Reads d (Argument m (v * 256 + x) k) bs cs → Reads d (Argument m v (suc k)) (x ∷ bs) cs

-- A well-formed item within the nesting d.
abbrev pub Item : ℕ → List ℕ → Type 0
Item d bs = Reads d One bs []

-- Nesting at most 16 (house).
abbrev pub nesting : ℕ
nesting = 16
