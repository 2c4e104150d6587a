-- What only functions below the operations cite: how the tables are laid out.
use Rattle.std.specs.Prelude.{ℕ, ◌<◌, ◌≡◌, List, [], ◌∷◌, ◌++◌, length, get_or, take}
use Rattle.rows.specs.declared.Protocol.{Protocol}
use Rattle.rows.specs.declared.Protocol.TheVariants.{Handshake, ChainSync, BlockFetch, TxSubmission, KeepAlive, LocalTxSubmission, LocalStateQuery}
use Rattle.wire.specs.Instances.{instances}
use Rattle.rows.specs.Rows.{done_of}
use Rattle.rows.specs.Spoken.{speaks}

-- the place of a protocol: document 01's order, and then K1's
abbrev pub place_of : Protocol → ℕ
place_of Handshake = 0
place_of ChainSync = 1
place_of BlockFetch = 2
place_of TxSubmission = 3
place_of KeepAlive = 4
place_of LocalTxSubmission = 5
place_of LocalStateQuery = 6

abbrev pub protocols : List Protocol
protocols = Handshake ∷ ChainSync ∷ BlockFetch ∷ TxSubmission ∷ KeepAlive ∷ LocalTxSubmission ∷ LocalStateQuery ∷ []

-- a table by protocol: the entries of each, one protocol after the other
module _ {A : Type 0} (of : Protocol → List A) where
  unfoldable pub entries : List Protocol → List A
  entries [] = []
  entries (p ∷ ps) = of p ++ entries ps

  abbrev pub table : List A
  table = entries protocols

  -- where a protocol's entries begin, and how many they are
  abbrev pub first_in : Protocol → ℕ
  first_in p = length (entries (take (place_of p) protocols))

  abbrev pub count_in : Protocol → ℕ
  count_in p = length (of p)

-- an array by instance of the states that a bundle's protocols end in
abbrev pub LastStates : ℕ → List ℕ → Type 0
LastStates b l = (i : ℕ) → i < instances b → get_or l i 0 ≡ done_of (speaks b i)
