-- The protocol that an instance speaks (document 01, "What the front holds"; document 02, K1).
use Rattle.std.specs.Prelude.{ℕ, cond, ◌||◌, eqb}
use Rattle.wire.specs.Instances.{protocol_of}
use Rattle.rows.specs.declared.Protocol.{Protocol}
use Rattle.rows.specs.declared.Protocol.TheVariants.{Handshake, ChainSync, BlockFetch, TxSubmission, KeepAlive, LocalTxSubmission, LocalStateQuery}

-- Handshake 0; node to node, Chain-Sync 2, Block-Fetch 3, TxSubmission 4, Keep-alive 8; node to client, Chain-Sync 5, Local TxSubmission 6,
-- Local State Query 7
abbrev pub spoken : ℕ → Protocol
spoken n =
    cond (eqb n 2 || eqb n 5) ChainSync
    (cond (eqb n 3) BlockFetch
    (cond (eqb n 4) TxSubmission
    (cond (eqb n 8) KeepAlive
    (cond (eqb n 6) LocalTxSubmission
    (cond (eqb n 7) LocalStateQuery Handshake)))))

-- the protocol that instance i of a bundle speaks
unfoldable pub speaks : ℕ → ℕ → Protocol
speaks b i = spoken (protocol_of b i)
