-- `rows::rows` meets its contract: each protocol has its rows.
use Rattle.rows.specs.Rows.{place_in}
use Rattle.rows.proofs.rows.Goals as goal

pub returns-in-Handshake : goal.returns-in-Handshake
unfolding place_in
returns-in-Handshake c = rw c.in-Handshake.is

pub returns-in-ChainSync : goal.returns-in-ChainSync
unfolding place_in
returns-in-ChainSync c = rw c.in-ChainSync.is

pub returns-in-BlockFetch : goal.returns-in-BlockFetch
unfolding place_in
returns-in-BlockFetch c = rw c.in-BlockFetch.is

pub returns-in-TxSubmission : goal.returns-in-TxSubmission
unfolding place_in
returns-in-TxSubmission c = rw c.in-TxSubmission.is

pub returns-in-KeepAlive : goal.returns-in-KeepAlive
unfolding place_in
returns-in-KeepAlive c = rw c.in-KeepAlive.is

pub returns-in-LocalTxSubmission : goal.returns-in-LocalTxSubmission
unfolding place_in
returns-in-LocalTxSubmission c = rw c.in-LocalTxSubmission.is

pub returns-in-LocalStateQuery : goal.returns-in-LocalStateQuery
unfolding place_in
returns-in-LocalStateQuery c = rw c.in-LocalStateQuery.is
