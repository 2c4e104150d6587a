-- Open (document 01, "What the front holds"; document 02, K1: a bundle is chosen at open).
use Rattle.std.specs.Prelude.{ℕ, false, cond, ◌&&◌}
use Rattle.wire.specs.declared.instances.Side.TheVariants.{Dialler}
use Rattle.wire.specs.Segments.{empty}
use Rattle.connection.specs.declared.Settings.{Settings}
use Rattle.connection.specs.declared.Connection.{Connection}
use Rattle.connection.specs.declared.Gate.TheVariants.{Open}
use Rattle.connection.specs.Shapes.{zeros}
use Rattle.opening.specs.declared.Opened.{Opened}
use Rattle.range.specs.Ranges.{settings_ok, receive_store_ok, send_store_ok}

-- nothing received, nothing sent, every protocol in its first state: a record with these settings and this turn
abbrev pub fresh : Settings → ℕ → Connection
fresh s turn =
    record {
      settings = s;
      receiving = record { starts = zeros; held = zeros; header = empty; instance = 0; rest = 0 };
      sending = record { starts = zeros; waiting = zeros; turn = turn };
      talk = record { states = zeros; accepted = false };
      gate = Open;
    }

-- a refused open hands back all numbers 0 and no closing
abbrev pub refused_open : Opened
refused_open = record { number = 23; connection = fresh (record { party = record { bundle = 0; side = Dialler }; limit = 0; receive = zeros; send = zeros }) 0 }

-- Settings in range and stores as long as they say, or 23; the turn starts at 1.
unfoldable pub open_of : Settings → ℕ → ℕ → Opened
open_of s n m =
    cond (settings_ok s && (receive_store_ok s n && send_store_ok s m))
    (record { number = 0; connection = fresh s 1 })
    refused_open
