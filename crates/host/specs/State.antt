-- The host's states by number, its session values, and soundness (01, "Host" and "What stops each operation").
use Rattle.std.specs.Prelude.{ℕ, ◌+◌, Bool, not, ◌&&◌, ◌||◌, eqb, leb, Option, None}
use Rattle.parser.specs.Push.{fresh, sound_parser}
use Rattle.parser.specs.declared.RecordParser.{RecordParser}
use Rattle.session.specs.Checks.{holds}
use Rattle.session.specs.declared.Identity.{Identity}
use Rattle.host.specs.declared.HostState.{HostState}
use Rattle.host.specs.declared.HostState.TheVariants as State
use Rattle.host.specs.declared.HostSession.{HostSession}

abbrev pub code : HostState → ℕ
code State.Detached = 0
code State.Attaching = 1
code State.Attached = 2
code State.Rejected = 3
code State.Reset = 4
code State.Closed = 5
code State.Failed = 6

abbrev pub is_detached : HostState → Bool
is_detached s = eqb (code s) 0

abbrev pub is_attaching : HostState → Bool
is_attaching s = eqb (code s) 1

abbrev pub is_attached : HostState → Bool
is_attached s = eqb (code s) 2

-- Attaching, Attached: the states in which a host receives
abbrev pub is_open : HostState → Bool
is_open s = leb 1 (code s) && leb (code s) 2

-- the first three states: disconnect acts
abbrev pub is_begun : HostState → Bool
is_begun s = leb (code s) 2

-- a fresh host: Detached with nothing buffered
abbrev pub fresh_host : HostSession
fresh_host =
    record {
      state = State.Detached;
      parser = fresh;
      identity = None;
      receive_sequence = record { 0 = 0 };
      send_sequence = record { 0 = 0 };
    }

-- a session is sound when its parser is and Attached holds an identity
unfoldable pub sound_host : HostSession → Bool
sound_host h = sound_parser h.parser && (not (is_attached h.state) || holds h.identity)

-- ---- sessions after a call
-- another state and parser, all else unchanged
abbrev pub with_state : HostSession → HostState → RecordParser → HostSession
with_state h s p =
    record {
      state = s;
      parser = p;
      identity = h.identity;
      receive_sequence = h.receive_sequence;
      send_sequence = h.send_sequence;
    }

-- an accepted record: the state and the identity it leads to, the next sequence due one more
abbrev pub next_host : HostSession → HostState → RecordParser → Option Identity → HostSession
next_host h s p i =
    record {
      state = s;
      parser = p;
      identity = i;
      receive_sequence = record { 0 = h.receive_sequence.0 + 1 };
      send_sequence = h.send_sequence;
    }

-- another send sequence, all else unchanged
abbrev pub with_sent : HostSession → ℕ → HostSession
with_sent h sequence =
    record {
      state = h.state;
      parser = h.parser;
      identity = h.identity;
      receive_sequence = h.receive_sequence;
      send_sequence = record { 0 = sequence };
    }

-- a record sent: the send sequence one more
abbrev pub sent_host : HostSession → HostSession
sent_host h = with_sent h (h.send_sequence.0 + 1)
