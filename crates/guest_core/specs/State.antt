-- The guest's states by number, its session values, and soundness (01, "Guest" and "What stops each operation").
use Rattle.std.specs.Prelude.{ℕ, ◌+◌, Bool, not, ◌&&◌, ◌||◌, eqb, leb, Option, Some, None}
use Rattle.outer.specs.Outer.{max_window}
use Rattle.record.specs.declared.Record.{Record}
use Rattle.parser.specs.Push.{fresh, sound_parser}
use Rattle.parser.specs.declared.RecordParser.{RecordParser}
use Rattle.session.specs.Checks.{holds, identity_of}
use Rattle.session.specs.declared.Identity.{Identity}
use Rattle.guest_core.specs.declared.GuestState.{GuestState}
use Rattle.guest_core.specs.declared.GuestState.TheVariants as State
use Rattle.guest_core.specs.declared.GuestSession.{GuestSession}

abbrev pub code : GuestState → ℕ
code State.Detached = 0
code State.Attaching = 1
code State.Resetting = 2
code State.Active = 3
code State.Closed = 4
code State.Failed = 5

abbrev pub is_detached : GuestState → Bool
is_detached s = eqb (code s) 0

abbrev pub is_resetting : GuestState → Bool
is_resetting s = eqb (code s) 2

abbrev pub is_active : GuestState → Bool
is_active s = eqb (code s) 3

abbrev pub is_failed : GuestState → Bool
is_failed s = eqb (code s) 5

-- Attaching, Resetting, Active: the states in which a guest receives
abbrev pub is_open : GuestState → Bool
is_open s = leb 1 (code s) && leb (code s) 3

-- Resetting, Active: the states that need an identity
abbrev pub is_live : GuestState → Bool
is_live s = leb 2 (code s) && leb (code s) 3

-- Closed, Failed: disconnect does nothing
abbrev pub is_ended : GuestState → Bool
is_ended s = leb 4 (code s)

-- a fresh guest: Detached with nothing buffered, window and outstanding 0
abbrev pub fresh_guest : GuestSession
fresh_guest =
    record {
      parser = fresh;
      identity = None;
      receive_sequence = record { 0 = 0 };
      send_sequence = record { 0 = 0 };
      window = 0;
      outstanding = 0;
      state = State.Detached;
    }

-- outstanding ≤ window ≤ 4,194,314, the window is 0 in Resetting, and Resetting and Active hold an identity
abbrev pub figures_ok : GuestState → ℕ → ℕ → Option Identity → Bool
figures_ok state window outstanding identity =
    leb outstanding window
    && (leb window max_window && ((not (is_resetting state) || eqb window 0) && (not (is_live state) || holds identity)))

-- a session is sound when its parser is and its figures are
unfoldable pub sound_guest : GuestSession → Bool
sound_guest g = sound_parser g.parser && figures_ok g.state g.window g.outstanding g.identity

-- Active, and sound but for its parser
unfoldable pub active_guest : GuestSession → Bool
active_guest g = is_active g.state && figures_ok g.state g.window g.outstanding g.identity

-- ---- sessions after a call
-- another state and parser, all else unchanged
abbrev pub with_state : GuestSession → GuestState → RecordParser → GuestSession
with_state g s p =
    record {
      parser = p;
      identity = g.identity;
      receive_sequence = g.receive_sequence;
      send_sequence = g.send_sequence;
      window = g.window;
      outstanding = g.outstanding;
      state = s;
    }

-- an accepted RESET: its identity, the next sequence due one more, send sequence, window and outstanding 0, state Resetting
abbrev pub reset_session : RecordParser → Identity → ℕ → GuestSession
reset_session p i sequence =
    record {
      parser = p;
      identity = Some i;
      receive_sequence = record { 0 = sequence + 1 };
      send_sequence = record { 0 = 0 };
      window = 0;
      outstanding = 0;
      state = State.Resetting;
    }

abbrev pub reset_guest : RecordParser → Record → GuestSession
reset_guest p r = reset_session p (identity_of r) r.sequence.0

-- accepted DATA: the next sequence due is one more, its length is outstanding
abbrev pub data_guest : GuestSession → RecordParser → ℕ → GuestSession
data_guest g p n =
    record {
      parser = p;
      identity = g.identity;
      receive_sequence = record { 0 = g.receive_sequence.0 + 1 };
      send_sequence = g.send_sequence;
      window = g.window;
      outstanding = g.outstanding + n;
      state = g.state;
    }

-- an acknowledge: send sequence 1, outstanding 0, the window set, state Active
abbrev pub ack_guest : GuestSession → ℕ → GuestSession
ack_guest g w =
    record {
      parser = g.parser;
      identity = g.identity;
      receive_sequence = g.receive_sequence;
      send_sequence = record { 0 = 1 };
      window = w;
      outstanding = 0;
      state = State.Active;
    }

-- another send sequence, and what is outstanding then
abbrev pub with_sent : GuestSession → ℕ → ℕ → GuestSession
with_sent g sequence n =
    record {
      parser = g.parser;
      identity = g.identity;
      receive_sequence = g.receive_sequence;
      send_sequence = record { 0 = sequence };
      window = g.window;
      outstanding = n;
      state = g.state;
    }

-- a record sent: the send sequence one more
abbrev pub sent_guest : GuestSession → ℕ → GuestSession
sent_guest g n = with_sent g (g.send_sequence.0 + 1) n
