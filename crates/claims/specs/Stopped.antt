-- What stops a session's calls, after every list of calls; of a receive only what stops it before the push.
-- The figures come from calls and answers, never from the session. Gathered in `StoppedClaims`.
use Rattle.std.specs.Prelude.{ℕ, ◌+◌, ◌-◌, ◌≡◌, Bool, true, false, not, ◌&&◌, List, [], ◌∷◌, length, eqb, leb, ltb}
use Rattle.wire.specs.Bytes.{Octets}
use Rattle.wire.specs.Refusals.{pick, refusal, none, first, passes}
use Rattle.wire.specs.declared.Refusal.{Refusal}
use Rattle.guest_core.specs.State as GuestIs
use Rattle.guest_core.specs.declared.GuestState.{GuestState}
use Rattle.guest.specs.Event.{GuestEvent}
use Rattle.guest.specs.Event as Event
use Rattle.host.specs.State as HostIs
use Rattle.host.specs.declared.HostState.{HostState}
use Rattle.host.specs.Event.{HostEvent}
use Rattle.host.specs.Event as HostEvents
use Rattle.claims.specs.GuestCalls.{Lent, Writing, attach, acknowledge, send, credit, Call, receive, write, disconnect, ask, Answer, refusal_of, event_of, consumed_of, stage_of, step, fresh}
use Rattle.claims.specs.GuestHistory.{tally_of, after, trace, history, count}
use Rattle.claims.specs.HostCalls as Host
use Rattle.claims.specs.HostCalls.{HostCall, HostAnswer, HostReply}
use Rattle.claims.specs.States.{keeps_state, state_after, host_state_after}
use Rattle.claims.specs.Written.{send_takes, records_sent, figures_of}

-- 22: the position is past the end, or fewer bytes are left than the record has
abbrev pub room_for : ℕ → List ℕ → ℕ → (Bool × Refusal)
room_for n output at = (leb (at + n) (length output), refusal 22 0 0 0)

-- `opened`: the state is one that receives; `size`: the length of the stage lent. 01: "receive: 21; 20 wrong state (guest: not Attaching,
-- Resetting, Active; host: not Attaching, Attached), nothing changed; then push's."
abbrev pub receive_stops : Bool → ℕ → List (Bool × Refusal)
receive_stops opened size = (leb 65536 size, refusal 21 0 0 0) ∷ (opened, refusal 20 0 0 0) ∷ []

-- the refusal of a receive: that of these rows, or another that fails the session, or none
pub record StoppedBy (rows : List (Bool × Refusal)) (r : Refusal) : Type 0 where
  pub stopped : passes (first rows) ≡ false → r ≡ first rows
  pub only : passes (first rows) ≡ true → keeps_state r ≡ false

-- `acts`: the state is one in which disconnect acts; `n` bytes are buffered. 01: "disconnect, in the states where it acts: 19 bytes buffered
-- (a count)"; elsewhere "it succeeds and does nothing"
abbrev pub disconnect_stops : Bool → ℕ → Refusal
disconnect_stops acts n = pick acts (first ((eqb n 0, refusal 19 n 0 0) ∷ [])) none

-- ---- a guest's figures
-- the bytes taken since a record was reported: those of an unfinished record
abbrev pub held_since : ℕ → GuestEvent → ℕ → ℕ
held_since n Event.Nothing taken = n + taken
held_since n Event.Reset taken = 0
held_since n Event.Data taken = 0

unfoldable pub count_held : ℕ → Call → Answer → ℕ
count_held n (receive piece o lent) a = held_since n (event_of a) (consumed_of a)
count_held n (write w o at) a = n
count_held n disconnect a = n
count_held n (ask q) a = n

abbrev pub held_after : List ℕ → List Call → ℕ
held_after s cs = history count_held 0 (trace (fresh s) cs)

-- what was accepted and not yet credited
abbrev pub uncredited : List ℕ → List Call → ℕ
uncredited s cs = (tally_of s cs).accepted - (tally_of s cs).credited

-- ---- what stops a guest's calls
-- k records were sent since the last Reset event, m bytes are outstanding. 01: "attach: 20 not Detached; 22. acknowledge: 20 not Resetting;
-- 8; 22. send: 20 not Active or Attached; 16 (a 5); 5 for empty data; 22. credit: 20; 18 amount 0 or above outstanding (a outstanding, b
-- amount); 16 (a 9); 22."
abbrev pub guest_stops : Writing → GuestState → ℕ → ℕ → List ℕ → ℕ → List (Bool × Refusal)
guest_stops attach st k m output at = (GuestIs.is_detached st, refusal 20 0 0 0) ∷ room_for 44 output at ∷ []
guest_stops (acknowledge w) st k m output at =
    (GuestIs.is_resetting st, refusal 20 0 0 0) ∷ (leb 65536 w && leb w 4194314, refusal 8 w 0 0) ∷ room_for 48 output at ∷ []
guest_stops (send bytes) st k m output at =
    (GuestIs.is_active st, refusal 20 0 0 0) ∷ (ltb k 18446744073709551615, refusal 16 5 0 0) ∷ (leb 1 (length bytes), refusal 5 5 0 0) ∷
    room_for (44 + send_takes bytes) output at ∷ []
guest_stops (credit n) st k m output at =
    (GuestIs.is_active st, refusal 20 0 0 0) ∷ (leb 1 n && leb n m, refusal 18 m n 0) ∷ (ltb k 18446744073709551615, refusal 16 9 0 0) ∷
    room_for 48 output at ∷ []

-- ---- a host's figures
-- the bytes taken since a record was reported: those of an unfinished record
abbrev pub host_held_since : ℕ → HostEvent → ℕ → ℕ
host_held_since n HostEvents.Nothing taken = n + taken
host_held_since n HostEvents.Wait taken = 0
host_held_since n HostEvents.Attached taken = 0
host_held_since n HostEvents.Rejected taken = 0
host_held_since n HostEvents.Data taken = 0
host_held_since n HostEvents.Reset taken = 0

abbrev pub host_held_by : ℕ → HostAnswer → ℕ
host_held_by n (Host.wrote r count next) = n
host_held_by n (Host.got r taken e i place size) = host_held_since n e taken
host_held_by n (Host.closed r) = n
host_held_by n (Host.told_state a) = n
host_held_by n (Host.told_identity a) = n
host_held_by n (Host.told_needed a) = n

unfoldable pub host_count_held : ℕ → HostCall → HostReply → ℕ
host_count_held n c r = host_held_by n r.answer

abbrev pub host_held_after : List ℕ → List HostCall → ℕ
host_held_after s cs = Host.host_history host_count_held 0 (Host.fresh_place s) cs

-- ---- what stops a host's calls
-- 01: "attach: 20 not Detached; 22."
abbrev pub host_attach_stops : HostState → List ℕ → ℕ → List (Bool × Refusal)
host_attach_stops st output at = (HostIs.is_detached st, refusal 20 0 0 0) ∷ room_for 76 output at ∷ []

-- k sends were not refused. 01: "send: 20 not Active or Attached; 16 (a 5); 5 for empty data; 22."
abbrev pub host_send_stops : HostState → ℕ → List ℕ → List ℕ → ℕ → List (Bool × Refusal)
host_send_stops st k bytes output at =
    (HostIs.is_attached st, refusal 20 0 0 0) ∷ (ltb k 18446744073709551615, refusal 16 5 0 0) ∷ (leb 1 (length bytes), refusal 5 5 0 0) ∷
    room_for (44 + send_takes bytes) output at ∷ []

-- ---- the claims, whatever stages are lent
abbrev pub WritesStopped : Type 0
WritesStopped =
    (s : List ℕ) (cs : List Call) (w : Writing) (output : List ℕ) (at : ℕ)
    → refusal_of (step (after (fresh s) cs) (write w output at)).answer ≡ first (guest_stops w (state_after s cs) (records_sent s cs) (uncredited s cs) output at)

abbrev pub ReceivesStopped : Type 0
ReceivesStopped =
    (s : List ℕ) (cs : List Call) (piece : List ℕ) (o : Octets piece) (lent : Lent)
    → StoppedBy (receive_stops (GuestIs.is_open (state_after s cs)) (length (stage_of lent (after (fresh s) cs).stage))) (refusal_of (step (after (fresh s) cs) (receive piece o lent)).answer)

abbrev pub DisconnectStopped : Type 0
DisconnectStopped =
    (s : List ℕ) (cs : List Call) → refusal_of (step (after (fresh s) cs) disconnect).answer ≡ disconnect_stops (not (GuestIs.is_ended (state_after s cs))) (held_after s cs)

abbrev pub HostAttachStopped : Type 0
HostAttachStopped =
    (s : List ℕ) (cs : List HostCall) (capability : List ℕ) (l : length capability ≡ 32) (output : List ℕ) (at : ℕ)
    → Host.refusal_of (Host.reply (Host.after (Host.fresh_place s) cs) (Host.attach capability l output at)).answer ≡ first (host_attach_stops (host_state_after s cs) output at)

abbrev pub HostSendStopped : Type 0
HostSendStopped =
    (s : List ℕ) (cs : List HostCall) (bytes output : List ℕ) (at : ℕ)
    → Host.refusal_of (Host.reply (Host.after (Host.fresh_place s) cs) (Host.send bytes output at)).answer
    ≡ first (host_send_stops (host_state_after s cs) (figures_of s cs).sends bytes output at)

-- lent the session's own stage; what a shorter one gets is `HostShorterRefused`
abbrev pub HostReceivesStopped : Type 0
HostReceivesStopped =
    (s : List ℕ) (cs : List HostCall) (piece : List ℕ)
    → StoppedBy (receive_stops (HostIs.is_open (host_state_after s cs)) (length (Host.after (Host.fresh_place s) cs).stage))
    (Host.refusal_of (Host.reply (Host.after (Host.fresh_place s) cs) (Host.receive piece)).answer)

abbrev pub HostDisconnectStopped : Type 0
HostDisconnectStopped =
    (s : List ℕ) (cs : List HostCall)
    → Host.refusal_of (Host.reply (Host.after (Host.fresh_place s) cs) Host.disconnect).answer ≡ disconnect_stops (HostIs.is_begun (host_state_after s cs)) (host_held_after s cs)

pub record StoppedClaims : Type 0 where
  -- 01, What stops each operation: "An operation gives its numbers only under these conditions, the first that applies": excludes a guest
  -- that refuses calls that nothing stops, or one that goes on past the last sequence
  pub writes : WritesStopped
  -- 01, receive: "20 wrong state": excludes a guest that takes records before attach or after disconnect, or gives 20 where it may receive
  pub receives : ReceivesStopped
  -- 01: "19 bytes buffered (a count)": excludes a disconnect in the middle of a record that succeeds, or one between records that is refused
  pub disconnect : DisconnectStopped
  -- the same as `writes`, of a host's attach: excludes a host that accepts no attach
  pub host_attach : HostAttachStopped
  -- and of its send
  pub host_send : HostSendStopped
  -- the same as `receives` and `disconnect`, of a host
  pub host_receives : HostReceivesStopped
  pub host_disconnect : HostDisconnectStopped
