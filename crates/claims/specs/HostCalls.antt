-- Lists of calls on a host, and what is claimed of them. `Demand3` gathers it. A call carries what the caller lends; what it answers
-- and leaves is what the host's rules say. Nothing that is claimed needs the numbers of a piece, of data or of a stage to be bytes.
use Rattle.std.specs.Prelude.{ℕ, ◌-◌, ◌<◌, ◌≡◌, true, List, [], ◌∷◌, ◌++◌, length, take, drop}
use Rattle.wire.specs.Refusals.{refusal}
use Rattle.wire.specs.declared.Refusal.{Refusal}
use Rattle.parser.specs.Push.{payload_at}
use Rattle.parser.specs.declared.Place.{Place}
use Rattle.parser.specs.Push.{Count}
use Rattle.session.specs.declared.Identity.{Identity}
use Rattle.host.specs.State.{fresh_host, sound_host}
use Rattle.host.specs.Receive as Receive
use Rattle.host.specs.Asks as Asks
use Rattle.host.specs.Calls as Calls
use Rattle.host.specs.Event.{HostEvent}
use Rattle.host.specs.declared.HostSession.{HostSession}
use Rattle.host.specs.Asks.{StateAnswer}
use Rattle.host.specs.Asks.{IdentityAnswer}

-- ---- calls and answers
pub data HostCall : Type 0 where
  attach : (capability : List ℕ) → length capability ≡ 32 → (output : List ℕ) (at : ℕ) → HostCall
  -- a receive lent the session's own stage, and one lent a shorter one
  receive : (piece : List ℕ) → HostCall
  receive_short : (piece lent : List ℕ) → length lent < 65536 → HostCall
  send : (bytes output : List ℕ) (at : ℕ) → HostCall
  disconnect ask_state ask_identity ask_needed : HostCall

-- all that a call answers but the session
pub data HostAnswer : Type 0 where
  wrote : (refusal : Refusal) (count next : ℕ) → HostAnswer
  got : (refusal : Refusal) (consumed : ℕ) (event : HostEvent) (identity : Identity) (place : Place) (length : ℕ) → HostAnswer
  closed : (refusal : Refusal) → HostAnswer
  told_state : StateAnswer → HostAnswer
  told_identity : IdentityAnswer → HostAnswer
  told_needed : Count → HostAnswer

abbrev pub refusal_of : HostAnswer → Refusal
refusal_of (wrote r count next) = r
refusal_of (got r consumed event i place n) = r
refusal_of (closed r) = r
refusal_of (told_state a) = a.refusal
refusal_of (told_identity a) = a.refusal
refusal_of (told_needed a) = a.refusal

-- what the caller gets: the answer, the payload that it names, and the bytes written
pub record HostReply : Type 0 where
  pub answer : HostAnswer
  pub payload : List ℕ
  pub written : List ℕ

-- a session with its stage
pub record HostPlace : Type 0 where
  pub host : HostSession
  pub stage : List ℕ

pub record HostStep : Type 0 where
  pub reply : HostReply
  pub place : HostPlace

abbrev pub placed : HostSession → List ℕ → HostPlace
placed h stage = record { host = h; stage = stage }

abbrev pub replied : HostAnswer → List ℕ → List ℕ → HostPlace → HostStep
replied answer payload written p = record { reply = record { answer = answer; payload = payload; written = written }; place = p }

-- a call that writes: the bytes written stand between its position and the next
abbrev pub sending : List ℕ → ℕ → Calls.Outcome → HostStep
sending stage at o =
    replied (wrote o.sent.refusal o.sent.count o.sent.next) [] (take (o.sent.next - at) (drop at o.output)) (placed o.sent.session stage)

-- a receive: the payload lies in the piece or in the stage that was lent; `stage` is the session's own afterwards
abbrev pub receiving : List ℕ → Receive.Outcome → List ℕ → HostStep
receiving piece o stage =
    replied (got o.received.refusal o.received.consumed o.received.event o.received.identity o.received.place o.received.length)
    (payload_at o.received.place o.received.length piece o.stage) [] (placed o.received.session stage)

-- what one call does
unfoldable pub step : HostSession → List ℕ → HostCall → HostStep
step h stage (attach capability l output at) = sending stage at (Calls.attach h capability output at)
step h stage (receive piece) = receiving piece (Receive.receive_of h piece stage) (Receive.receive_of h piece stage).stage
step h stage (receive_short piece lent l) = receiving piece (Receive.receive_of h piece lent) stage
step h stage (send bytes output at) = sending stage at (Calls.send h bytes output at)
step h stage disconnect = replied (closed (Calls.disconnect h).refusal) [] [] (placed (Calls.disconnect h).session stage)
step h stage ask_state = replied (told_state (Asks.state_of h)) [] [] (placed h stage)
step h stage ask_identity = replied (told_identity (Asks.identity_of h)) [] [] (placed h stage)
step h stage ask_needed = replied (told_needed (Asks.needed_by h)) [] [] (placed h stage)

abbrev pub reply : HostPlace → HostCall → HostReply
reply p c = (step p.host p.stage c).reply

abbrev pub next : HostPlace → HostCall → HostPlace
next p c = (step p.host p.stage c).place

abbrev pub fresh_place : List ℕ → HostPlace
fresh_place stage = placed fresh_host stage

-- the session and its stage after a list of calls
unfoldable pub after : HostPlace → List HostCall → HostPlace
after p [] = p
after p (c ∷ cs) = after (next p c) cs

-- a figure of a list of calls: a fold over the calls and what they reply, which never reads the session
unfoldable pub host_history : {A : Type 0} → (A → HostCall → HostReply → A) → A → HostPlace → List HostCall → A
host_history f a p [] = a
host_history f a p (c ∷ cs) = host_history f (f a c (reply p c)) (next p c) cs

-- ---- calls made alike
-- the same pieces, data and positions, outputs and stages of equal length, each side with its own capability
pub data HostLike : HostCall → HostCall → Type 0 where
  attaches : {x y o q : List ℕ} (l : length x ≡ 32) (m : length y ≡ 32) (at : ℕ) → length o ≡ length q → HostLike (attach x l o at) (attach y m q at)
  receives : (piece : List ℕ) → HostLike (receive piece) (receive piece)
  shorts : (piece : List ℕ) {s t : List ℕ} (l : length s < 65536) (m : length t < 65536) → length s ≡ length t → HostLike (receive_short piece s l) (receive_short piece t m)
  sends : (bytes : List ℕ) {o q : List ℕ} (at : ℕ) → length o ≡ length q → HostLike (send bytes o at) (send bytes q at)
  disconnects : HostLike disconnect disconnect
  asks_state : HostLike ask_state ask_state
  asks_identity : HostLike ask_identity ask_identity
  asks_needed : HostLike ask_needed ask_needed

pub data HostLikes : List HostCall → List HostCall → Type 0 where
  nothing : HostLikes [] []
  also : {c d : HostCall} {cs ds : List HostCall} → HostLike c d → HostLikes cs ds → HostLikes (c ∷ cs) (d ∷ ds)

-- the bytes written, of attach's record without bytes 45 to 76
abbrev pub compared : HostCall → List ℕ → List ℕ
compared (attach capability l output at) w = take 44 w ++ drop 76 w
compared (receive piece) w = w
compared (receive_short piece lent l) w = w
compared (send bytes output at) w = w
compared disconnect w = w
compared ask_state w = w
compared ask_identity w = w
compared ask_needed w = w

-- what is compared of a call's reply: all of it but those bytes
abbrev pub seen : HostCall → HostReply → HostReply
seen c r = record { answer = r.answer; payload = r.payload; written = compared c r.written }

unfoldable pub replies : HostPlace → List HostCall → List HostReply
replies p [] = []
replies p (c ∷ cs) = seen c (reply p c) ∷ replies (next p c) cs

-- ---- the claims
-- two fresh hosts answer alike, whatever their capabilities and the contents of their stages
abbrev pub HostsAgree : Type 0
HostsAgree =
    (s t : List ℕ) → length s ≡ 65536 → length t ≡ 65536 → (cs ds : List HostCall) → HostLikes cs ds
    → replies (fresh_place s) cs ≡ replies (fresh_place t) ds

-- every session that calls reach from a fresh host is sound, whatever the stage
abbrev pub HostAlwaysSound : Type 0
HostAlwaysSound = (s : List ℕ) (cs : List HostCall) → sound_host (after (fresh_place s) cs).host ≡ true

-- no call of a list gets 23: `cs` are the calls before
abbrev pub HostNever23 : Type 0
HostNever23 = (s : List ℕ) (cs : List HostCall) (c : HostCall) → (refusal_of (reply (after (fresh_place s) cs) c).answer).number ≡ 23 → ⊥

-- a receive that is lent a shorter stage gets 21
abbrev pub HostShorterRefused : Type 0
HostShorterRefused =
    (s : List ℕ) (cs : List HostCall) (piece lent : List ℕ) (l : length lent < 65536)
    → refusal_of (reply (after (fresh_place s) cs) (receive_short piece lent l)).answer ≡ refusal 21 0 0 0
