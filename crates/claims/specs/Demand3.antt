-- Demand 3 whole: one statement over lists of calls on a guest, on two guests and on two hosts, refused calls and asks included; and
-- that no such list ever gets 23. Release notes stand on it: after a lead is reattached, the scorer shows no sample from before it.
use Rattle.claims.specs.GuestClaims.{SumsHold, StreamExact, GuestsAgree, AlwaysSound, ShorterRefused}
use Rattle.claims.specs.HostCalls.{HostsAgree, HostAlwaysSound, HostNever23, HostShorterRefused}

pub record Demand3 : Type 0 where
  -- 01: "The sums hold with any stages: accepted counts the payload bytes handed out, credited adds up the amounts of successful credit
  -- calls, both since the last Reset event, or from the start before one. The window there is that of the successful acknowledge since, or 0."
  pub sums : SumsHold
  -- 01: "As long as a guest hasn't Failed, the bytes push took after that RESET (or from the start), all receives together, are exactly the
  -- encodings of the DATA handed out, in order, with the RESET's identity and its sequence plus 1, plus 2 and so on, then `buffered` bytes of
  -- an unfinished record: fewer than 44 bytes, or a header that passes the header checks and fewer payload bytes than its length."
  pub stream : StreamExact
  -- 01: "Each of the two guests has a list from a fresh one behind it whose last call reports the Reset event; the two RESETs agree in all 44
  -- bytes. Both then get the same pieces, data, windows, amounts and positions, and outputs and stages of equal length. For each call the
  -- answers (refusals with all their fields), the payloads and the bytes written are equal."
  pub two_guests : GuestsAgree
  -- 01: "Two hosts' stages may differ in contents as well; of the bytes written only bytes 45 to 76 of attach's record may."
  pub two_hosts : HostsAgree

-- 01: "All calls on a parser or session: 23, value unsound": no list of calls from a fresh session ever gets it; "a receive lent a shorter
-- one gets 21 and stands in the list too".
pub record NeverUnsound : Type 0 where
  pub guest : AlwaysSound
  pub guest_shorter : ShorterRefused
  pub host : HostAlwaysSound
  pub host_never : HostNever23
  pub host_shorter : HostShorterRefused
