-- Demand 3, proved: each field is a theorem of its own file. Assumes nothing.
use Rattle.claims.specs.Demand3.{Demand3, NeverUnsound}
use Rattle.claims.proofs.GuestSums.{sums}
use Rattle.claims.proofs.GuestStream.{stream}
use Rattle.claims.proofs.GuestRuns.{two_guests}
use Rattle.claims.proofs.GuestSound.{always_sound, shorter}
use Rattle.claims.proofs.HostSound as host
use Rattle.claims.proofs.HostNever.{never_23, short_21}
use Rattle.claims.proofs.HostRuns.{two_hosts}

pub demand3 : Demand3
demand3 = record { sums = sums; stream = stream; two_guests = two_guests; two_hosts = two_hosts }

pub never_unsound : NeverUnsound
never_unsound = record { guest = always_sound; guest_shorter = shorter; host = host.always_sound; host_never = never_23; host_shorter = short_21 }
