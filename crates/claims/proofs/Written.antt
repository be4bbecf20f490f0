-- What the calls that write do write, gathered. Assumes nothing.
use Rattle.claims.specs.Written.{WrittenClaims}
use Rattle.claims.proofs.GuestWritten.{attach_writes, acknowledge_writes, send_writes, credit_writes}
use Rattle.claims.proofs.HostWritten.{host_attach_writes, host_send_writes}

pub written_claims : WrittenClaims
written_claims =
    record {
      attach = attach_writes;
      acknowledge = acknowledge_writes;
      send = send_writes;
      credit = credit_writes;
      host_attach = host_attach_writes;
      host_send = host_send_writes;
    }
