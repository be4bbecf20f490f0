-- The claims of `specs/States.antt`, each from the file that proves it. Assumes nothing.
use Rattle.claims.specs.States.{StateClaims}
use Rattle.claims.proofs.GuestStates.{state_told_lem, identity_told_lem, window_told, idle}
use Rattle.claims.proofs.HostStates.{host_state_told, host_identity_told, host_idle}

pub state_claims : StateClaims
state_claims =
    record {
      guest_state_lem = state_told_lem;
      guest_identity = identity_told_lem;
      guest_window = window_told;
      guest_idle = idle;
      host_state_lem = host_state_told;
      host_identity = host_identity_told;
      host_idle = host_idle;
    }
