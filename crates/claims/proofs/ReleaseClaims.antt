-- The claims of `specs/Release.antt`, each from the file that proves it. Assumes nothing.
use Rattle.claims.specs.Release.{ReleaseClaims}
use Rattle.claims.proofs.GuestOutputs.{pieces, payloads, outputs}
use Rattle.claims.proofs.Release.{followed, note, nothing_before}
use Rattle.claims.proofs.GuestAccepts.{due, reattached, waiting, fronts}

pub release_claims : ReleaseClaims
release_claims = record { followed = followed; note = note; nothing_before = nothing_before; pieces = pieces; due = due; reattached = reattached; waits = waiting; fronts = fronts; payloads = payloads; outputs = outputs }
