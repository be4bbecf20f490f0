-- The claims of `specs/Reading.antt`, each from the file that proves it. Assumes nothing.
use Rattle.claims.specs.Reading.{ReadingClaims}
use Rattle.claims.proofs.Stages.{push_staged}
use Rattle.claims.proofs.Stream.{stream, not_sooner, encode_read}
use Rattle.claims.proofs.Latch.{again, sound}
use Rattle.claims.proofs.Feeds.{fresh_ready, read_encoded}
use Rattle.claims.proofs.Cuts.{cutting}
use Rattle.claims.proofs.Kept.{kept}

pub reading_claims : ReadingClaims
reading_claims =
    record {
      start = fresh_ready;
      streams = stream;
      not_sooner = not_sooner;
      stages = push_staged;
      latch = again;
      sound = sound;
      encode_read = encode_read;
      read_encoded = read_encoded;
      cutting = cutting;
      nothing_lost = kept;
    }
