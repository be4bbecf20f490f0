-- The worked examples hold by computation. M4's, over any payload of a given length, compute once that length is put in its place
-- (`data_read`). Assumes nothing.
use mathlib.Core.Path.{refl, ◌∙◌}
use mathlib.Core.Bool.{Bool}
use lib.ListN.{length}
use borrow.Author.Tests.{le-leb}
use Rattle.wire.specs.Bytes.{from_le, to_le, overlay}
use Rattle.wire.specs.Refusals.{first}
use Rattle.wire.specs.Header.{magic_of, version_of, type_of, flags_of, instance_of, epoch_of, sequence_of, length_of, header_bytes}
use Rattle.outer.specs.Outer.{window_ok, credit_ok, value_of, write}
use Rattle.record.specs.Types.{type_at, length_ok}
use Rattle.record.specs.Record.{all_zero, payload_checks, header_checks, record_with, encode_record}
use Rattle.parser.specs.Push.{counts_ok, error_ok, sound_parser, finish, push_body, head_with, push_head, push, needed_of, counted}
use Rattle.session.specs.Checks.{same, identity_ok, holds}
use Rattle.guest_core.specs.State.{sound_guest}
use Rattle.guest.specs.Receive.{accept_reset, accept_data, accept, after_push, receive}
use Rattle.guest_core.specs.Writes.{writes}
use Rattle.guest_core.specs.Calls.{attach, acknowledge}
use Rattle.guest_core.specs.Send.{send, credit}
use Rattle.wire.specs.declared.Refusal.{Refusal}
use Rattle.parser.specs.Push.{Push}
use Rattle.claims.specs.Examples.{MarkedExamples}
use Rattle.claims.proofs.Payloads.{data_read}

-- what is shown of a push
abbrev refused : Push → Refusal
refused u = u.answer.refusal

abbrev complete : Push → Bool
complete u = u.answer.complete

pub marked : MarkedExamples
unfolding from_le to_le overlay first magic_of version_of type_of flags_of instance_of epoch_of sequence_of length_of header_bytes window_ok credit_ok value_of write
    type_at length_ok all_zero payload_checks header_checks record_with encode_record counts_ok error_ok sound_parser finish push_body head_with push_head push needed_of counted
    same identity_ok holds sound_guest accept_reset accept_data accept after_push receive writes attach acknowledge send credit
marked =
    record {
      m1 = refl;
      m2 = (record { encoder = refl; parser = refl; whole = refl; guest = refl }, record { encoder = refl; parser = refl; whole = refl; guest = refl });
      m3 = (refl, (record { encoder = refl; parser = refl; whole = refl; guest = refl }, record { encoder = refl; parser = refl; whole = refl; guest = refl }));
      m4 = (
        record { encoder = λ payload o e l. rw e; header = refl; parser = data_read refused 0; whole = data_read complete 0 },
        (
          record {
            encoder = λ payload o e l. rw (e, le-leb 45 (length o) l);
            header = refl;
            parser = λ payload e. data_read refused 1 payload e ∙ rw e;
            whole = λ payload e. data_read complete 1 payload e ∙ rw e;
          },
          (
            record {
              encoder = λ payload o e l. rw (e, le-leb 65580 (length o) l);
              header = refl;
              parser = λ payload e. data_read refused 65536 payload e ∙ rw e;
              whole = λ payload e. data_read complete 65536 payload e ∙ rw e;
            },
            record { encoder = λ payload o e l. rw e; header = refl; parser = data_read refused 65537; whole = data_read complete 65537 },
          ),
        ),
      );
      m5 = (refl, (refl, (refl, refl)));
      m6 = λ o at. (refl, refl);
      m7 = (refl, (record { refusal = refl; event = refl; reported = refl; held = refl; state = refl }, record { refusal = refl; event = refl; reported = refl; held = refl; state = refl }));
      m8 = (refl, (refl, (refl, refl)));
      m9 = (record { refusal = refl; event = refl; payload = refl; outstanding = refl }, refl);
      m10 = (record { refusal = refl; event = refl; reported = refl; held = refl; state = refl }, (refl, refl));
    }
