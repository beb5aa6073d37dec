use Rattle.std.proofs.Common.{drop, refl}
use Rattle.orders.specs.Codes.{kind_byte, letter_byte}
use Rattle.ubp.specs.Bytes.{bytes4}
use Rattle.ubp.specs.Answers.{head_fields, cancelled_fields}
use Rattle.ubp.proofs.Layouts.{after}
use Rattle.ubp.proofs.Parts.{more_by, more_byte, begun_as}
use Rattle.ubp.proofs.write_slip.put_cancelled.Goals as goal

pub returns : goal.returns
unfolding head_fields cancelled_fields
returns c =
    let s = c.args.slip.now in
    let w0 = c.put_head.ensures in
    let w1 = more_by 4 (bytes4 s.shares) w0 c.to_be_bytes.ensures refl c.put.ensures in
    let w2 = more_byte (letter_byte s.letter) w1 c.from.ensures c.put-2.ensures in
    begun_as w2 (after (kind_byte s.kind) head_fields (drop 2 cancelled_fields) s refl)
