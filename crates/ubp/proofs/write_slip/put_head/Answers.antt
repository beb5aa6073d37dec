use Rattle.std.proofs.Common.{◌≡◌, [], length, refl, rules}
use Rattle.orders.specs.Codes.{kind_byte}
use Rattle.ubp.specs.Bytes.{bytes8}
use Rattle.ubp.specs.Answers.{head_fields}
use Rattle.ubp.proofs.Layouts.{after}
use Rattle.ubp.proofs.Parts.{begin, more, more_by, more_byte, begun_as}
use Rattle.ubp.proofs.write_slip.put_head.Goals as goal

pub returns : goal.returns
unfolding head_fields
returns c =
    let s = c.args.slip.now in
    let h1 : length s.token ≡ 14 = search rules in
    let w0 = begin c.args.out.now in
    let w1 = more_byte (kind_byte s.kind) w0 c.from.ensures c.put.ensures in
    let w2 = more_by 8 (bytes8 s.clock) w1 c.to_be_bytes.ensures refl c.put-2.ensures in
    let w3 = more 14 s.token w2 h1 c.put-3.ensures in
    begun_as w3 (after (kind_byte s.kind) [] head_fields s refl)
