use Rattle.std.proofs.Common.{rules}
use Rattle.std.proofs.Output.{has_written_append, has_written_of_eq}
use Rattle.session.proofs.Encoding.{digits_more}
use Rattle.session.proofs.hex.HexDisplay.fmt.Goals as goal

pub loop-byte-preserved : goal.loop-byte-preserved
loop-byte-preserved g c plain =
    let so-far = c.loop-byte.invariant plain in
    let first = has_written_append _ _ _ _ _ _ so-far (c.write_str.ensures.writes so-far.plain (search rules)) in
    let second = has_written_append _ _ _ _ _ _ first (c.write_str-in-loop-byte.ensures.writes first.plain (search rules)) in
    let more = digits_more c.args.self.now.0.now _ _ c.loop-byte.byte-index (search rules) c.digit_text.ensures c.digit_text-in-loop-byte.ensures in
    has_written_of_eq _ _ _ _ _ more second
