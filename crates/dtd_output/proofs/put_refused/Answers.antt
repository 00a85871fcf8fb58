-- The word, the number, the line feed.
-- Assumes nothing.
use Rattle.dtd_output.proofs.Refused.{tens_room, ones_room, feed_room, refused_put}
use Rattle.dtd_output.proofs.put_refused.Goals as goal

pub put_some-first-requires : goal.put_some-first-requires
put_some-first-requires c =
    tens_room c.args.refusal _ _ c.number-number.ensures c.tens.ensures _ c.requires _ _ c.put_all-word.ensures

pub put_some-last-requires : goal.put_some-last-requires
put_some-last-requires c =
    ones_room c.args.refusal _ _ c.number-number.ensures c.tens.ensures _ c.requires _ _ c.put_all-word.ensures _ _
    c.put_some-first.ensures

pub put_some-requires : goal.put_some-requires
put_some-requires c =
    feed_room c.args.refusal _ _ c.number-number.ensures c.tens.ensures _ c.requires _ _ c.put_all-word.ensures _ _
    c.put_some-first.ensures _ _ c.put_some-last.ensures

pub returns : goal.returns
returns c =
    refused_put c.args.refusal _ _ c.number-number.ensures c.tens.ensures _ c.requires _ _ c.put_all-word.ensures _ _
    c.put_some-first.ensures _ _ c.put_some-last.ensures _ _ c.put_some.ensures
