-- `put_some` meets its contract: a byte 0 puts nothing, another is put alone.
-- Assumes nothing.
use Rattle.byte_buffer.proofs.Puts.{put_none, put_one, room_one}
use Rattle.byte_buffer.proofs.put_some.Goals as goal

pub returns-then-byte-eq0 : goal.returns-then-byte-eq0
returns-then-byte-eq0 c = put_none _ _ _ c.if-byte-eq0.true

pub bounds-buffer-at : goal.bounds-buffer-at
bounds-buffer-at c = room_one _ _ _ c.if-byte-eq0.false c.requires

pub returns : goal.returns
returns c = put_one _ _ _ c.if-byte-eq0.false
