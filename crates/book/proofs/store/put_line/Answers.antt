use mathlib.Core.Path.{sym, ◌∙◌}
use native.Mathlib.Omega.{arith}
use Rattle.book.specs.LayoutLaws.{put_in, put-out, part-written, room_for}
use Rattle.book.proofs.store.put_line.Goals as goal

pub returns-then-i-room : goal.returns-then-i-room
returns-then-i-room c = let fits = room_for _ c.if-i-room.true c.requires in
    rw c.copy_from_slice.ensures.after (part-written _ _ c.args.line.now c.args.out.now (omega arith) (omega arith) ∙ sym (put_in _ _ _ _ c.if-i-room.true))

pub returns-else-i-room : goal.returns-else-i-room
returns-else-i-room c = sym (put-out _ _ _ _ c.if-i-room.false)
