-- `hearing::decide_packet` meets its contract: the table of moves, the checks, the reading, then what the frame asks for.
use mathlib.Core.Path.{◌∙◌}
use Rattle.driver_calls.proofs.Laws.Hearing.{packet_stops, packet_refused, packet_unread, packet_read}
use Rattle.driver_calls.proofs.hearing.decide_packet.Goals as goal

pub returns-then-m-ne-RUN : goal.returns-then-m-ne-RUN
returns-then-m-ne-RUN c = c.refuse.ensures ∙ packet_stops _ _ _ _ _ c.move_of-m.ensures c.if-m-ne-RUN.true

pub returns-then-k-ne0 : goal.returns-then-k-ne0
returns-then-k-ne0 c = c.refuse-then-k-ne0.ensures ∙ packet_refused _ _ _ _ _ c.move_of-m.ensures c.if-m-ne-RUN.false c.seat-f.ensures c.seat-t.ensures c.checks-k.ensures c.if-k-ne0.true

pub returns-in-Refused : goal.returns-in-Refused
returns-in-Refused c = c.refuse-in-Refused.ensures ∙ packet_unread _ _ _ _ _ c.move_of-m.ensures c.if-m-ne-RUN.false c.seat-f.ensures c.seat-t.ensures c.checks-k.ensures c.if-k-ne0.false c.read_packet.ensures _ _ c.in-Refused.is c.number_of.ensures

pub returns-in-Good : goal.returns-in-Good
returns-in-Good c = c.decide.ensures ∙ packet_read _ _ _ _ _ c.move_of-m.ensures c.if-m-ne-RUN.false c.seat-f.ensures c.seat-t.ensures c.checks-k.ensures c.if-k-ne0.false c.read_packet.ensures _ _ c.in-Good.is c.frame_of.ensures
