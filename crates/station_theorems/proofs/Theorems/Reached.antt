-- Every station that the rules come to is whole: made for a good ring, then led by any calls, the frames heard being fit.
-- Assumes nothing.
use mathlib.Core.Path.{sym, subst}
use Rattle.station.specs.declared.station.Station.{Station}
use Rattle.station_theorems.specs.Reached.{KeepsWhole, Reached, made_anew, by_start, by_frame, by_timer, by_queue, by_take}
use Rattle.station_theorems.specs.Shaped.{WholeStation}
use Rattle.station_theorems.proofs.Theorems.MadeWhole.{made_whole}
use Rattle.station_theorems.proofs.Theorems.StartWhole.{start_keeps_whole}
use Rattle.station_theorems.proofs.Theorems.FrameWhole.{frame_keeps_whole}
use Rattle.station_theorems.proofs.Theorems.TimerWhole.{timer_keeps_whole}
use Rattle.station_theorems.proofs.Theorems.QueueWhole.{queue_keeps_whole}
use Rattle.station_theorems.proofs.Theorems.TakeWhole.{take_keeps_whole}

pub calls_keep_whole : (s : Station) → WholeStation s → KeepsWhole s
calls_keep_whole s w =
    record {
      start = start_keeps_whole s w;
      frame = λ f from to e. frame_keeps_whole s f from to e w;
      timer = timer_keeps_whole s w;
      queue = λ q. queue_keeps_whole s q w;
      take = λ channel room. take_keeps_whole s channel room w;
    }

pub reached_whole : {t : Station} → Reached t → WholeStation t
reached_whole (made_anew n limit own a b c d e t q) = subst WholeStation (sym q) (made_whole n limit own a b c d e)
reached_whole (by_start s r t q) = subst WholeStation (sym q) (start_keeps_whole s (reached_whole r))
reached_whole (by_frame s r f from to h t q) = subst WholeStation (sym q) (frame_keeps_whole s f from to h (reached_whole r))
reached_whole (by_timer s r t q) = subst WholeStation (sym q) (timer_keeps_whole s (reached_whole r))
reached_whole (by_queue s r q t e) = subst WholeStation (sym e) (queue_keeps_whole s q (reached_whole r))
reached_whole (by_take s r channel room t q) = subst WholeStation (sym q) (take_keeps_whole s channel room (reached_whole r))
