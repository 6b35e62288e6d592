-- The schedule of a good block agrees with each of its serial orders.
use Rattle.std.proofs.Common.{ℕ, List, length, refl, ◌∙◌}
use Rattle.serial_order.specs.SerialOrder.{IsOrder}
use Rattle.latency_deps.specs.Timing.{ops_of, own_timing}
use Rattle.latency_deps.specs.Rules.{end_of}
use Rattle.latency_deps.specs.Block.{Block, IsGood}
use Rattle.latency_deps.specs.Delays.{before_in}
use Rattle.latency_deps.proofs.GoodOrders.{before_is}
use Rattle.latency_deps.proofs.Meetings as meetings
use Rattle.serial_order.proofs.Members.{among_range, range_among}
use Rattle.two_timings.specs.Before.{IsSerialOrder}
use Rattle.machine_desc.specs.Description.{Description}
use Rattle.latency_deps.specs.Delays.{delay_among}
use Rattle.page_resched.specs.Block.{problem, timing_in}
use Rattle.page_resched.specs.Form.{AreInForm}
use Rattle.page_resched.specs.Laws.{IsMovable, SchedulesAgree}
use Rattle.page_resched.proofs.Settings.{IsMoved}
use Rattle.page_resched.proofs.Movable.{is_block}
use Rattle.page_resched.proofs.Moved.{keeps, full, moved}
use Rattle.page_resched.proofs.Kept.{kept_delays_agree}

module _ (b : Block) (g : Description) (new : List ℕ) (m : IsMovable b g) (f : AreInForm g b new) where
  abbrev end : ℕ
  end = end_of b.words

  pub is_moved : IsMoved (ops_of b.words) (own_timing m.good.description b.words) g (timing_in g f.schedule f.listed) f.schedule.end
  is_moved = moved (ops_of b.words) (own_timing m.good.description b.words) end g (length b.words) (delay_among g b) f.schedule f.listed (is_block b g m) f.scheduled f.listing

-- a serial order by the test is one by the relation
serial : (b : Block) (good : IsGood b) (order : List ℕ) → IsOrder (before_in b) (length b.words) order → IsSerialOrder (ops_of b.words) (own_timing good.description b.words) order
serial b good order o =
    let n = length b.words in
    let own = own_timing good.description b.words in
    record {
      complete = record {
        each_once = o.each_once;
        same = λ k. (λ a. among_range n k ((o.complete k).0 a), λ a. (o.complete k).1 (range_among n k a));
      };
      kept = λ i j a c ne before.
          let inside = range_among n i a in
          let below_n = range_among n j c in
          o.kept i j inside below_n (before_is b good i j inside below_n ∙ (meetings.before_decided (ops_of b.words) own n refl i j inside below_n).1 (ne, before));
    }

pub schedules_agree : SchedulesAgree
schedules_agree b g new m f order o =
    let ops = ops_of b.words in
    let own = own_timing m.good.description b.words in
    let n = length b.words in
    let d = delay_among g b in
    let block = is_block b g m in
    let q = is_moved b g new m f in
    let s = serial b m.good order o in
    record {
      timing = q.timing;
      complete = record {
        each_once = o.each_once;
        same = λ k. (λ a. (q.complete.same k).1 ((s.complete.same k).0 a), λ a. (s.complete.same k).1 ((q.complete.same k).0 a));
      };
      agrees = kept_delays_agree ops own g (problem g b) f.schedule f.listed block.are
          (full ops own (end_of b.words) g n d f.schedule f.listed block f.scheduled f.listing)
          (keeps ops own (end_of b.words) g n d f.schedule f.listed block f.scheduled f.listing)
          f.listing order block.times.landing s;
    }
