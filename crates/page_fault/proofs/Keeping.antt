-- The words under each key stay those of its form.
use Rattle.std.proofs.Common.{◌≡◌, Bool, true, false, cond, List, [], ◌∷◌, map, sym, subst, Some}
use Rattle.std.specs.Prelude.{nat_eq, find, option_map, IfSome, All}
use Rattle.std.proofs.lemmas.List.Elements.{All-head, All-tail}
use Rattle.tnk_base.specs.declared.Key.{Key}
use Rattle.paging.specs.Pages.{Pages, touch, evict, make_room, drop_saved}
use Rattle.paging.proofs.Kept.{AreGood, touch_good, evict_good, make_room_good, without_good}
use Rattle.page_cache.specs.declared.Slot.{Slot}
use Rattle.page_cache.specs.Cache.{Held, Cache, pages_of, page_in}
use Rattle.page_fault.specs.declared.Loaded.{Loaded}
use Rattle.page_fault.specs.Loading.{HasForm}
use Rattle.page_fault.specs.Fetching.{KeepsForms}

module _ (programs : List Loaded) where
  pub good : (c : Cache) → KeepsForms programs c → AreGood (HasForm programs) (pages_of c)
  good c h = record { resident = h.resident; saved = h.saved }

  pub kept_by : (c : Cache) (p : Pages) → pages_of c ≡ p → AreGood (HasForm programs) p → KeepsForms programs c
  kept_by c p e h =
      let g : AreGood (HasForm programs) (pages_of c) = subst (AreGood (HasForm programs)) (sym e) h in
      record { resident = g.resident; saved = g.saved }

  pub kept_evicted : (old new : Cache) (k : Key) → KeepsForms programs old → pages_of new ≡ evict k (pages_of old) → KeepsForms programs new
  kept_evicted old new k h e = kept_by new (evict k (pages_of old)) e (evict_good (HasForm programs) k (pages_of old) (good old h))

  pub kept_dropped : (old new : Cache) (k : Key) → KeepsForms programs old → pages_of new ≡ drop_saved k (pages_of old) → KeepsForms programs new
  kept_dropped old new k h e =
      kept_by new (drop_saved k (pages_of old)) e (record { resident = h.resident; saved = without_good (HasForm programs) k old.saved h.saved })

  pub kept_touched : (old new : Cache) (k : Key) → KeepsForms programs old → pages_of new ≡ touch k (pages_of old) → KeepsForms programs new
  kept_touched old new k h e = kept_by new (touch k (pages_of old)) e (touch_good (HasForm programs) k (pages_of old) (good old h))

  pub kept_roomy : (old new : Cache) → KeepsForms programs old → pages_of new ≡ make_room (pages_of old) → KeepsForms programs new
  kept_roomy old new h e = kept_by new (make_room (pages_of old)) e (make_room_good (HasForm programs) (pages_of old) (good old h))

  pub form_in_slot : (c : Cache) (slot : Slot) → KeepsForms programs c → IfSome (page_in c slot) (HasForm programs)
  form_in_slot c slot h = go c.held h.resident
    where
      go : (hs : List Held) → All (HasForm programs) (map (λ h. h.page) hs) → IfSome (option_map (λ (h : Held). h.page) (find (λ h. nat_eq h.frame slot.frame) hs)) (HasForm programs)
      go [] all = tt
      go (x ∷ xs) all = by (go xs (All-tail (HasForm programs) x.page (map (λ (h : Held). h.page) xs) all)) (nat_eq x.frame slot.frame)
        where
          by : IfSome (option_map (λ (h : Held). h.page) (find (λ h. nat_eq h.frame slot.frame) xs)) (HasForm programs) → (b : Bool) →
              IfSome (option_map (λ (h : Held). h.page) (cond b (Some x) (find (λ h. nat_eq h.frame slot.frame) xs))) (HasForm programs)
          by ih true = All-head (HasForm programs) x.page (map (λ (h : Held). h.page) xs) all
          by ih false = ih
