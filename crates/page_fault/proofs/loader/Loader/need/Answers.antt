use Rattle.std.proofs.Common.{List, ℕ, length, ap, sym, subst, ◌∙◌}
use Rattle.std.specs.Prelude.{Bool, if◌then◌else◌}
use Rattle.paging.specs.Pages.{one_more}
use Rattle.page_cache.specs.Cache.{pages_of}
use Rattle.page_fault.specs.Loading.{Loading, IsNeeded}
use Rattle.page_fault.specs.Fetching.{IsFetched}
use Rattle.page_fault.proofs.Keeping.{kept_touched, kept_roomy}
use Rattle.page_fault.proofs.Needing.{found_so, roomy_so, written_back, still_absent, still_there, put_keeps, put_so, saved_words}
use Rattle.page_fault.proofs.loader.Loader.need.Goals as goal

pub invariant_of-self : goal.invariant_of-self
invariant_of-self c = record {
  units = c.self.invariant.units;
  forms = kept_touched c.self.inside.programs.items c.self.inside.cache c.find.new.self c.args.key c.self.invariant.forms c.find.ensures.pages;
  room = c.self.invariant.room;
}

pub fetch-from-requires-clause-saved : goal.fetch-from-requires-clause-saved
fetch-from-requires-clause-saved c =
    (kept_roomy c.self.inside.programs.items c.find.new.self c.make_room.new.self
    (kept_touched c.self.inside.programs.items c.self.inside.cache c.find.new.self c.args.key c.self.invariant.forms c.find.ensures.pages) c.make_room.ensures.pages).saved

pub returns-in-Some : goal.returns-in-Some
returns-in-Some c =
    let programs = c.self.inside.programs.items in
    let old : Loading = record { programs = programs; cache = c.self.inside.cache; loaded = c.self.inside.loaded; rescheduled = c.self.inside.rescheduled; restored = c.self.inside.restored } in
    let new : Loading = record { programs = programs; cache = c.find.new.self; loaded = c.self.inside.loaded; rescheduled = c.self.inside.rescheduled; restored = c.self.inside.restored } in
    subst (λ (l : Loading). IsNeeded l new c.args.key c.in-Some.slot) c.self.view_is
    (found_so old c.args.key c.find.new.self c.in-Some.slot c.self.invariant.forms c.in-Some.ensures.found c.in-Some.ensures.slot c.in-Some.ensures.below c.find.ensures.pages c.find.ensures.frames)

pub put-requires-clause-absent : goal.put-requires-clause-absent
put-requires-clause-absent c =
    let p = pages_of c.self.inside.cache in
    still_absent c.args.key p (pages_of c.make_room.new.self) c.in-None.ensures.found
    (roomy_so c.args.key p (pages_of c.find.new.self) (pages_of c.make_room.new.self) c.in-None.ensures.found c.find.ensures.pages c.make_room.ensures.pages)

pub put-requires-clause-kept : goal.put-requires-clause-kept
put-requires-clause-kept c =
    let back =
    written_back c.self.inside.out.len c.self.inside.out.items c.deref_mut.result.now c.fetch-from.new.out c.self.invariant.room c.deref_mut.ensures.value c.deref_mut.ensures.len c.fetch-from.auto.out in
    saved_words c.self.inside.programs.items c.make_room.new.self c.args.key c.deref.result.now c.fetch-from.result
    (subst (λ (w : List ℕ). IsFetched c.self.inside.programs.items c.make_room.new.self (record { key = c.args.key; words = w }) c.fetch-from.result) (sym (c.deref.ensures.value ∙ back.0)) c.fetch-from.ensures).came

pub invariant_of-self-in-None : goal.invariant_of-self-in-None
invariant_of-self-in-None c =
    let programs = c.self.inside.programs.items in
    let back =
    written_back c.self.inside.out.len c.self.inside.out.items c.deref_mut.result.now c.fetch-from.new.out c.self.invariant.room c.deref_mut.ensures.value c.deref_mut.ensures.len c.fetch-from.auto.out in
    record {
      units = c.self.invariant.units;
      forms =
          put_keeps programs c.args.key c.deref.result.now c.make_room.new.self c.put.new.self c.put.result c.fetch-from.result
          (kept_roomy programs c.find.new.self c.make_room.new.self
          (kept_touched programs c.self.inside.cache c.find.new.self c.args.key c.self.invariant.forms c.find.ensures.pages) c.make_room.ensures.pages)
          (subst (λ (w : List ℕ). IsFetched programs c.make_room.new.self (record { key = c.args.key; words = w }) c.fetch-from.result) (sym (c.deref.ensures.value ∙ back.0)) c.fetch-from.ensures)
          c.put.ensures.put;
      room = ap length back.0 ∙ back.1;
    }

pub returns-in-None : goal.returns-in-None
returns-in-None c =
    let programs = c.self.inside.programs.items in
    let old : Loading = record { programs = programs; cache = c.self.inside.cache; loaded = c.self.inside.loaded; rescheduled = c.self.inside.rescheduled; restored = c.self.inside.restored } in
    let new : Loading = record { programs = programs; cache = c.put.new.self; loaded = c.more-self-inside-in-None-2.result; rescheduled = c.more-self-inside-in-None.result; restored = c.more-self-inside.result } in
    let p = pages_of c.self.inside.cache in
    let back =
    written_back c.self.inside.out.len c.self.inside.out.items c.deref_mut.result.now c.fetch-from.new.out c.self.invariant.room c.deref_mut.ensures.value c.deref_mut.ensures.len c.fetch-from.auto.out in
    subst (λ (l : Loading). IsNeeded l new c.args.key c.put.result) c.self.view_is
    (put_so old c.args.key c.deref.result.now c.make_room.new.self c.put.new.self c.put.result c.fetch-from.result
    c.more-self-inside-in-None-2.result c.more-self-inside-in-None.result c.more-self-inside.result c.in-None.ensures.found
    (roomy_so c.args.key p (pages_of c.find.new.self) (pages_of c.make_room.new.self) c.in-None.ensures.found c.find.ensures.pages c.make_room.ensures.pages)
    (still_there c.self.inside.cache c.find.new.self c.make_room.new.self c.find.ensures.frames c.make_room.ensures.frames)
    (subst (λ (w : List ℕ). IsFetched programs c.make_room.new.self (record { key = c.args.key; words = w }) c.fetch-from.result) (sym (c.deref.ensures.value ∙ back.0)) c.fetch-from.ensures)
    c.put.ensures.put c.put.ensures.below c.more-self-inside-in-None-2.ensures
    (c.more-self-inside-in-None.ensures ∙ ap (λ (b : Bool). if b then one_more c.self.inside.rescheduled else c.self.inside.rescheduled) c.was_moved.ensures)
    (c.more-self-inside.ensures ∙ ap (λ (b : Bool). if b then one_more c.self.inside.restored else c.self.inside.restored) c.was_saved.ensures))
