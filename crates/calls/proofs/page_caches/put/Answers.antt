use Rattle.std.proofs.Common.{◌≡◌, false, sym, subst, ◌∙◌}
use Rattle.paging.specs.Pages.{Pages, has}
use Rattle.page_cache.specs.Cache.{pages_of}
use Rattle.calls.proofs.Cached.{untouched, as_roomy}
use Rattle.calls.proofs.page_caches.put.Goals as goal

pub put-requires-clause-room : goal.put-requires-clause-room
put-requires-clause-room c =
    let absent = sym c.find.ensures.found ∙ (sym c.is_some.ensures ∙ c.if-is_some.false) in
    let same = c.find.ensures.pages ∙ untouched c.args.key (pages_of c.make_room.new.self) absent in
    as_roomy c.make_room.new.self c.find.new.self same c.make_room.ensures.room

pub put-requires-clause-absent : goal.put-requires-clause-absent
put-requires-clause-absent c =
    let absent = sym c.find.ensures.found ∙ (sym c.is_some.ensures ∙ c.if-is_some.false) in
    let same = c.find.ensures.pages ∙ untouched c.args.key (pages_of c.make_room.new.self) absent in
    subst (λ (p : Pages). has c.args.key p.resident ≡ false) (sym same) absent
