use Rattle.page_fault.proofs.Keeping.{kept_dropped}
use Rattle.page_fault.proofs.loader.Loader.drop_saved.Goals as goal

pub invariant_of-self : goal.invariant_of-self
invariant_of-self c = record {
  units = c.self.invariant.units;
  forms = kept_dropped c.self.inside.programs.items c.self.inside.cache c.drop_saved.new.self c.args.key c.self.invariant.forms c.drop_saved.ensures.pages;
  room = c.self.invariant.room;
}
